use Rattle.std.proofs.Common.{ap, ◌∙◌}
use Rattle.chr_base.specs.Atoms.{atom_cmp}
use Rattle.chr_base.specs.FinBag.{of_list}
use Rattle.chr_base.proofs.FinBags.{of_list-none}
use Rattle.chr_base.proofs.bag.Bag.new.Goals as goal

pub returns : goal.returns
returns c = ap of_list c.new.ensures.items ∙ of_list-none atom_cmp
