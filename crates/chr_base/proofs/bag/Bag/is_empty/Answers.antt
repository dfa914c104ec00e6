use Rattle.std.proofs.Common.{ap, ◌∙◌, length}
use Rattle.std.specs.Prelude.{nat_eq}
use Rattle.chr_base.proofs.Sorting.{empty_or_not}
use Rattle.chr_base.proofs.bag.Bag.is_empty.Goals as goal

pub returns : goal.returns
returns c = empty_or_not _ _ (c.is_empty.ensures ∙ ap (λ xs. nat_eq (length xs) 0) c.atoms.ensures)
