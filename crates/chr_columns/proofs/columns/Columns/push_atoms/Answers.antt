use Rattle.std.proofs.Common.{◌∙◌}
use Rattle.chr_columns.specs.working.Listing.{all_of}
use Rattle.chr_columns.proofs.Listed.{pushed_all}
use Rattle.chr_columns.proofs.columns.Columns.push_atoms.Goals as goal

pub returns-clause-ok : goal.returns-clause-ok
returns-clause-ok c =
    pushed_all c.push_stored.result c.deref.result.now c.deref-2.result.now c.args.atoms.now.items
    c.push_stored.new.atoms.items c.args.self.now
    ((λ i. all_of (c.deref.ensures.value i) (c.deref-2.ensures.value i)) ∙ c.self.view_is) c.push_stored.ensures.ok
