use Rattle.std.proofs.Common.{ap, ◌∙◌}
use Rattle.std.specs.FinMap as map
use Rattle.chr_ops.proofs.EntryLists.{one_removed}
use Rattle.chr_ops.proofs.ends.Ends.remove.Goals as goal

pub returns : goal.returns
returns c = one_removed c.self.inside.last.entries c.remove.new.self.entries c.args.first c.remove.ensures.updates.0
    ∙ ap (λ m. map.remove m c.args.first) c.self.view_is
