use Rattle.std.proofs.Common.{ap, ◌∙◌}
use Rattle.std.specs.FinMap as map
use Rattle.chr_replica.proofs.LeaseLists.{one_removed}
use Rattle.chr_replica.proofs.leases.Leases.remove.Goals as goal

pub returns : goal.returns
returns c =
    one_removed c.self.inside.parts.entries c.remove.new.self.entries c.args.number c.remove.ensures.updates.0
    ∙ ap (λ m. map.remove m c.args.number) c.self.view_is
