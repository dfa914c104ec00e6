use Rattle.std.proofs.Common.{ap, ◌∙◌}
use Rattle.std.specs.FinMap as map
use Rattle.chr_replica.proofs.LeaseLists.{one_inserted}
use Rattle.chr_replica.proofs.leases.Leases.insert.Goals as goal

pub returns-clause-ok : goal.returns-clause-ok
returns-clause-ok c =
    one_inserted c.self.inside.parts.entries c.insert.new.self.entries c.args.number c.args.part
    c.in_ok-insert.ensures.updates.0
    ∙ ap (λ m. map.insert m c.args.number c.args.part) c.self.view_is
