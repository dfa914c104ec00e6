use Rattle.std.proofs.Common.{sym, ap, ◌∙◌}
use Rattle.std.specs.FinMap as map
use Rattle.chr_replica.proofs.LeaseLists.{get_part}
use Rattle.chr_replica.proofs.leases.Leases.get.Goals as goal

pub returns : goal.returns
returns c = c.get.ensures.value ∙ sym (get_part c.self.inside.parts.entries c.args.number)
    ∙ ap (λ m. map.get m c.args.number) c.self.view_is
