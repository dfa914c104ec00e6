-- The code of worlds, which the view of their type needs.
use Rattle.std.proofs.Common.{refl}
use Rattle.std.specs.Coded.{Coded, code_by, coded×, coded_list}
use Rattle.chr_join.specs.declared.accepted.Accepted.{Accepted}
use Rattle.chr_join.specs.contracts.accepted.Accepted.{the_row}
use Rattle.chr_replica.specs.working.Codes.{coded_replica}
use Rattle.chr_worlds.specs.Worlds.{Replicas}
use Rattle.chr_worlds.specs.Sharing.{Shared}

abbrev pub coded_shared : Coded Shared
coded_shared =
    code_by (Accepted × Replicas) (coded× the_row.coded (coded_list coded_replica)) (λ w. (w.accepted, w.replicas))
    (λ p. record { accepted = p.0; replicas = p.1 }) (λ _. refl)
