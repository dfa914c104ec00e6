-- The codes of leases, replicas and boards, which the views of types need.
use Rattle.std.specs.Prelude.{ℕ}
use Rattle.std.proofs.Common.{refl}
use Rattle.std.specs.Coded.{Coded, code_by, coded×, coded_ℕ}
use Rattle.std.specs.FinMap as map
use Rattle.chr_base.specs.Stores.{Store}
use Rattle.chr_base.specs.working.Codes.{code, coded_atom}
use Rattle.chr_join.specs.declared.accepted.Accepted.{Accepted}
use Rattle.chr_join.specs.contracts.accepted.Accepted.{the_row}
use Rattle.chr_ops.specs.Operations.{Operations}
use Rattle.chr_ops.specs.working.Codes.{coded_id}
use Rattle.chr_replica.specs.Boards.{Held}
use Rattle.chr_replica.specs.Leases.{Leases}
use Rattle.chr_replica.specs.Replicas.{Replica}

abbrev pub coded_leases : Coded Leases
coded_leases = map.code coded_ℕ (code coded_atom)

abbrev pub coded_replica : Coded Replica
coded_replica =
    code_by (Operations × (Store × (Leases × ℕ)))
    (coded× (map.code coded_id (code coded_atom)) (coded× (code coded_atom) (coded× coded_leases coded_ℕ)))
    (λ s. (s.operations, (s.pool, (s.out, s.next))))
    (λ p. record { operations = p.0; pool = p.1.0; out = p.1.1.0; next = p.1.1.1 }) (λ _. refl)

abbrev pub coded_held : Coded Held
coded_held =
    code_by (Accepted × Replica) (coded× the_row.coded coded_replica) (λ b. (b.accepted, b.replica))
    (λ p. record { accepted = p.0; replica = p.1 }) (λ _. refl)
