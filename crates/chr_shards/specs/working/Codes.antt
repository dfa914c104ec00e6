-- The code of a store under rules, which the view of shards needs.
use Rattle.std.proofs.Common.{refl}
use Rattle.std.specs.Coded.{Coded, code_by, coded×}
use Rattle.chr_base.specs.Stores.{Store}
use Rattle.chr_base.specs.working.Codes.{code, coded_atom}
use Rattle.chr_weights.specs.declared.weighed.Weighed.{Weighed}
use Rattle.chr_weights.specs.contracts.weighed.Weighed.{the_row}
use Rattle.chr_shards.specs.Ruled.{Ruled}

abbrev pub coded_ruled : Coded Ruled
coded_ruled =
    code_by (Weighed × Store) (coded× the_row.coded (code coded_atom)) (λ r. (r.weighed, r.store))
    (λ p. record { weighed = p.0; store = p.1 }) (λ _. refl)
