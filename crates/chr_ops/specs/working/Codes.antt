-- The codes of ids and ranges, which the views of types need.
use Rattle.std.specs.Prelude.{ℕ}
use Rattle.std.proofs.Common.{refl}
use Rattle.std.specs.Coded.{Coded, code_by, coded×, coded_ℕ}
use Rattle.chr_ops.specs.declared.id.OpId.{OpId}
use Rattle.chr_ops.specs.declared.range.IdRange.{IdRange}

abbrev pub coded_id : Coded OpId
coded_id =
    code_by (ℕ × ℕ) (coded× coded_ℕ coded_ℕ) (λ a. (a.origin, a.number))
    (λ p. record { origin = p.0; number = p.1 }) (λ _. refl)

abbrev pub coded_range : Coded IdRange
coded_range =
    code_by (ℕ × (ℕ × ℕ)) (coded× coded_ℕ (coded× coded_ℕ coded_ℕ)) (λ r. (r.origin, (r.lo, r.hi)))
    (λ p. record { origin = p.0; lo = p.1.0; hi = p.1.1 }) (λ _. refl)
