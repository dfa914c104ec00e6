-- The order of ids is total, and only equal ids tie.
use Rattle.std.specs.Prelude.{◌≡◌, ℕ, true}
use Rattle.std.proofs.Common.{ap}
use Rattle.std.specs.Ordering.{nat_cmp, eq_by_cmp}
use Rattle.std.specs.Cmp.{IsTotalOrder, Equal-is, on_total, then_total, nat_cmp_total}
use Rattle.std.specs.FinMap.{IsAntisymmetric, nat_cmp-IsAntisymmetric}
use Rattle.std.proofs.lemmas.Map.Lookups.{exact_pairs}
use Rattle.chr_ops.specs.declared.id.OpId.{OpId}
use Rattle.chr_ops.specs.Ids.{id_cmp}

pub id_total : IsTotalOrder id_cmp
id_total = then_total (on_total (λ a. a.origin) nat_cmp_total) (on_total (λ a. a.number) nat_cmp_total)

-- ids that compare as equal are one
pub id_exact : IsAntisymmetric id_cmp
id_exact a b h =
    ap (λ (p : ℕ × ℕ). record { origin = p.0; number = p.1 })
    (exact_pairs nat_cmp nat_cmp nat_cmp-IsAntisymmetric nat_cmp-IsAntisymmetric (a.origin, a.number)
    (b.origin, b.number) h)

-- two ids of which a look-up finds one by the other are equal
pub same_id : (a b : OpId) → eq_by_cmp id_cmp a b ≡ true → a ≡ b
same_id a b h = id_exact a b ((Equal-is (id_cmp a b)).0 h)
