-- Ids that follow each other, as ranges.
use Rattle.std.specs.Prelude.{◌≡◌, ℕ, zero, suc, ◌+◌, ◌<◌, ◌≤◌, Bool, true, false, ◌||◌, List, [], ◌∷◌, length}
use Rattle.std.specs.Prelude.{slice_set}
use Rattle.std.proofs.Common.{refl, sym, ap, ◌∙◌, arith, get_or}
use Rattle.std.specs.Ordering.{eq_by_cmp}
use Rattle.std.proofs.Math.Bool.{or-false, or-true, or_assoc}
use Rattle.std.proofs.lemmas.Bool.Decides.{nat_tests}
use Rattle.chr_ops.specs.declared.id.OpId.{OpId}
use Rattle.chr_ops.specs.declared.range.IdRange.{IdRange}
use Rattle.chr_ops.specs.Ids.{id_cmp}
use Rattle.chr_ops.specs.Summaries.{in_range, covers}

aside : (a b c : Bool) → ((a || b) || c) ≡ ((a || c) || b)
aside true b c = refl
aside false true c = sym (or-true c)
aside false false c = sym (or-false c)

-- where one of the ranges gets an id, the ranges cover it
pub one_gains : (rs : List IdRange) (i : ℕ) (d r : IdRange) (q : OpId) (b : Bool) → i < length rs
    → in_range r q ≡ (in_range (get_or rs i d) q || b) → covers (slice_set rs i r) q ≡ (covers rs q || b)
one_gains [] i d r q b there h = absurd (omega (arith, there))
one_gains (s ∷ rs) zero d r q b there h = ap (λ x. x || covers rs q) h ∙ aside (in_range s q) b (covers rs q)
one_gains (s ∷ rs) (suc i) d r q b there h =
    ap (λ x. in_range s q || x) (one_gains rs i d r q b (omega (arith, there)) h)
    ∙ sym (or_assoc (in_range s q) (covers rs q) b)

-- a range that ends right before an id gets it as its last
pub one_further : (r : IdRange) (id q : OpId) → r.lo ≤ r.hi → r.origin ≡ id.origin → r.hi + 1 ≡ id.number
    → in_range record { origin = r.origin; lo = r.lo; hi = id.number } q ≡ (in_range r q || eq_by_cmp id_cmp q id)
one_further r id q range same next = grind (arith, nat_tests)
