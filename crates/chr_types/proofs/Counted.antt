-- Counting by visits.
use Rattle.std.specs.Prelude.{◌≡◌, ℤ, ◌+◌, ◌<◌, ◌≤◌, Bool, true, false, cond, List, [], ◌∷◌, ◌++◌, length}
use mathlib.Core.Bool.{true≢false}
use Rattle.std.specs.List.{filter}
use Rattle.std.proofs.Common.{refl, sym, ap, ◌∙◌, inl, inr, arith}
use Rattle.chr_types.specs.Visits.{are_admitted, CountsOne, Visited}
use Rattle.chr_types.specs.declared.visitors.LimitedCount.{LimitedCount}

abbrev pub Step : LimitedCount → List ℤ → Bool → LimitedCount → Type 0
Step v r stops w = CountsOne v stops w

pub counted_past : (rs : List (List ℤ)) (v w : LimitedCount) → Visited Step v rs true w → v.limit < v.found + length rs
counted_past [] v w x = absurd (true≢false x.0)
counted_past (r ∷ rs) v w x = elim x as (λ _. v.limit < v.found + length (r ∷ rs)) [
  | inl s ↦ (let l = s.1.full refl in omega (arith, l))
  | inr s ↦ (let ih = counted_past rs s.0 w s.2 in let m = s.1.more refl in let a = m.0 in let b = m.1 in
      omega (arith, ih, a, b))
]

pub counted_within : (rs : List (List ℤ)) (v w : LimitedCount) → v.found ≤ v.limit → Visited Step v rs false w
    → v.found + length rs ≤ v.limit
counted_within [] v w l x = omega (arith, l)
counted_within (r ∷ rs) v w l x = elim x as (λ _. v.found + length (r ∷ rs) ≤ v.limit) [
  | inl s ↦ absurd (true≢false (sym s.0))
  | inr s ↦ (let m = s.1.more refl in let a = m.0 in let b = m.1 in let c = m.2 in let ih =
      counted_within rs s.0 w (omega (arith, a, b, c)) s.2 in omega (arith, ih, a, b))
]

any_passes : (p q : List ℤ) → are_admitted (λ _. true) p q ≡ true
any_passes p [] = refl
any_passes p (v ∷ q) = any_passes (p ++ v ∷ []) q

pub all_pass : (rs : List (List ℤ)) → filter (are_admitted (λ _. true) []) rs ≡ rs
all_pass [] = refl
all_pass (r ∷ rs) = ap (λ b. cond b (r ∷ filter (are_admitted (λ _. true) []) rs)
    (filter (are_admitted (λ _. true) []) rs)) (any_passes [] r) ∙ ap (λ ys. r ∷ ys) (all_pass rs)
