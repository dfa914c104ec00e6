-- One byte of a text.
use Rattle.std.proofs.Common.{◌≡◌, ℕ, zero, suc, ◌+◌, ◌<◌, List, [], ◌∷◌, length, drop, refl, sym, ap, ◌∙◌, arith}

-- the byte at a place, and what comes after it
pub one_at : (at : ℕ) (l : List ℕ) → at < length l → (b : ℕ) × (drop at l ≡ b ∷ drop (at + 1) l)
one_at zero [] h = absurd (omega (arith, h))
one_at zero (x ∷ xs) h = (x, refl)
one_at (suc n) [] h = absurd (omega (arith, h))
one_at (suc n) (x ∷ xs) h =
    let one = one_at n xs (omega (arith, h)) in
    let next : suc n + 1 ≡ suc (n + 1) = omega arith in
    (one.0, one.1 ∙ ap (λ m. one.0 ∷ drop m (x ∷ xs)) (sym next))
