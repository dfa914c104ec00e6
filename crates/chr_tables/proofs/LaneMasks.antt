-- The mask of a comparison of eight lanes.
use Rattle.std.proofs.Common.{◌≡◌, ℕ, ℤ, ◌-◌, ◌/◌, ◌%◌, ◌^◌, ◌<◌, Bool, List, length, map, take, get_or, pos, true}
use Rattle.std.proofs.Common.{false, not, cond, nat_eq, refl, sym, ap, ◌∙◌, arith, of_z, w64}
use lib.Lanes.{mask_l, zip2, top}
use Rattle.std.proofs.Math.Nat.{zero-div}
use Rattle.std.proofs.lemmas.Simd.{tops_compared, mask_l-mod, bit_mask_l, length-zip2, get_or-zip2}
use Rattle.std.proofs.lemmas.List.{get_or-map, take_all, length-map}
use Rattle.std.proofs.lemmas.Bool.Decides.{nat_tests}

zero_of : (n : ℕ) → not (nat_eq n 0) ≡ false → n ≡ 0
zero_of n e = grind (arith, nat_tests)

unset : (b : Bool) → ◌≡◌ {A = ℕ} (cond b 1 0) 0 → b ≡ false
unset true e = absurd (omega (arith, e))
unset false e = refl

-- where no bit is set, each is unset
bit_of_zero : (ms : List Bool) (i : ℕ) → mask_l ms ≡ 0 → get_or ms i false ≡ false
bit_of_zero ms i e =
    unset (get_or ms i false)
    (sym (bit_mask_l ms i) ∙ ap (λ n. n / 2 ^ i % 2) e ∙ ap (λ n. n % 2) (zero-div (2 ^ i)))

abbrev pub bits_of : List ℤ → List ℕ
bits_of xs = map (of_z w64) xs

-- where the mask of the comparison t of eight lanes is empty, t fails in each
pub fails_in_each : (t : ℕ → ℕ → Bool) (xs ys : List ℤ) → length xs ≡ 8 → length ys ≡ 8
    → not (nat_eq (mask_l (map (top 63) (zip2 (λ a b. cond (t a b) (2 ^ 64 - 1) 0) (bits_of (take 8 xs))
    (bits_of (take 8 ys)))) % 2 ^ 64) 0) ≡ false
    → (lane : ℕ) → lane < 8 → t (of_z w64 (get_or xs lane (pos 0))) (of_z w64 (get_or ys lane (pos 0))) ≡ false
fails_in_each t xs ys l m e lane below =
    let all_x : take 8 xs ≡ xs = take_all 8 xs (omega (arith, l)) in
    let all_y : take 8 ys ≡ ys = take_all 8 ys (omega (arith, m)) in
    let lx : length (bits_of xs) ≡ 8 = length-map xs (of_z w64) ∙ l in
    let ly : length (bits_of ys) ≡ 8 = length-map ys (of_z w64) ∙ m in
    let ms : List Bool = zip2 t (bits_of xs) (bits_of ys) in
    let long : length ms ≡ 8 = length-zip2 t (bits_of xs) (bits_of ys) (lx ∙ sym ly) ∙ lx in
    let whole = rw (all_x, all_y) at (zero_of _ e) in
    let tops = tops_compared w64 t (bits_of xs) (bits_of ys) in
    let none : mask_l ms ≡ 0 = sym (mask_l-mod ms 64 (omega (arith, long))) ∙ ap (λ bs. mask_l bs % 2 ^ 64) (sym tops)
    ∙ whole in
    let here : get_or ms lane false ≡ t (get_or (bits_of xs) lane 0) (get_or (bits_of ys) lane 0) =
    get_or-zip2 t (bits_of xs) (bits_of ys) lane 0 0 false (omega (arith, lx, below)) (omega (arith, ly, below)) in
    let x : get_or (bits_of xs) lane 0 ≡ of_z w64 (get_or xs lane (pos 0)) =
    get_or-map (of_z w64) xs lane (pos 0) 0 (omega (arith, l, below)) in
    let y : get_or (bits_of ys) lane 0 ≡ of_z w64 (get_or ys lane (pos 0)) =
    get_or-map (of_z w64) ys lane (pos 0) 0 (omega (arith, m, below)) in
    ap (λ b. t (of_z w64 (get_or xs lane (pos 0))) b) (sym y) ∙ ap (λ a. t a (get_or (bits_of ys) lane 0)) (sym x)
    ∙ sym here ∙ bit_of_zero ms lane none
