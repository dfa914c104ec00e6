-- Each class but the first is less than it, equal to it or greater. All such answers are those of lists of three values
-- behind the one in the middle, so of n classes there are at least 3 ^ (n - 1) order types, whatever the constants.
use Rattle.std.specs.Prelude.{◌≡◌, ℕ, suc, zero, ℤ, pos, ◌*◌, ◌^◌, ◌<◌, ◌<ℤ◌, ◌≤◌, List, [], ◌∷◌, length, map}
use Rattle.std.proofs.Common.{refl, sym, ap, subst, ◌∙◌, inl, inr, arith}
use Rattle.std.proofs.lemmas.Int.{ints}
use Rattle.std.proofs.lemmas.List.{length-map}
use Rattle.std.proofs.Math.Nat.{pow-suc}
use Rattle.std.proofs.Math.Pow.{pow_mono}
use mathlib.Core.Bool.{true≢false}
use Rattle.std.specs.Ordering.{int_cmp, is_eq, is_lt}
use Rattle.chr_types.specs.OrderTypes.{In, Rises, SameType, IsValue, AreValues, TypesDiffer, MoreTypesThan}
use Rattle.chr_types.proofs.Members.{in_map, in_zip}
use Rattle.chr_types.proofs.ConstantLists.{words, length-words, in_words, words_differ}

abbrev three : List ℤ
three = pos 0 ∷ pos 1 ∷ pos 2 ∷ []

three_rise : Rises three
three_rise = (rest, (last, ((λ y i. absurd i), tt)))
  where
    rest : (y : ℤ) → In y (pos 1 ∷ pos 2 ∷ []) → pos 0 <ℤ y
    rest y (inl e) = omega (arith, ints, e)
    rest y (inr (inl e)) = omega (arith, ints, e)
    rest y (inr (inr n)) = absurd n

    last : (y : ℤ) → In y (pos 2 ∷ []) → pos 1 <ℤ y
    last y (inl e) = omega (arith, ints, e)
    last y (inr n) = absurd n

three_values : AreValues three
three_values v (inl e) = (omega (arith, ints, e), omega (arith, ints, e))
three_values v (inr (inl e)) = (omega (arith, ints, e), omega (arith, ints, e))
three_values v (inr (inr (inl e))) = (omega (arith, ints, e), omega (arith, ints, e))
three_values v (inr (inr (inr n))) = absurd n

beside : ℤ → List ℤ → List ℤ
beside v xs = v ∷ xs

-- which of the three it is tells how it compares with the middle one
compared : (u v x y : ℤ) → x ≡ u → y ≡ v → int_cmp (pos 1) x ≡ int_cmp (pos 1) y → int_cmp (pos 1) u ≡ int_cmp (pos 1) v
compared u v x y e f h = ap (int_cmp (pos 1)) (sym e) ∙ h ∙ ap (int_cmp (pos 1)) f

is_told : (x y : ℤ) → In x three → In y three → int_cmp (pos 1) x ≡ int_cmp (pos 1) y → x ≡ y
is_told x y (inl e) (inl f) h = e ∙ sym f
is_told x y (inl e) (inr (inl f)) h = absurd (true≢false (sym (ap is_eq (compared (pos 0) (pos 1) x y e f h))))
is_told x y (inl e) (inr (inr (inl f))) h =
    absurd (true≢false (sym (ap is_lt (compared (pos 0) (pos 2) x y e f h))))
is_told x y (inr (inl e)) (inl f) h = absurd (true≢false (ap is_eq (compared (pos 1) (pos 0) x y e f h)))
is_told x y (inr (inl e)) (inr (inl f)) h = e ∙ sym f
is_told x y (inr (inl e)) (inr (inr (inl f))) h = absurd (true≢false (ap is_eq (compared (pos 1) (pos 2) x y e f h)))
is_told x y (inr (inr (inl e))) (inl f) h = absurd (true≢false (ap is_lt (compared (pos 2) (pos 0) x y e f h)))
is_told x y (inr (inr (inl e))) (inr (inl f)) h =
    absurd (true≢false (sym (ap is_eq (compared (pos 2) (pos 1) x y e f h))))
is_told x y (inr (inr (inl e))) (inr (inr (inl f))) h = e ∙ sym f
is_told x y (inr (inr (inr n))) j h = absurd n
is_told x y (inl e) (inr (inr (inr n))) h = absurd n
is_told x y (inr (inl e)) (inr (inr (inr n))) h = absurd n
is_told x y (inr (inr (inl e))) (inr (inr (inr n))) h = absurd n

abbrev Within : List ℤ → Type 0
Within xs = (v : ℤ) → In v xs → In v three

-- behind the middle one they have one type only where they have one among the three
without_first : (cs xs ys : List ℤ) → Within xs → Within ys → SameType cs (beside (pos 1) xs) (beside (pos 1) ys)
    → SameType three xs ys
unfolding beside
without_first cs xs ys a b s = record {
  count = (let n = s.count in omega (arith, n));
  classes = λ p q i j. s.classes p q (inr i) (inr j);
  against = λ p c i j. (let m = in_zip xs ys p i in
      ap (λ v. int_cmp v c)
      (is_told p.0 p.1 (a p.0 m.0) (b p.1 m.1) (s.classes (pos 1, pos 1) p (inl refl) (inr i))));
}

behind_differ : (cs : List ℤ) (xss : List (List ℤ)) → ((xs : List ℤ) → In xs xss → Within xs)
    → TypesDiffer three xss → TypesDiffer cs (map (beside (pos 1)) xss)
behind_differ cs [] within d = tt
behind_differ cs (xs ∷ xss) within d = (
  λ ys i t. (let x = in_map (beside (pos 1)) ys xss i in
      d.0 x.0 x.1 (without_first cs xs x.0 (within xs (inl refl)) (within x.0 (inr x.1))
      (subst (SameType cs (beside (pos 1) xs)) x.2 t))),
  behind_differ cs xss (λ ys i. within ys (inr i)) d.1,
)

of_list : (n : ℕ) (xs ys : List ℤ) → (length ys ≡ n) × Within ys → xs ≡ beside (pos 1) ys
    → (length xs ≡ suc n) × AreValues xs
unfolding beside
of_list n xs ys w e = subst (λ zs. (length zs ≡ suc n) × AreValues zs) (sym e) (
  ap suc w.0,
  λ v i. elim i as (λ _. IsValue v) [ inl f ↦ three_values v (inr (inl f)) | inr j ↦ three_values v (w.1 v j) ],
)

pub many_beside : (limit n : ℕ) (cs : List ℤ) → limit < 3 ^ n → MoreTypesThan limit (suc n) cs
many_beside limit n cs l = record {
  lists = map (beside (pos 1)) (words three n);
  more = (let a = length-map (words three n) (beside (pos 1)) in let b : length (words three n) ≡ 3 ^ n =
      length-words three n in omega (arith, a, b, l));
  values = λ xs i. (let x = in_map (beside (pos 1)) xs (words three n) i in
      of_list n xs x.0 (in_words three n x.0 x.1) x.2);
  differ = behind_differ cs (words three n) (λ xs i. (in_words three n xs i).1) (words_differ three three_rise n);
}

less_base : (n : ℕ) → 2 ^ n ≤ 3 ^ n
less_base zero = omega arith
less_base (suc n) =
    let ih = less_base n in
    let a : 2 ^ suc n ≡ 2 ^ n * 2 = pow-suc 2 n in
    let b : 3 ^ suc n ≡ 3 ^ n * 3 = pow-suc 3 n in
    omega (arith, ih, a, b)

-- of more than 64 classes there are more types than any limit
pub many_classes : (limit n : ℕ) (cs : List ℤ) → limit < 2 ^ 64 → 64 < n → MoreTypesThan limit n cs
many_classes limit zero cs l m = absurd (omega (arith, m))
many_classes limit (suc n) cs l m =
    let p : 2 ^ 64 ≤ 2 ^ n = pow_mono {i = 64} {j = n} (omega (arith, m)) in
    let q = less_base n in
    many_beside limit n cs (omega (arith, l, p, q))
