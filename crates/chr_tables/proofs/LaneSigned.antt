-- Comparisons of signed lanes, which are made of their bits, as comparisons of values.
use Rattle.std.proofs.Common.{◌≡◌, ℤ, Bool, true, false, not, nat_eq, refl, sym, ap, ◌∙◌, arith, of_z, to_z, w64, ◌<ℤ◌}
use mir.Val.{SFits}
use lib.Signed.{lt_z, le_z}
use Rattle.std.proofs.lemmas.Int.{ints, to_z-of_z}
use Rattle.std.proofs.lemmas.Bool.{eqb-true, eq-eqb}
use Rattle.std.specs.declared.cmp.Ordering.{Ordering}
use Rattle.std.specs.declared.cmp.Ordering.TheVariants.{Less, Equal, Greater}
use Rattle.std.specs.Ordering.{int_cmp, MatchOrdering, is_lt, is_le, is_gt, is_ge, is_eq, is_ne}
use Rattle.std.specs.Cmp.{int_ranks}

module _ (x y : ℤ) (fits_x : SFits w64 x) (fits_y : SFits w64 y) where
  abbrev Ranks : Ordering → Type 0
  Ranks o = MatchOrdering o (x <ℤ y) (x ≡ y) (y <ℤ x)

  read_x : to_z w64 (of_z w64 x) ≡ x
  read_x = to_z-of_z w64 x fits_x

  read_y : to_z w64 (of_z w64 y) ≡ y
  read_y = to_z-of_z w64 y fits_y

  pub not_less : lt_z (to_z w64 (of_z w64 x)) (to_z w64 (of_z w64 y)) ≡ false → is_lt (int_cmp x y) ≡ false
  not_less e = by (int_cmp x y) (int_ranks x y) (rw (read_x, read_y) at e)
    where
      by : (o : Ordering) → Ranks o → lt_z x y ≡ false → is_lt o ≡ false
      by Less r e = absurd (grind (arith, ints))
      by Equal r e = refl
      by Greater r e = refl

  pub not_at_most : le_z (to_z w64 (of_z w64 x)) (to_z w64 (of_z w64 y)) ≡ false → is_le (int_cmp x y) ≡ false
  not_at_most e = by (int_cmp x y) (int_ranks x y) (rw (read_x, read_y) at e)
    where
      by : (o : Ordering) → Ranks o → le_z x y ≡ false → is_le o ≡ false
      by Less r e = absurd (grind (arith, ints))
      by Equal r e = absurd (grind (arith, ints))
      by Greater r e = refl

  pub not_greater : lt_z (to_z w64 (of_z w64 y)) (to_z w64 (of_z w64 x)) ≡ false → is_gt (int_cmp x y) ≡ false
  not_greater e = by (int_cmp x y) (int_ranks x y) (rw (read_x, read_y) at e)
    where
      by : (o : Ordering) → Ranks o → lt_z y x ≡ false → is_gt o ≡ false
      by Less r e = refl
      by Equal r e = refl
      by Greater r e = absurd (grind (arith, ints))

  pub not_at_least : le_z (to_z w64 (of_z w64 y)) (to_z w64 (of_z w64 x)) ≡ false → is_ge (int_cmp x y) ≡ false
  not_at_least e = by (int_cmp x y) (int_ranks x y) (rw (read_x, read_y) at e)
    where
      by : (o : Ordering) → Ranks o → le_z y x ≡ false → is_ge o ≡ false
      by Less r e = refl
      by Equal r e = absurd (grind (arith, ints))
      by Greater r e = absurd (grind (arith, ints))

  pub not_equal : nat_eq (of_z w64 x) (of_z w64 y) ≡ false → is_eq (int_cmp x y) ≡ false
  not_equal e = by (int_cmp x y) (int_ranks x y)
    where
      by : (o : Ordering) → Ranks o → is_eq o ≡ false
      by Less r = refl
      by Equal r = absurd (let t : nat_eq (of_z w64 x) (of_z w64 y) ≡ true = eq-eqb _ _ (ap (of_z w64) r) in
          let f : true ≡ false = sym t ∙ e in cc)
      by Greater r = refl

  pub not_different : not (nat_eq (of_z w64 x) (of_z w64 y)) ≡ false → is_ne (int_cmp x y) ≡ false
  not_different e = by (int_cmp x y) (int_ranks x y) same
    where
      unturned : (b : Bool) → not b ≡ false → b ≡ true
      unturned true e = refl
      unturned false e = absurd (let f : true ≡ false = e in cc)

      same : x ≡ y
      same = sym read_x ∙ ap (to_z w64) (eqb-true _ _ (unturned _ e)) ∙ read_y

      by : (o : Ordering) → Ranks o → x ≡ y → is_ne o ≡ false
      by Less r s = absurd (omega (arith, ints, r, s))
      by Equal r s = refl
      by Greater r s = absurd (omega (arith, ints, r, s))
