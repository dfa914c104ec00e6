-- Places of bytes outside comments.
use Rattle.std.proofs.Common.{◌≡◌, ℕ, zero, suc, ◌+◌, ◌-◌, ◌<◌, List, [], ◌∷◌, length, take, Bool, true, false, cond}
use Rattle.std.proofs.Common.{refl, sym, ap, ◌∙◌, subst, arith}
use Rattle.std.specs.Prelude.{Option, Some, None, slice_get, ◌==◌, ◌||◌}
use Rattle.std.proofs.lemmas.Bool.{eqb-true}
use Rattle.chr_syntax.specs.Bytes.{outside, without_comments, line_feed, percent}
use Rattle.chr_faults.specs.Places.{goes_on, place_from, place_outside, PlacesAreOutside}

-- what a byte adds
abbrev kept : Bool → ℕ → List ℕ → List ℕ
kept true b o = o
kept false b o = b ∷ o

in_comment : (f : Bool) (b : ℕ) (bs : List ℕ) → cond f (b ∷ outside false bs) (outside true bs)
    ≡ kept (cond f false (true || (b == percent))) b (outside (cond f false (true || (b == percent))) bs)
in_comment true b bs = refl
in_comment false b bs = refl

out_of_comment : (f p : Bool) (b : ℕ) (bs : List ℕ) → (p ≡ true → f ≡ false)
    → cond p (outside true bs) (b ∷ outside false bs) ≡ kept (cond f false (false || p)) b
    (outside (cond f false (false || p)) bs)
out_of_comment f true b bs h = subst (λ x. outside true bs ≡ kept (cond x false true) b
    (outside (cond x false true) bs)) (sym (h refl)) refl
out_of_comment true false b bs h = refl
out_of_comment false false b bs h = refl

apart : (b : ℕ) → (b == percent) ≡ true → (b == line_feed) ≡ false
apart b e = let is : b ≡ 37 = eqb-true b 37 e in rw is refl

step : (s : Bool) (b : ℕ) (bs : List ℕ) → outside s (b ∷ bs) ≡ kept (goes_on s b) b (outside (goes_on s b) bs)
step true b bs = in_comment (b == line_feed) b bs
step false b bs = out_of_comment (b == line_feed) (b == percent) b bs (apart b)

pub record Found (s : Bool) (left i : ℕ) (bs : List ℕ) (j : ℕ) : Type 0 where
  pub k : ℕ
  pub at : j ≡ i + k
  pub within : k < length bs
  pub same : slice_get bs k ≡ slice_get (outside s bs) left
  pub before : outside s (take k bs) ≡ take left (outside s bs)

some_is : (i j : ℕ) → Some i ≡ Some j → j ≡ i
some_is i j e = search e

skipped : (s : Bool) (b : ℕ) (bs : List ℕ) (left i j : ℕ) → goes_on s b ≡ true → Found true left (i + 1) bs j
    → Found s left i (b ∷ bs) j
skipped s b bs left i j g f =
    let all : outside s (b ∷ bs) ≡ outside true bs = step s b bs ∙ ap (λ x. kept x b (outside x bs)) g in
    let first : outside s (b ∷ take f.k bs) ≡ outside true (take f.k bs) = step s b (take f.k bs)
    ∙ ap (λ x. kept x b (outside x (take f.k bs))) g in
    record {
      k = suc f.k;
      at = f.at ∙ omega arith;
      within = omega (arith, f.within);
      same = f.same ∙ ap (λ o. slice_get o left) (sym all);
      before = first ∙ f.before ∙ ap (take left) (sym all);
    }

here : (s : Bool) (b : ℕ) (bs : List ℕ) (i j : ℕ) → goes_on s b ≡ false → j ≡ i → Found s 0 i (b ∷ bs) j
here s b bs i j g e =
    let all : outside s (b ∷ bs) ≡ b ∷ outside false bs = step s b bs ∙ ap (λ x. kept x b (outside x bs)) g in
    record {
      k = 0;
      at = e ∙ omega arith;
      within = omega arith;
      same = ap (λ o. slice_get o 0) (sym all);
      before = refl;
    }

later : (s : Bool) (b : ℕ) (bs : List ℕ) (left i j : ℕ) → goes_on s b ≡ false → Found false left (i + 1) bs j
    → Found s (suc left) i (b ∷ bs) j
later s b bs left i j g f =
    let all : outside s (b ∷ bs) ≡ b ∷ outside false bs = step s b bs ∙ ap (λ x. kept x b (outside x bs)) g in
    let first : outside s (b ∷ take f.k bs) ≡ b ∷ outside false (take f.k bs) = step s b (take f.k bs)
    ∙ ap (λ x. kept x b (outside x (take f.k bs))) g in
    record {
      k = suc f.k;
      at = f.at ∙ omega arith;
      within = omega (arith, f.within);
      same = f.same ∙ ap (λ o. slice_get o (suc left)) (sym all);
      before = first ∙ ap (λ o. b ∷ o) f.before ∙ ap (take (suc left)) (sym all);
    }

at_byte : (x s : Bool) (left i b : ℕ) (bs : List ℕ) (j : ℕ)
    → ((t : Bool) (m k : ℕ) → place_from t m k bs ≡ Some j → Found t m k bs j) → goes_on s b ≡ x
    → cond x (place_from true left (i + 1) bs) (cond (left == 0) (Some i) (place_from false (left - 1) (i + 1) bs))
    ≡ Some j → Found s left i (b ∷ bs) j
at_byte true s left i b bs j more g e = skipped s b bs left i j g (more true left (i + 1) e)
at_byte false s zero i b bs j more g e = here s b bs i j g (some_is i j e)
at_byte false s (suc left) i b bs j more g e =
    let not_zero : (suc left == 0) ≡ false = grind arith in
    let less : suc left - 1 ≡ left = omega arith in
    let same : cond (suc left == 0) (Some i) (place_from false (suc left - 1) (i + 1) bs)
    ≡ place_from false left (i + 1) bs = rw (not_zero, less) refl in
    later s b bs left i j g (more false left (i + 1) (sym same ∙ e))

abbrev IsNothing : Option ℕ → Type 0
IsNothing None = Unit {0}
IsNothing (Some i) = ⊥

find : (s : Bool) (left i : ℕ) (bs : List ℕ) (j : ℕ) → place_from s left i bs ≡ Some j → Found s left i bs j
find s left i [] j e = absurd (subst IsNothing e tt)
find s left i (b ∷ bs) j e = at_byte (goes_on s b) s left i b bs j (λ t m k h. find t m k bs j h) refl e

pub places_are_outside : PlacesAreOutside
places_are_outside text n i e =
    let f = find false n 0 text i e in
    let zero_more : 0 + f.k ≡ f.k = omega arith in
    let is : f.k ≡ i = sym (f.at ∙ zero_more) in (
      subst (λ k. k < length text) is f.within,
      subst (λ k. slice_get text k ≡ slice_get (without_comments text) n) is
          f.same,
      subst (λ k. without_comments (take k text) ≡ take n (without_comments text)) is f.before,
    )

pub outside_within : (text : List ℕ) (n i : ℕ) → place_outside text n ≡ Some i → i < length text
outside_within text n i e = (places_are_outside text n i e).0
