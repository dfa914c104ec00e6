-- Head places that are known, each once.
use Rattle.std.proofs.Common.{◌≡◌, ℕ, zero, suc, ◌<◌, ◌≤◌, List, [], ◌∷◌, ◌++◌, length, get_or, take, Bool, true, false}
use Rattle.std.proofs.Common.{nat_eq, refl, sym, ◌∙◌, arith}
use Rattle.std.specs.Prelude.{◌||◌}
use Rattle.std.specs.List.{list_any, IsDistinct}
use Rattle.std.specs.Cmp.{unsigned_Decides, nat_eq_equiv}
use Rattle.std.proofs.lemmas.Map.Steps.{length-le_from_distinct_below}
use Rattle.std.proofs.lemmas.Map.Keys.{apart_from_distinct, IsDistinct-push, IsDistinct-from_apart}
use Rattle.chr_base.specs.declared.rule.Rule.{Rule}
use Rattle.chr_base.specs.Rules.{heads_of}
use Rattle.chr_plans.specs.Planning.{is_in}
use Rattle.chr_plans.specs.working.Choosing.{ArePlaces}

-- where a place stands
pub in_list : (xs : List ℕ) (q : ℕ) → is_in q xs ≡ true → (j : ℕ) × (j < length xs) × (get_or xs j 0 ≡ q)
in_list [] q e = absurd (let f : false ≡ true = e in cc)
in_list (x ∷ xs) q e = by (nat_eq q x) refl e (in_list xs q)
  where
    by : (b : Bool) → nat_eq q x ≡ b → (b || list_any (nat_eq q) xs) ≡ true
        → (is_in q xs ≡ true → (j : ℕ) × (j < length xs) × (get_or xs j 0 ≡ q))
        → (j : ℕ) × (j < suc (length xs)) × (get_or (x ∷ xs) j 0 ≡ q)
    by true f g more = (0, omega arith, sym ((unsigned_Decides q x).0 f))
    by false f g more = let w = more g in (suc w.0, (let l = w.1 in omega (arith, l)), w.2)

pub in_take : (n : ℕ) (xs : List ℕ) (q : ℕ) → is_in q (take n xs) ≡ true → (j : ℕ) × (j < n) × (get_or xs j 0 ≡ q)
in_take zero xs q e = absurd (let f : false ≡ true = e in cc)
in_take (suc n) [] q e = absurd (let f : false ≡ true = e in cc)
in_take (suc n) (x ∷ xs) q e = by (nat_eq q x) refl e (in_take n xs q)
  where
    by : (b : Bool) → nat_eq q x ≡ b → (b || list_any (nat_eq q) (take n xs)) ≡ true
        → (is_in q (take n xs) ≡ true → (j : ℕ) × (j < n) × (get_or xs j 0 ≡ q))
        → (j : ℕ) × (j < suc n) × (get_or (x ∷ xs) j 0 ≡ q)
    by true f g more = (0, omega arith, sym ((unsigned_Decides q x).0 f))
    by false f g more = let w = more g in (suc w.0, (let l = w.1 in omega (arith, l)), w.2)

-- each of the places is one of the rule's
place_of : (r : Rule) (xs : List ℕ) (q : ℕ) → ArePlaces r xs → is_in q xs ≡ true → q < length (heads_of r)
place_of r [] q a e = absurd (let f : false ≡ true = e in cc)
place_of r (x ∷ xs) q a e = by (nat_eq q x) refl e (place_of r xs q a.1)
  where
    by : (b : Bool) → nat_eq q x ≡ b → (b || list_any (nat_eq q) xs) ≡ true
        → (is_in q xs ≡ true → q < length (heads_of r)) → q < length (heads_of r)
    by true f g more = let h : q ≡ x = (unsigned_Decides q x).0 f in let l = a.0 in omega (arith, h, l)
    by false f g more = more g

pub place_at : (r : Rule) (xs : List ℕ) (j : ℕ) → ArePlaces r xs → j < length xs → get_or xs j 0 < length (heads_of r)
place_at r [] j a l = absurd (omega (arith, l))
place_at r (x ∷ xs) zero a l = a.0
place_at r (x ∷ xs) (suc j) a l = place_at r xs j a.1 (omega (arith, l))

pub places_more : (r : Rule) (xs : List ℕ) (q : ℕ) → ArePlaces r xs → q < length (heads_of r)
    → ArePlaces r (xs ++ q ∷ [])
places_more r [] q a l = (l, tt)
places_more r (x ∷ xs) q a l = (a.0, places_more r xs q a.1 l)

pub places_before : (r : Rule) (n : ℕ) (xs : List ℕ) → ArePlaces r xs → ArePlaces r (take n xs)
places_before r zero xs a = tt
places_before r (suc n) [] a = tt
places_before r (suc n) (x ∷ xs) a = (a.0, places_before r n xs a.1)

-- distinct places are no more than the rule has
pub few : (r : Rule) (xs : List ℕ) → IsDistinct nat_eq xs → ArePlaces r xs → length xs ≤ length (heads_of r)
few r xs d a = length-le_from_distinct_below xs (length (heads_of r)) d (λ q e. place_of r xs q a e)

pub distinct_one : (p : ℕ) → IsDistinct nat_eq (p ∷ [])
distinct_one p = IsDistinct-from_apart nat_eq (p ∷ []) (λ i j d l h. (absurd (omega (arith, l, h))))

-- one more place, which is none of them
pub distinct_more : (xs : List ℕ) (y : ℕ) → IsDistinct nat_eq xs → is_in y xs ≡ false → IsDistinct nat_eq (xs ++ y ∷ [])
distinct_more xs y d e = IsDistinct-push nat_eq_equiv xs y d e

pub apart : (xs : List ℕ) (i j : ℕ) → IsDistinct nat_eq xs → i < j → j < length xs → get_or xs i 0 ≡ get_or xs j 0 → ⊥
apart xs i j d l h e =
    let f : nat_eq (get_or xs i 0) (get_or xs j 0) ≡ false = apart_from_distinct nat_eq xs i j 0 d l h in
    let g : nat_eq (get_or xs i 0) (get_or xs j 0) ≡ true = (unsigned_Decides (get_or xs i 0) (get_or xs j 0)).1 e in
    let z : true ≡ false = sym g ∙ f in
    cc
