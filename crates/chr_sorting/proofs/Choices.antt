-- One value more among rising ones, and one choice more in the search.
use Rattle.std.specs.Prelude.{◌≡◌, ℕ, zero, suc, ℤ, pos, ◌+◌, ◌-◌, ◌<◌, ◌≤◌, ◌<ℤ◌, ◌⊎◌, Bool, true, false, cond, List}
use Rattle.std.specs.Prelude.{[], ◌∷◌, ◌++◌, length, map, take, get_or, drop}
use Rattle.std.specs.List.{flat_map}
use Rattle.std.specs.Ordering.{int_eq}
use Rattle.std.proofs.Common.{refl, sym, ap, ◌∙◌, inl, inr, arith}
use Rattle.std.proofs.lemmas.Int.{ints, to_z-of_z}
use mir.Val.{SFits, of_z, to_z}
use mir.Syntax.{w64}
use Rattle.std.proofs.lemmas.List.{take_more, take_all, flat_map_more, length-append}
use Rattle.std.proofs.lemmas.List.Folds.{length-flat_map-take}
use Rattle.chr_base.specs.declared.term.Term.TheVariants.{Constant}
use Rattle.chr_types.specs.OrderTypes.{In, Rises, AreValues}
use Rattle.chr_types.proofs.Holes.{same_yes, yes_same}
use Rattle.chr_types.proofs.Members.{in_first, in_second, in_last}
use Rattle.chr_types.proofs.RisingLists.{same_members}
use Rattle.chr_types.proofs.Steps.{less_one}
use Rattle.chr_confluence.proofs.Solutions.{same_constant}
use Rattle.chr_overlaps.specs.working.Gathering.{AreConstantsIn, Gathers}
use Rattle.chr_sorting.specs.working.Blocks.{inserted, going_on, lists_behind}
use Rattle.chr_sorting.proofs.Blocks.{in_inserted, inserted_in, inserted_rises}

-- ---- constants gathered

constant_in : (c : ℤ) (ks : List ℤ) → In c ks → In (Constant c) (map Constant ks)
constant_in c [] i = absurd i
constant_in c (k ∷ ks) (inl e) = inl (ap Constant e)
constant_in c (k ∷ ks) (inr i) = inr (constant_in c ks i)

in_constants : (c : ℤ) (ks : List ℤ) → In (Constant c) (map Constant ks) → In c ks
in_constants c [] i = absurd i
in_constants c (k ∷ ks) (inl e) = inl (same_constant c k e)
in_constants c (k ∷ ks) (inr i) = inr (in_constants c ks i)

never_less : (x : ℤ) → x <ℤ x → ⊥
never_less x l = absurd (omega (arith, ints, l))

less_less : (x y z : ℤ) → x <ℤ y → y <ℤ z → x <ℤ z
less_less x y z l m = omega (arith, ints, l, m)

pub value_inserted : (v : ℤ) (ks new : List ℤ) → Rises ks → AreValues ks → Gathers (Constant v ∷ []) ks new
    → new ≡ inserted v ks
value_inserted v ks new r values g =
    same_members {A = ℤ} (λ x y. x <ℤ y) never_less less_less new (inserted v ks) after.rise (inserted_rises v ks r)
    (λ z i. inserted_in v z ks (elim (in_last (Constant z) (Constant v) (map Constant ks) (after.stand z i)) as (λ _.
    (z ≡ v) ⊎ In z ks) [
      | inl j ↦ inr (in_constants z ks j)
      | inr e ↦ inl (same_constant z v e)
    ]))
    (λ z i. after.all z (elim (in_inserted v z ks i) as (λ _. In (Constant z) (map Constant ks ++ Constant v ∷ [])) [
      | inl e ↦ in_second (Constant z) (map Constant ks) (Constant v ∷ []) (inl (ap Constant e))
      | inr j ↦ in_first (Constant z) (map Constant ks) (Constant v ∷ []) (constant_in z ks j)
    ]))
  where
    after : AreConstantsIn (map Constant ks ++ Constant v ∷ []) new
    after = g (map Constant ks) (record {
      rise = r;
      values = values;
      stand = λ c i. constant_in c ks i;
      all =
          λ c i. in_constants c ks i;
    })

-- ---- one choice more

-- the lists behind those that go on with z
abbrev pub next_lists : ℕ → List ℤ → List ℤ → List ℤ → ℤ → List (List ℤ)
next_lists left ks ns p z = going_on (lists_behind (left - 1)) ks ns p z

by_choice : (left : ℕ) (ks ns p : List ℤ) → (left ≡ 0 → ⊥) → lists_behind left ks ns p
    ≡ flat_map (next_lists left ks ns p) (inserted (get_or ns 0 (pos 0)) ks)
by_choice zero ks ns p n = absurd (n refl)
by_choice (suc k) ks ns p n = ap (λ m. flat_map (going_on (lists_behind m) ks ns p) (inserted (get_or ns 0 (pos 0)) ks))
    (less_one k)

no_same : (x y : ℤ) → (x ≡ y → ⊥) → int_eq x y ≡ false
no_same x y n = by (int_eq x y) refl
  where
    by : (b : Bool) → int_eq x y ≡ b → int_eq x y ≡ false
    by true e = absurd (n (same_yes x y e))
    by false e = e

-- the search with the next number goes on to the lists behind it
pub number_goes_on : (left : ℕ) (ks ns p more rest longer : List ℤ) (z n : ℤ) → n ≡ get_or ns 0 (pos 0) → z ≡ n
    → more ≡ inserted n ks → rest ≡ drop 1 ns → longer ≡ p ++ z ∷ []
    → lists_behind (left - 1) more rest longer ≡ next_lists left ks ns p z
number_goes_on left ks ns p more rest longer z n is same m r l =
    (λ i. lists_behind (left - 1) ((m ∙ ap (λ x. inserted x ks) is) i) (r i) (l i))
    ∙ ap (λ b. cond b (lists_behind (left - 1) (inserted (get_or ns 0 (pos 0)) ks) (drop 1 ns) (p ++ z ∷ []))
    (lists_behind (left - 1) ks ns (p ++ z ∷ []))) (sym (yes_same z (get_or ns 0 (pos 0)) (same ∙ is)))

-- the search with another choice goes on to the lists behind it
pub choice_goes_on : (left : ℕ) (ks ns p longer : List ℤ) (z n : ℤ) → n ≡ get_or ns 0 (pos 0) → (z ≡ n → ⊥) → longer ≡ p
    ++ z ∷ []
    → lists_behind (left - 1) ks ns longer ≡ next_lists left ks ns p z
choice_goes_on left ks ns p longer z n is other l =
    ap (lists_behind (left - 1) ks ns) l
    ∙ ap (λ b. cond b (lists_behind (left - 1) (inserted (get_or ns 0 (pos 0)) ks) (drop 1 ns) (p ++ z ∷ []))
    (lists_behind (left - 1) ks ns (p ++ z ∷ []))) (sym (no_same z (get_or ns 0 (pos 0)) (λ e. other (e ∙ sym is))))

pub more_lists : (f : ℤ → List (List ℤ)) (old found new : List (List ℤ)) (ks : List ℤ) (i : ℕ) (d : ℤ)
    → i < length ks → found ≡ old ++ flat_map f (take i ks) → new ≡ found ++ f (get_or ks i d)
    → new ≡ old ++ flat_map f (take (i + 1) ks)
more_lists f old found new ks i d l e n =
    n ∙ ap (λ xs. xs ++ f (get_or ks i d)) e ∙ flat_map_more f old (take i ks) (get_or ks i d)
    ∙ ap (λ xs. old ++ flat_map f xs) (sym (take_more ks i d l))

-- the lists of some choices with those of the next are no more than the lists of all choices
pub no_more : (left : ℕ) (cs ns p : List ℤ) (old found : List (List ℤ)) (ks : List ℤ) (i : ℕ) (d : ℤ) → (left ≡ 0 → ⊥)
    → ks ≡ inserted (get_or ns 0 (pos 0)) cs
    → i < length ks → found ≡ old ++ flat_map (next_lists left cs ns p) (take i ks)
    → length found + length (next_lists left cs ns p (get_or ks i d)) ≤ length old + length (lists_behind left cs ns p)
no_more left cs ns p old found ks i d some is l e =
    let f = next_lists left cs ns p in
    let m = length-flat_map-take f ks i d l in
    let a = ap length e ∙ length-append old (flat_map f (take i ks)) in
    let b = ap length (by_choice left cs ns p some ∙ ap (flat_map f) (sym is)) in
    omega (arith, m, a, b)

-- where no choice is left, all lists are there
pub all_lists : (left i : ℕ) (cs ns p ks : List ℤ) (old found : List (List ℤ)) → (left ≡ 0 → ⊥)
    → ks ≡ inserted (get_or ns 0 (pos 0)) cs → length ks ≤ i
    → found ≡ old ++ flat_map (next_lists left cs ns p) (take i ks) → found ≡ old ++ lists_behind left cs ns p
all_lists left i cs ns p ks old found some is l e =
    e ∙ ap (λ xs. old ++ xs) (ap (flat_map (next_lists left cs ns p)) (take_all i ks l ∙ is)
    ∙ sym (by_choice left cs ns p some))

-- ---- the numbers behind the next one

pub length-rest : (ns : List ℤ) → length (drop 1 ns) ≡ length ns - 1
length-rest [] = refl
length-rest (n ∷ ns) = omega arith

pub rest_of : (ns : List ℤ) → take (length ns - 1) (drop 1 ns) ≡ drop 1 ns
rest_of ns = let l = length-rest ns in take_all (length ns - 1) (drop 1 ns) (omega (arith, l))

pub same_value : (x y : ℤ) → SFits w64 x → SFits w64 y → of_z w64 x ≡ of_z w64 y → x ≡ y
same_value x y f g e = sym (to_z-of_z w64 x f) ∙ ap (to_z w64) e ∙ to_z-of_z w64 y g
