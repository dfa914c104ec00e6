-- The first choice by index against the least tuple of atoms.
use Rattle.std.specs.Prelude.{◌≡◌, ℕ, zero, suc, ◌+◌, ◌<◌, ◌≤◌, true, false, not, ◌&&◌, cond, List, [], ◌∷◌, ◌++◌}
use Rattle.std.specs.Prelude.{length, get_or, nat_lt, IsTrue}
use Rattle.std.specs.declared.cmp.Ordering.{Ordering}
use Rattle.std.specs.declared.cmp.Ordering.TheVariants.{Less, Equal, Greater}
use Rattle.std.specs.Ordering.{nat_cmp, ordering_then, ordering_reverse, eq_by_cmp, is_gt}
use Rattle.std.specs.Cmp.{nat_cmp_is, ranked, tied_itself, nat_cmp_total}
use Rattle.std.specs.Cmp.Lexicographic.{slice_cmp}
use Rattle.std.proofs.Common.{refl, sym, ap, subst, ◌∙◌, arith, append_assoc, length-append}
use Rattle.std.proofs.lemmas.List.{append-nil}
use Rattle.std.proofs.lemmas.Bool.Decides.{nat_tests}
use Rattle.std.proofs.lemmas.Bool.{and_parts, and_from, not-true}
use mathlib.Core.Bool.{true≢false}
use Rattle.chr_base.specs.declared.atom.Atom.{Atom}
use Rattle.chr_base.specs.declared.rule.Rule.{Rule}
use Rattle.chr_base.specs.Atoms.{atom_cmp, no_atom}
use Rattle.chr_base.proofs.Atoms.{atom_total, atom_exact}
use Rattle.chr_base.specs.FinBag.{count_in, is_rising, none_below}
use Rattle.chr_base.proofs.FinBags.{lists_within}
use Rattle.chr_base.specs.Stores.{store_of}
use Rattle.chr_base.specs.Rules.{HasInstance, heads_of}
use Rattle.chr_rewrite.specs.working.Choices.{chosen_atoms, is_choice, IsFirstChoice}
use Rattle.chr_rewrite.specs.Derivations.{IsLeastInstance}
use Rattle.chr_rewrite.proofs.Choosing.{choose, free_from, free_none, free_taken, is_taken}
use Rattle.chr_rewrite.proofs.Searching.{NoneBelow, instance_places}

-- no item of the list comes before x
not_above : (x : Atom) (xs : List Atom) (j : ℕ) → none_below atom_cmp x xs ≡ true → j < length xs
    → atom_cmp x (get_or xs j no_atom) ≡ Greater → ⊥
not_above x [] j h l e = absurd (omega (arith, l))
not_above x (y ∷ ys) zero h l e = let f : not (is_gt (atom_cmp x y)) ≡ true =
    (and_parts _ (none_below atom_cmp x ys) h).0 in true≢false (sym f ∙ ap (λ o. not (is_gt o)) e)
not_above x (y ∷ ys) (suc j) h l e = not_above x ys j (and_parts (not (is_gt (atom_cmp x y))) _ h).1
    (omega (arith, l)) e

-- among items that never fall, what comes before another stands before it
pub stands_before : (items : List Atom) (i j : ℕ) → is_rising atom_cmp items ≡ true → i < length items
    → j < length items → atom_cmp (get_or items j no_atom) (get_or items i no_atom) ≡ Less → j < i
stands_before [] i j h l m e = absurd (omega (arith, l))
stands_before (x ∷ xs) zero zero h l m e = absurd (let t : Equal ≡ Less = sym (tied_itself atom_total x) ∙ e in cc)
stands_before (x ∷ xs) zero (suc j) h l m e =
    absurd (not_above x xs j (and_parts _ (is_rising atom_cmp xs) h).0 (omega (arith, m))
    (atom_total.antisymm x (get_or xs j no_atom) ∙ ap ordering_reverse e))
stands_before (x ∷ xs) (suc i) zero h l m e = omega arith
stands_before (x ∷ xs) (suc i) (suc j) h l m e = let f =
    stands_before xs i j (and_parts (none_below atom_cmp x xs) _ h).1 (omega (arith, l)) (omega (arith, m)) e in
    omega (arith, f)

-- a choice of these atoms that comes before the choice `is`
abbrev ChosenBefore : List Atom → List ℕ → List ℕ → List Atom → Type 0
ChosenBefore items taken is heads = (js : List ℕ) × (is_choice items taken js ≡ true) × (chosen_atoms items js ≡ heads)
    × (slice_cmp nat_cmp js is ≡ Less)

index_within : (items : List Atom) (taken is : List ℕ) (i : ℕ) → is_choice items taken (i ∷ is) ≡ true
    → i < length items
index_within items taken is i c =
    let t : nat_lt i (length items) ≡ true = (and_parts _ _
    (and_parts _ (is_choice items (taken ++ i ∷ []) is) c).0).0 in
    grind (arith, nat_tests)

-- what is free and comes before a choice can be chosen before it
pub chosen_before : (items : List Atom) (taken is : List ℕ) (heads : List Atom) → is_rising atom_cmp items ≡ true
    → is_choice items taken is ≡ true → slice_cmp atom_cmp heads (chosen_atoms items is) ≡ Less
    → ((q : Atom) → count_in atom_cmp q heads ≤ free_from 0 taken items q) → ChosenBefore items taken is heads
chosen_before items taken [] [] rising c e free = absurd (let t : Equal ≡ Less = e in cc)
chosen_before items taken (i ∷ is) [] rising c e free = ([], refl, refl, refl)
chosen_before items taken [] (a ∷ heads) rising c e free = absurd (let t : Greater ≡ Less = e in cc)
chosen_before items taken (i ∷ is) (a ∷ heads) rising c e free =
    by (atom_cmp a (get_or items i no_atom)) refl (λ f g. chosen_before items (taken ++ i ∷ []) is heads rising rest f
    g)
  where
    two : (nat_lt i (length items) && not (is_taken i taken)) ≡ true
    two = (and_parts _ (is_choice items (taken ++ i ∷ []) is) c).0

    rest : is_choice items (taken ++ i ∷ []) is ≡ true
    rest = (and_parts (nat_lt i (length items) && not (is_taken i taken)) _ c).1

    earlier : atom_cmp a (get_or items i no_atom) ≡ Less → (js : List ℕ) → is_choice items taken js ≡ true
        → chosen_atoms items js ≡ a ∷ heads → ChosenBefore items taken (i ∷ is) (a ∷ heads)
    earlier less [] d p = absurd (let t : ◌≡◌ {A = List Atom} [] (a ∷ heads) = p in cc)
    earlier less (j ∷ js) d p =
        let q : get_or items j no_atom ∷ chosen_atoms items js ≡ a ∷ heads = p in
        let same : get_or items j no_atom ≡ a = cc in
        let l = stands_before items i j rising (index_within items taken is i c) (index_within items taken js j d)
        (ap (λ x. atom_cmp x (get_or items i no_atom)) same ∙ less) in
        let f : nat_cmp j i ≡ Less = sym (nat_cmp_is j i Less l) in
        (j ∷ js, d, p, ap (λ o. ordering_then o (slice_cmp nat_cmp js is)) f)

    later : atom_cmp a (get_or items i no_atom) ≡ Equal → ChosenBefore items (taken ++ i ∷ []) is heads
        → ChosenBefore items taken (i ∷ is) (a ∷ heads)
    later equal w =
        let same = atom_exact a (get_or items i no_atom) equal in
        let f : nat_cmp i i ≡ Equal = tied_itself nat_cmp_total i in (
          i ∷ w.0,
          and_from (nat_lt i (length items) && not (is_taken i taken)) (is_choice items (taken ++ i ∷ []) w.0)
              two w.1,
          (λ k. sym same k ∷ w.2 k),
          ap (λ o. ordering_then o (slice_cmp nat_cmp w.0 is)) f ∙ w.3,
        )

    left : atom_cmp a (get_or items i no_atom) ≡ Equal → (q : Atom) → count_in atom_cmp q heads ≤ free_from 0
        (taken ++ i ∷ []) items q
    left equal q =
        let same = atom_exact a (get_or items i no_atom) equal in
        let z : 0 + i ≡ i = omega arith in
        let fresh : is_taken i taken ≡ false = not-true _ (and_parts (nat_lt i (length items)) _ two).1 in
        let here = free_taken 0 i taken items no_atom q (index_within items taken is i c)
        (ap (λ m. is_taken m taken) z ∙ fresh) in
        let here' : cond (eq_by_cmp atom_cmp q (get_or items i no_atom)) 1 0 + free_from 0 (taken ++ i ∷ []) items q
        ≡ free_from 0 taken items q = rw z at here in
        let l : cond (eq_by_cmp atom_cmp q (get_or items i no_atom)) 1 0 + count_in atom_cmp q heads ≤ free_from 0 taken
        items q = rw (← same) (free q) in
        omega (arith, here', l)

    by : (o : Ordering) → atom_cmp a (get_or items i no_atom) ≡ o
        → (slice_cmp atom_cmp heads (chosen_atoms items is) ≡ Less
        → ((q : Atom) → count_in atom_cmp q heads ≤ free_from 0 (taken ++ i ∷ []) items q)
        → ChosenBefore items (taken ++ i ∷ []) is heads)
        → ChosenBefore items taken (i ∷ is) (a ∷ heads)
    by Less f more = let w = choose items taken (a ∷ heads) free in earlier f w.0 w.1 w.2
    by Equal f more = later f (more (ap (λ o. ordering_then o (slice_cmp atom_cmp heads (chosen_atoms items is)))
        (sym f) ∙ e) (left f))
    by Greater f more = absurd (let t : Greater ≡ Less =
        ap (λ o. ordering_then o (slice_cmp atom_cmp heads (chosen_atoms items is))) (sym f) ∙ e in cc)

-- the first choice among items that never fall makes the least heads
pub least_found : (r : Rule) (items : List Atom) (is : List ℕ) → is_choice items [] is ≡ true → IsFirstChoice r items []
    is → is_rising atom_cmp items ≡ true → IsLeastInstance r (store_of items) (chosen_atoms items is)
least_found r items is c first rising others e h w =
    let free : (q : Atom) → count_in atom_cmp q others ≤ free_from 0 [] items q =
    (λ q. (let a = lists_within atom_total others items w q in let b = free_none 0 items q in
    omega (arith, a, b))) in
    let found = chosen_before items [] is others rising c e free in
    first.none found.0 (subst (λ js. slice_cmp nat_cmp found.0 js ≡ Less) first.whole found.3) found.1
    (subst (HasInstance r) (sym found.2) h)

-- as many were chosen as there are places
pub first_itself : (r : Rule) (items : List Atom) (is : List ℕ) → IsFirstChoice r items is is
first_itself r items is = record {
  more = [];
  whole = sym (append-nil is);
  none = λ ks e c h. none_before ks e;
}
  where
    none_before : (ks : List ℕ) → slice_cmp nat_cmp ks [] ≡ Less → ⊥
    none_before [] e = let t : Equal ≡ Less = e in cc
    none_before (k ∷ ks) e = let t : Greater ≡ Less = e in cc

-- the index n goes on to a choice, and no index below it does
pub first_of_next : (r : Rule) (items : List Atom) (is js : List ℕ) (n : ℕ) → NoneBelow r items is n
    → (length is ≡ length (heads_of r) → ⊥) → IsFirstChoice r items (is ++ n ∷ []) js → IsFirstChoice r items is js
first_of_next r items is js n below short first = record {
  more = n ∷ first.more;
  whole = first.whole ∙ append_assoc is (n ∷ []) first.more;
  none = none;
}
  where
    at : (ks : List ℕ) → slice_cmp nat_cmp ks first.more ≡ Less → IsTrue (is_choice items is (n ∷ ks))
        → HasInstance r (chosen_atoms items (is ++ n ∷ ks)) → ⊥
    at ks e c h = first.none ks e (and_parts _ (is_choice items (is ++ n ∷ []) ks) c).1
        (subst (λ xs. HasInstance r (chosen_atoms items xs)) (sym (append_assoc is (n ∷ []) ks)) h)

    by : (k : ℕ) (ks : List ℕ) (o : Ordering) → nat_cmp k n ≡ o
        → ordering_then (nat_cmp k n) (slice_cmp nat_cmp ks first.more) ≡ Less → IsTrue (is_choice items is (k ∷ ks))
        → HasInstance r (chosen_atoms items (is ++ k ∷ ks)) → ⊥
    by k ks Less f e c h = below k (ranked k n Less (sym f)) ks c h
    by k ks Equal f e c h =
        let same : k ≡ n = ranked k n Equal (sym f) in
        at ks (ap (λ o. ordering_then o (slice_cmp nat_cmp ks first.more)) (sym f) ∙ e)
        (subst (λ m. IsTrue (is_choice items is (m ∷ ks))) same c)
        (subst (λ m. HasInstance r (chosen_atoms items (is ++ m ∷ ks))) same h)
    by k ks Greater f e c h = let t : Greater ≡ Less = ap (λ o. ordering_then o (slice_cmp nat_cmp ks first.more))
        (sym f) ∙ e in cc

    none : (ks : List ℕ) → slice_cmp nat_cmp ks (n ∷ first.more) ≡ Less → IsTrue (is_choice items is ks)
        → HasInstance r (chosen_atoms items (is ++ ks)) → ⊥
    none [] e c h = short (let a = instance_places r items (is ++ []) h in let b = length-append is [] in
        omega (arith, a, b))
    none (k ∷ ks) e c h = by k ks (nat_cmp k n) refl e c h
