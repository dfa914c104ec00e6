-- A store has a step or is at rest: each tuple of its atoms is tried.
use Rattle.std.specs.Prelude.{◌≡◌, ℕ, zero, suc, ◌+◌, ◌<◌, Bool, true, false, ◌&&◌, ◌||◌, cond, List, [], ◌∷◌, ◌++◌}
use Rattle.std.specs.Prelude.{map, length, get_or, Some, None, slice_get, nat_le}
use Rattle.std.specs.List.{list_all, list_any}
use Rattle.std.proofs.Common.{refl, sym, ap, subst, ◌∙◌, arith, inl, inr, ◌⊎◌}
use mathlib.Core.Bool.{true≢false}
use Rattle.std.proofs.lemmas.Bool.{and_from, or_left, or_right, leb-true, le-leb, and_parts}
use Rattle.std.proofs.lemmas.List.Folds.{list_any-append}
use Rattle.std.specs.Ordering.{eq_by_cmp}
use Rattle.std.specs.Cmp.{tied_itself}
use Rattle.chr_base.specs.declared.atom.Atom.{Atom}
use Rattle.chr_base.specs.declared.rule.Rule.{Rule}
use Rattle.chr_base.specs.Atoms.{atom_cmp}
use Rattle.chr_base.proofs.Atoms.{atom_total, same_is}
use Rattle.chr_base.specs.Stores.{Store, store_of, count}
use Rattle.chr_base.specs.Rules.{Step, StepBy, Valuation, atom_at, atoms_at, heads_at, heads_of}
use Rattle.std.proofs.lemmas.List.{length-map}
use Rattle.chr_base.specs.working.Instances.{fires}
use Rattle.chr_base.proofs.Instances.{fires_sound, fires_complete}
use Rattle.chr_base.proofs.FinBags as bag_laws
use Rattle.chr_base.specs.FinBag.{◌⊕◌, ◌⊖◌, IsWithin, count_in, items}
use Rattle.chr_base.proofs.ListEdits.{within_each}
use Rattle.chr_base.specs.Rewriting.{StepsOrRests}

abbrev chosen : List Atom → List (List Atom) → List (List Atom)
chosen [] ts = []
chosen (x ∷ xs) ts = map (λ t. x ∷ t) ts ++ chosen xs ts

abbrev tuples : ℕ → List Atom → List (List Atom)
tuples zero xs = [] ∷ []
tuples (suc n) xs = chosen xs (tuples n xs)

-- whether these atoms stand in the store
abbrev is_within : List Atom → Store → Bool
is_within heads s = list_all (λ a. nat_le (count_in atom_cmp a heads) (count s a)) heads

abbrev applies : Rule → Store → List Atom → Bool
applies r s heads = fires r heads && is_within heads s

any_map : {A B : Type 0} (p : B → Bool) (f : A → B) (xs : List A) → list_any p (map f xs) ≡ list_any (λ x. p (f x)) xs
any_map p f [] = refl
any_map p f (x ∷ xs) = ap (λ b. p (f x) || b) (any_map p f xs)

any_chosen : (p : List Atom → Bool) (a : Atom) (xs : List Atom) (ts : List (List Atom)) → 0 < count_in atom_cmp a xs
    → list_any (λ t. p (a ∷ t)) ts ≡ true → list_any p (chosen xs ts) ≡ true
any_chosen p a [] ts h g = absurd (omega arith)
any_chosen p a (x ∷ xs) ts h g =
    list_any-append p (map (λ t. x ∷ t) ts) (chosen xs ts)
    ∙ elim (eq_by_cmp atom_cmp a x) as (λ b. eq_by_cmp atom_cmp a x ≡ b → 0 < cond b 1 0 + count_in atom_cmp a xs
    → (list_any p (map (λ t. x ∷ t) ts) || list_any p (chosen xs ts)) ≡ true) [
      | true ↦ λ e _. or_left _ _ (any_map p (λ t. x ∷ t) ts ∙ subst (λ y. list_any (λ t. p (y ∷ t)) ts ≡ true)
          (same_is a x e) g)
      | false ↦ λ e h. or_right _ _ (any_chosen p a xs ts (omega (arith, h)) g)
    ] refl h

-- a tuple of atoms of the list that passes is among those tried
any_tuples : (p : List Atom → Bool) (heads xs : List Atom)
    → ((q : Atom) → 0 < count_in atom_cmp q heads → 0 < count_in atom_cmp q xs) → p heads ≡ true
    → list_any p (tuples (length heads) xs) ≡ true
any_tuples p [] xs h g = or_left _ _ g
any_tuples p (a ∷ heads) xs h g =
    any_chosen p a xs (tuples (length heads) xs) (h a (let e : cond (eq_by_cmp atom_cmp a a) 1 0 + count_in atom_cmp a
    heads ≡ 1 + count_in atom_cmp a heads = rw (tied_itself atom_total a) refl in omega (arith, e)))
    (any_tuples (λ t. p (a ∷ t)) heads xs (λ q l. h q (omega (arith, l))) g)

found_one : {A : Type 0} (p : A → Bool) (xs : List A) → list_any p xs ≡ true → (x : A) × (p x ≡ true)
found_one p [] h = absurd (true≢false (sym h))
found_one p (x ∷ xs) h = elim (p x) as (λ b. p x ≡ b → (b || list_any p xs) ≡ true → (y : _) × (p y ≡ true))
    [ true ↦ λ e _. (x, e) | false ↦ λ e h. found_one p xs h ] refl h

all_at : {A : Type 0} (p : A → Bool) (xs : List A) → list_all p xs ≡ true → (i : ℕ) (d : A) → i < length xs
    → p (get_or xs i d) ≡ true
all_at p [] h i d l = absurd (omega arith)
all_at p (x ∷ xs) h zero d l = (and_parts _ _ h).0
all_at p (x ∷ xs) h (suc i) d l = all_at p xs ((and_parts _ _ h).1) i d (omega arith)

all_of : {A : Type 0} (p : A → Bool) (xs : List A) → ((x : A) → p x ≡ true) → list_all p xs ≡ true
all_of p [] h = refl
all_of p (x ∷ xs) h = and_from _ _ (h x) (all_of p xs h)

within_sound : (heads : List Atom) (s : Store) → is_within heads s ≡ true → IsWithin (store_of heads) s
within_sound heads s h q =
    let a = bag_laws.count-of_list atom_total heads q in
    let b = bag_laws.count-items s q in
    let c = within_each atom_cmp atom_total heads (items s)
    (λ i d l. (let x = leb-true _ _ (all_at (λ a. nat_le (count_in atom_cmp a heads) (count s a)) heads h i d l) in
    let y = bag_laws.count-items s (get_or heads i d) in omega (arith, x, y))) q in
    omega (arith, a, b, c)

within_complete : (heads : List Atom) (s : Store) → IsWithin (store_of heads) s → is_within heads s ≡ true
within_complete heads s h = all_of _ heads (λ q. le-leb _ _ (let a = bag_laws.count-of_list atom_total heads q in
    let b = h q in omega (arith, a, b)))

-- a rule has a step, or none
decide_rule : (r : Rule) (s : Store) → ((v : Valuation) × (t : Store) × StepBy r v s t)
    ⊎ ((v : Valuation) (t : Store) → StepBy r v s t → ⊥)
decide_rule r s = by (list_any (applies r s) (tuples (length (heads_of r)) (items s))) refl
  where
    by : (b : Bool) → list_any (applies r s) (tuples (length (heads_of r)) (items s)) ≡ b
        → ((v : Valuation) × (t : Store) × StepBy r v s t) ⊎ ((v : Valuation) (t : Store) → StepBy r v s t → ⊥)
    by true e =
        let f = found_one (applies r s) _ e in
        let i = fires_sound r f.0 ((and_parts _ _ f.1).0) in
        inl (
          i.0,
          (s ⊖ store_of (atoms_at i.0 r.removed.items)) ⊕ store_of (atoms_at i.0 r.body.items),
          record {
            guard = i.2;
            there = rw i.1 (within_sound f.0 s ((and_parts (fires r f.0) _ f.1).1));
            after =
                refl;
          },
        )
    by false e = inr (λ v t st.
        (let heads = heads_at v r in
        let p : applies r s heads ≡ true = and_from _ _ (fires_complete r heads (v, refl, st.guard))
        (within_complete heads s st.there) in
        let among : (q : Atom) → 0 < count_in atom_cmp q heads → 0 < count_in atom_cmp q (items s) =
        λ q l. (let a = bag_laws.count-of_list atom_total heads q in let b = bag_laws.count-items s q in let c =
        st.there q in omega (arith, a, b, c, l)) in
        let found = any_tuples (applies r s) heads (items s) among p in
        true≢false (sym found ∙ ap (λ n. list_any (applies r s) (tuples n (items s)))
        (length-map (heads_of r) (atom_at v)) ∙ e)))

pub steps_or_rests : (rules : List Rule) → StepsOrRests (Step rules)
steps_or_rests [] s = inr (λ u h. none h.1 h.3)
  where
    none : (r : Rule) → None ≡ Some r → ⊥
    none r e = cc
steps_or_rests (r ∷ rules) s =
    elim (decide_rule r s) as (λ _. ((t : Store) × Step (r ∷ rules) s t) ⊎ ((u : Store) → Step (r ∷ rules) s u → ⊥)) [
      | inl w ↦ inl (w.1, (0, r, w.0, refl, w.2))
      | inr no_step ↦ elim (steps_or_rests rules s) as (λ _. ((t : Store) × Step (r ∷ rules) s t)
          ⊎ ((u : Store) → Step (r ∷ rules) s u → ⊥)) [
            | inl w ↦ inl (w.0, (suc w.1.0, w.1.1, w.1.2, w.1.3, w.1.4))
            | inr rest ↦ inr (λ u h. later h.0 h.1 h.2 h.3 u h.4 no_step rest)
          ]
    ]
  where
    later : (i : ℕ) (x : Rule) (v : Valuation) → slice_get (r ∷ rules) i ≡ Some x → (u : Store) → StepBy x v s u
        → ((v : Valuation) (t : Store) → StepBy r v s t → ⊥) → ((u : Store) → Step rules s u → ⊥) → ⊥
    later zero x v e u st no_step rest = no_step v u (subst (λ y. StepBy y v s u) (let k : x ≡ r = cc in k) st)
    later (suc i) x v e u st no_step rest = rest u (i, x, v, e, st)
