-- What the search for an instance knows as it goes on.
use Rattle.std.specs.Prelude.{◌≡◌, ℕ, ◌+◌, ◌<◌, ◌≤◌, Bool, true, false, not, ◌&&◌, List, [], ◌∷◌, ◌++◌, length, get_or}
use Rattle.std.specs.Prelude.{nat_eq, nat_lt, IsTrue}
use Rattle.std.proofs.Common.{refl, sym, ap, subst, ◌∙◌, arith, append_assoc, length-append, eq-eqb, take, ◌-◌}
use mathlib.Core.Bool.{true≢false}
use Rattle.std.proofs.lemmas.Bool.Decides.{nat_tests}
use Rattle.std.specs.List.{list_any}
use Rattle.std.proofs.Math.Seq.{take-append_seam}
use Rattle.std.proofs.lemmas.List.{length-map, get_or-map, get_or_default}
use Rattle.std.proofs.lemmas.Bool.{and_parts, not-true, and_from}
use Rattle.chr_base.specs.declared.atom.Atom.{Atom}
use Rattle.chr_base.specs.declared.term.Pattern.{Pattern}
use Rattle.chr_base.specs.declared.rule.Rule.{Rule}
use Rattle.chr_base.proofs.Atoms.{atom_total}
use Rattle.chr_base.specs.FinBag.{IsWithin}
use Rattle.chr_base.proofs.FinBags.{within_lists, lists_within}
use Rattle.chr_base.specs.Stores.{store_of}
use Rattle.chr_base.specs.Rules.{HasInstance, Valuation, heads_of, heads_at, atom_at, term_value, no_pattern, has_shape}
use Rattle.chr_base.specs.Rules.{HasNoStep}
use Rattle.chr_base.specs.Atoms.{no_atom}
use Rattle.chr_rewrite.specs.working.Choices.{has_shape_at, chosen_atoms, is_choice, NoCompletion}
use Rattle.chr_rewrite.proofs.Choosing.{choice_within, choice_more, choose, free_none}

-- the atoms of a choice are there
pub choice_there : (items : List Atom) (is : List ℕ) → IsTrue (is_choice items [] is)
    → IsWithin (store_of (chosen_atoms items is)) (store_of items)
choice_there items is h = within_lists atom_total (chosen_atoms items is) items
    (λ q. (let a = choice_within items [] is q h in let b = free_none 0 items q in omega (arith, a, b)))

-- where no choice makes an instance there is no step
pub none_found : (r : Rule) (items : List Atom) → NoCompletion r items [] → HasNoStep r (store_of items)
none_found r items none v t st =
    let w = choose items [] (heads_at v r) (λ q. (let a = lists_within atom_total (heads_at v r) items st.there q in
    let b = free_none 0 items q in omega (arith, a, b))) in
    none w.0 w.1 (v, sym w.2, st.guard)

-- no choice that goes on with an index below n makes an instance
abbrev pub NoneBelow : Rule → List Atom → List ℕ → ℕ → Type 0
NoneBelow r items is n = (k : ℕ) → k < n → (js : List ℕ) → IsTrue (is_choice items is (k ∷ js))
    → HasInstance r (chosen_atoms items (is ++ k ∷ js)) → ⊥

-- an instance has one atom for each head place
pub instance_places : (r : Rule) (items : List Atom) (is : List ℕ) → HasInstance r (chosen_atoms items is) → length is
    ≡ length (heads_of r)
instance_places r items is h =
    let a = ap length h.1 in
    let b = length-map (heads_of r) (atom_at h.0) in
    let c = length-map is (λ i. get_or items i no_atom) in
    omega (arith, a, b, c)

-- all indices were tried
pub all_tried : (r : Rule) (items : List Atom) (is : List ℕ) (n : ℕ) → NoneBelow r items is n → length items ≤ n
    → (length is ≡ length (heads_of r) → ⊥) → NoCompletion r items is
all_tried r items is n none all short [] c h = short (let a = instance_places r items (is ++ []) h in let b =
    length-append is [] in omega (arith, a, b))
all_tried r items is n none all short (j ∷ js) c h =
    let l : nat_lt j (length items) ≡ true = (and_parts _ _ (and_parts _ (is_choice items (is ++ j ∷ []) js) c).0).0 in
    none j (grind (arith, nat_tests)) js c h

-- where no choice goes on with an index below n, nor with n, none does with an index below n + 1
one_more : (r : Rule) (items : List Atom) (is : List ℕ) (n : ℕ) → NoneBelow r items is n
    → ((js : List ℕ) → IsTrue (is_choice items is (n ∷ js)) → HasInstance r (chosen_atoms items (is ++ n ∷ js)) → ⊥)
    → NoneBelow r items is (n + 1)
one_more r items is n none here k l js c h = by (nat_eq k n) refl
  where
    by : (b : Bool) → nat_eq k n ≡ b → ⊥
    by true e =
        let same : k ≡ n = grind (arith, nat_tests) in
        here js (subst (λ m. is_choice items is (m ∷ js) ≡ true) same c)
        (subst (λ m. HasInstance r (chosen_atoms items (is ++ m ∷ js))) same h)
    by false e = none k (grind (arith, nat_tests)) js c h

-- where nothing goes on from the index n, it is one more that was tried
pub tried_chosen : (r : Rule) (items : List Atom) (is : List ℕ) (n : ℕ) → NoneBelow r items is n
    → NoCompletion r items (is ++ n ∷ []) → NoneBelow r items is (n + 1)
tried_chosen r items is n none no_more =
    one_more r items is n none (λ js c h. no_more js (and_parts _ (is_choice items (is ++ n ∷ []) js) c).1
    (subst (λ xs. HasInstance r (chosen_atoms items xs)) (sym (append_assoc is (n ∷ []) js)) h))

-- where the index n is taken already, it is one more that was tried
pub tried_taken : (r : Rule) (items : List Atom) (is : List ℕ) (n : ℕ) → NoneBelow r items is n
    → list_any (λ j. nat_eq j n) is ≡ true → NoneBelow r items is (n + 1)
tried_taken r items is n none taken =
    one_more r items is n none (λ js c h. (let two : (nat_lt n (length items) && not (list_any (λ j. nat_eq j n) is))
    ≡ true = (and_parts _ (is_choice items (is ++ n ∷ []) js) c).0 in
    true≢false (sym taken ∙ not-true _ (and_parts (nat_lt n (length items)) _ two).1)))

instance_shape : (v : Valuation) (p : Pattern) → has_shape p (atom_at v p) ≡ true
instance_shape v p = and_from _ _ (eq-eqb p.symbol.0 p.symbol.0 refl)
    (eq-eqb (length p.args.items) _ (sym (length-map p.args.items (term_value v))))

-- the atom at a place of the choice
at_seam : (items : List Atom) (is : List ℕ) (n : ℕ) (js : List ℕ) → get_or (chosen_atoms items (is ++ n ∷ js))
    (length is) no_atom ≡ get_or items n no_atom
at_seam items [] n js = refl
at_seam items (i ∷ is) n js = at_seam items is n js

-- where the atom at n has not the shape of the next place, n is one more index that was tried
tried_shape : (r : Rule) (items : List Atom) (is : List ℕ) (n : ℕ) → NoneBelow r items is n
    → length is < length (heads_of r) → has_shape_at r (length is) (get_or items n no_atom) ≡ false
    → NoneBelow r items is (n + 1)
tried_shape r items is n none room differs =
    one_more r items is n none (λ js c h.
    (let p : Pattern = get_or (heads_of r) (length is) no_pattern in
    let here : get_or (chosen_atoms items (is ++ n ∷ js)) (length is) no_atom ≡ get_or items n no_atom =
    at_seam items is n js in
    let there : get_or (heads_at h.0 r) (length is) no_atom ≡ atom_at h.0 p =
    get_or-map (atom_at h.0) (heads_of r) (length is) no_pattern no_atom room in
    let same : get_or items n no_atom ≡ atom_at h.0 p = sym here ∙ ap (λ xs. get_or xs (length is) no_atom) (sym h.1)
    ∙ there in
    true≢false (sym (instance_shape h.0 p) ∙ ap (has_shape p) (sym same) ∙ differs)))

-- the last index is dropped again
pub dropped : (is js ks : List ℕ) (n : ℕ) → js ≡ is ++ n ∷ [] → ks ≡ take (length js - 1) js → ks ≡ is
dropped is js ks n e f =
    let l = length-append is (n ∷ []) in
    let m : length (is ++ n ∷ []) - 1 ≡ length is = omega (arith, l) in
    f ∙ ap (λ xs. take (length xs - 1) xs) e ∙ ap (λ k. take k (is ++ n ∷ [])) m ∙ take-append_seam is (n ∷ [])

-- the next index makes a choice with those before it
pub next_choice : (items : List Atom) (is js : List ℕ) (n : ℕ) → IsTrue (is_choice items [] is) → n < length items
    → list_any (λ j. nat_eq j n) is ≡ false → js ≡ is ++ n ∷ [] → IsTrue (is_choice items [] js)
next_choice items is js n h l f e = rw e (choice_more items [] is n h l f)

-- a place is left
pub place_left : (n m k l : ℕ) → k ≡ n → l ≡ m → (k ≡ l → ⊥) → n ≤ m → n < m
place_left n m k l e f ne h = omega (arith, e, f, ne, h)

-- the atom that was looked at has not the shape, or its index was taken
pub shape_missed : (r : Rule) (items : List Atom) (is js : List ℕ) (n k : ℕ) (x : Atom) (b : Bool)
    → NoneBelow r items is n → js ≡ is → k ≡ length js → length is < length (heads_of r) → n < length items
    → x ≡ get_or items n x → b ≡ has_shape_at r k x → b ≡ false
    → NoneBelow r items is (n + 1)
shape_missed r items is js n k x b none same len room l at e f =
    tried_shape r items is n none room (let y : x ≡ get_or items n no_atom = at ∙ get_or_default items n x no_atom l in
    ap (λ xs. has_shape_at r (length xs) (get_or items n no_atom)) (sym same)
    ∙ ap (λ m. has_shape_at r m (get_or items n no_atom)) (sym len) ∙ ap (has_shape_at r k) (sym y) ∙ sym e ∙ f)
