-- How often an atom stands in a list, through edits of the list; and what these make of the multiset.
use Rattle.std.specs.Prelude.{◌≡◌, ℕ, ◌+◌, ◌<◌, ◌≤◌, Bool, true, false, cond, List, [], ◌∷◌, ◌++◌, length, get_or, take}
use Rattle.std.specs.Prelude.{drop, IsTrue, ◌↔◌}
use Rattle.std.specs.Bool.{OnTrue, OnFalse}
use Rattle.std.specs.List.{swap_remove}
use Rattle.std.specs.Ordering.{eq_by_cmp}
use Rattle.std.specs.Cmp.{tied_itself}
use Rattle.std.proofs.Common.{refl, sym, ap, arith}
use mathlib.Core.Bool.{true≢false}
use Rattle.std.proofs.lemmas.List.{take-append-drop}
use Rattle.std.proofs.lemmas.List.Sorted.{IsPermutation-swap_remove, sum_by_popped}
use Rattle.chr_base.specs.declared.atom.Atom.{Atom}
use Rattle.chr_base.specs.Atoms.{atom_cmp}
use Rattle.chr_base.proofs.Atoms.{atom_total, atom_exact}
use Rattle.chr_base.proofs.FinBags as bag_laws
use Rattle.chr_base.specs.FinBag.{count_in, IsWithin, ◌⊖◌}
use Rattle.chr_base.proofs.FinBags.{total_is, total-append, within_lists, lists_within, of_list_less}
use Rattle.chr_base.proofs.ListEdits.{count_in_more}
use Rattle.chr_base.specs.Stores.{store_of, count}
use Rattle.chr_base.proofs.Stores.{same_store}

abbrev matches : Atom → Atom → ℕ
matches q x = cond (eq_by_cmp atom_cmp q x) 1 0

pub count-append : (q : Atom) (xs ys : List Atom) → count_in atom_cmp q (xs ++ ys)
    ≡ count_in atom_cmp q xs + count_in atom_cmp q ys
count-append q xs ys = total-append (matches q) xs ys

-- the next atom is another one
pub none_more : (a : Atom) (xs : List Atom) (i : ℕ) (x : Atom) → i < length xs → x ≡ get_or xs i x
    → eq_by_cmp atom_cmp a x ≡ false → count_in atom_cmp a (take i xs) ≡ 0 → count_in atom_cmp a (take (i + 1) xs) ≡ 0
none_more a xs i x l is miss h =
    let b = count_in_more atom_cmp a xs i x l in
    let d : ◌≡◌ {A = ℕ} (cond (eq_by_cmp atom_cmp a (get_or xs i x)) 1 0) 0 = rw (← is, miss) refl in
    omega (arith, b, d, h)

-- the last atom came into the place of one
pub swapped : (q : Atom) (xs ys : List Atom) (i : ℕ) (x a : Atom) → i < length xs → x ≡ get_or xs i x → a ≡ x
    → ys ≡ swap_remove xs i x → count_in atom_cmp q xs ≡ count_in atom_cmp q ys + count_in atom_cmp q (a ∷ [])
swapped q xs ys i x a l is same e =
    let p = sum_by_popped (matches q) x xs (swap_remove xs i x) (IsPermutation-swap_remove xs i x l is) in
    let s = total_is (matches q) xs in
    let t = total_is (matches q) (swap_remove xs i x) in
    let u = ap (matches q) same in
    rw e (omega (arith, p, s, t, u))

-- one atom more was taken out
pub taken_more : (q : Atom) (xs ys zs as' : List Atom) (i : ℕ) (a : Atom) → i < length as' → a ≡ get_or as' i a
    → count_in atom_cmp q xs ≡ count_in atom_cmp q ys + count_in atom_cmp q (take i as')
    → count_in atom_cmp q ys ≡ count_in atom_cmp q zs + count_in atom_cmp q (a ∷ [])
    → count_in atom_cmp q xs ≡ count_in atom_cmp q zs + count_in atom_cmp q (take (i + 1) as')
taken_more q xs ys zs as' i a l is h g =
    let b = count_in_more atom_cmp q as' i a l in
    let d = ap (matches q) is in
    omega (arith, b, d, h, g)

count_itself : (a : Atom) → ◌≡◌ {A = ℕ} (matches a a) 1
count_itself a = rw (tied_itself atom_total a) refl

-- an atom that is missing stands in the list too seldom
pub missing : (xs ys as' : List Atom) (i : ℕ) (a : Atom) → i < length as' → a ≡ get_or as' i a
    → ((q : Atom) → count_in atom_cmp q xs ≡ count_in atom_cmp q ys + count_in atom_cmp q (take i as'))
    → count_in atom_cmp a ys ≡ 0
    → (q : Atom) × (count_in atom_cmp q xs < count_in atom_cmp q as')
missing xs ys as' i a l is h z =
    let b = count_in_more atom_cmp a as' i a l in
    let d = ap (matches a) is in
    let e = count_itself a in
    let f = count-append a (take (i + 1) as') (drop (i + 1) as') in
    let g = ap (count_in atom_cmp a) (take-append-drop (i + 1) as') in
    let k = h a in
    (a, omega (arith, b, d, e, f, g, k, z))

-- where the atoms that were taken are put back, the counts are as before
pub put_back : (q : Atom) (xs ys zs ws bs : List Atom) → count_in atom_cmp q xs
    ≡ count_in atom_cmp q ys + count_in atom_cmp q bs → zs ≡ ys → ws ≡ zs ++ bs → count_in atom_cmp q ws
    ≡ count_in atom_cmp q xs
put_back q xs ys zs ws bs h e f = let g = count-append q ys bs in rw (f, e) (omega (arith, g, h))

-- the multisets
pub same_counts : (xs ys : List Atom) → ((q : Atom) → count_in atom_cmp q xs ≡ count_in atom_cmp q ys) → store_of xs
    ≡ store_of ys
same_counts xs ys h = same_store _ _ (λ q. (let a = count-of xs q in let b = count-of ys q in let c = h q in
    omega (arith, a, b, c)))
  where
    count-of : (zs : List Atom) (q : Atom) → count (store_of zs) q ≡ count_in atom_cmp q zs
    count-of zs q = bag_laws.count-of_list atom_total zs q

pub store_less : (xs ys as' : List Atom) → ((q : Atom) → count_in atom_cmp q xs
    ≡ count_in atom_cmp q ys + count_in atom_cmp q as') → store_of ys ≡ store_of xs ⊖ store_of as'
store_less xs ys as' h = of_list_less atom_total atom_exact xs as' ys (λ q. (let a = h q in omega (arith, a)))

pub store_within : (xs ys as' : List Atom) → ((q : Atom) → count_in atom_cmp q xs
    ≡ count_in atom_cmp q ys + count_in atom_cmp q as') → IsWithin (store_of as') (store_of xs)
store_within xs ys as' h = within_lists atom_total as' xs (λ q. (let a = h q in omega (arith, a)))

pub not_within : (xs as' : List Atom) → (q : Atom) × (count_in atom_cmp q xs < count_in atom_cmp q as')
    → IsWithin (store_of as') (store_of xs) → ⊥
not_within xs as' w h = let a = lists_within atom_total as' xs h w.0 in let b = w.1 in omega (arith, a, b)

-- what the test of a removal says
pub taken_there : (b : Bool) (xs ys as' : List Atom) → OnTrue b
    ((q : Atom) → count_in atom_cmp q xs ≡ count_in atom_cmp q ys + count_in atom_cmp q as')
    → OnFalse b ((q : Atom) × (count_in atom_cmp q xs < count_in atom_cmp q as')) → IsTrue b ↔ IsWithin (store_of as')
    (store_of xs)
taken_there true xs ys as' h g = (λ _. store_within xs ys as' h, λ _. refl)
taken_there false xs ys as' h g = (λ e. absurd (true≢false (sym e)), λ w. absurd (not_within xs as' g w))

pub on_true : (b : Bool) (A B : Type 0) → OnTrue b A → (A → B) → OnTrue b B
on_true true A B h f = f h
on_true false A B h f = tt

pub on_false : (b : Bool) (A B : Type 0) → OnFalse b A → (A → B) → OnFalse b B
on_false true A B h f = tt
on_false false A B h f = f h

-- what is there is taken
pub taken_all : (b : Bool) (xs ys as' : List Atom) → OnTrue b
    ((q : Atom) → count_in atom_cmp q xs ≡ count_in atom_cmp q ys + count_in atom_cmp q as')
    → OnFalse b ((q : Atom) × (count_in atom_cmp q xs < count_in atom_cmp q as'))
    → IsWithin (store_of as') (store_of xs) → (q : Atom) → count_in atom_cmp q xs
    ≡ count_in atom_cmp q ys + count_in atom_cmp q as'
taken_all true xs ys as' h g w = h
taken_all false xs ys as' h g w = absurd (not_within xs as' g w)

-- what the test of membership says
pub has_within : (b : Bool) (xs as' : List Atom) → IsTrue b ↔
    ((q : Atom) → count_in atom_cmp q as' ≤ count_in atom_cmp q xs) → IsTrue b ↔ IsWithin (store_of as') (store_of xs)
has_within b xs as' h = (λ t. within_lists atom_total as' xs (h.0 t), λ w. h.1 (lists_within atom_total as' xs w))
