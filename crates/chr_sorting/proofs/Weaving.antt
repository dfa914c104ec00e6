-- One list or one value more, in a walk over combinations.
use Rattle.std.specs.Prelude.{◌≡◌, ℕ, ℤ, ◌+◌, ◌-◌, ◌<◌, Bool, true, false, cond, nat_eq, List, [], ◌∷◌, ◌++◌, map}
use Rattle.std.specs.Prelude.{length}
use Rattle.std.specs.List.{flat_map}
use Rattle.std.specs.Ordering.{int_eq}
use mathlib.Core.Bool.{not}
use Rattle.std.proofs.Common.{Vec, Global, refl, sym, ap, ◌∙◌, inl, inr, take, get_or, arith}
use Rattle.std.proofs.lemmas.List.{take_more, map_push, append-nil}
use Rattle.std.proofs.lemmas.List.Elements.{filter-append}
use Rattle.std.proofs.lemmas.Bool.{eq-eqb, eqb-true}
use Rattle.chr_types.specs.OrderTypes.{In}
use Rattle.chr_types.specs.working.Search.{others}
use Rattle.chr_types.proofs.Holes.{in_others, others_in, same_yes, yes_same}
use Rattle.chr_types.proofs.Sliding.{equal_or_not, in_or_not}
use Rattle.chr_sorting.specs.declared.weave.SortLists.{SortLists}
use Rattle.chr_sorting.specs.working.Weaving.{firsts, each_once, tails, begun, woven, held_or, held}

pub next_list : (vs : List (Vec ℤ Global)) (i : ℕ) (v : Vec ℤ Global) → i < length vs → v ≡ get_or vs i v
    → map (λ l. l.items) (take (i + 1) vs) ≡ map (λ l. l.items) (take i vs) ++ v.items ∷ []
next_list vs i v l is =
    ap (map (λ l. l.items)) (take_more vs i v l) ∙ map_push (λ l. l.items) (take i vs) (get_or vs i v)
    ∙ ap (λ (x : Vec ℤ Global). map (λ l. l.items) (take i vs) ++ x.items ∷ []) (sym is)

-- ---- the first values, each once

firsts_more : (ls : List (List ℤ)) (l : List ℤ) → firsts (ls ++ l ∷ []) ≡ firsts ls ++ firsts (l ∷ [])
firsts_more [] l = refl
firsts_more ([] ∷ ls) l = firsts_more ls l
firsts_more ((z ∷ zs) ∷ ls) l = ap (λ xs. z ∷ xs) (firsts_more ls l)

pub once_in : (z : ℤ) (xs : List ℤ) → In z (each_once xs) → In z xs
once_in z [] i = i
once_in z (x ∷ xs) (inl e) = inl e
once_in z (x ∷ xs) (inr i) = inr (once_in z xs (others_in x z (each_once xs) i).0)

pub in_once : (z : ℤ) (xs : List ℤ) → In z xs → In z (each_once xs)
in_once z [] i = i
in_once z (x ∷ xs) (inl e) = inl e
in_once z (x ∷ xs) (inr i) = elim (equal_or_not z x) as (λ _. In z (each_once (x ∷ xs))) [
  | inl e ↦ inl e
  | inr n ↦ inr (in_others x z (each_once xs) (in_once z xs i) n)
]

others_last : (x z : ℤ) (xs : List ℤ) → x ≡ z → others x (xs ++ z ∷ []) ≡ others x xs
others_last x z xs e =
    filter-append (λ y. not (int_eq y x)) xs (z ∷ []) ∙ ap (λ b. others x xs ++ cond (not b) (z ∷ []) [])
    (yes_same z x (sym e)) ∙ append-nil (others x xs)

others_more : (x z : ℤ) (xs : List ℤ) → (z ≡ x → ⊥) → others x (xs ++ z ∷ []) ≡ others x xs ++ z ∷ []
others_more x z xs n = filter-append (λ y. not (int_eq y x)) xs (z ∷ []) ∙ by (int_eq z x) refl
  where
    by : (b : Bool) → int_eq z x ≡ b → others x xs ++ cond (not (int_eq z x)) (z ∷ []) [] ≡ others x xs ++ z ∷ []
    by true e = absurd (n (same_yes z x e))
    by false e = ap (λ b. others x xs ++ cond (not b) (z ∷ []) []) e

mutual
  once_known : (z : ℤ) (xs : List ℤ) → In z xs → each_once (xs ++ z ∷ []) ≡ each_once xs
  once_known z [] i = absurd i
  once_known z (x ∷ xs) i = elim (in_or_not z xs) as (λ _. each_once ((x ∷ xs) ++ z ∷ []) ≡ each_once (x ∷ xs)) [
    | inl j ↦ ap (λ ys. x ∷ others x ys) (once_known z xs j)
    | inr n ↦ elim i as (λ _. each_once ((x ∷ xs) ++ z ∷ []) ≡ each_once (x ∷ xs)) [
      | inl e ↦ ap (λ ys. x ∷ others x ys) (once_new z xs n)
          ∙ ap (λ ys. x ∷ ys) (others_last x z (each_once xs) (sym e))
      | inr j ↦ absurd (n j)
    ]
  ]

  once_new : (z : ℤ) (xs : List ℤ) → (In z xs → ⊥) → each_once (xs ++ z ∷ []) ≡ each_once xs ++ z ∷ []
  once_new z [] n = refl
  once_new z (x ∷ xs) n =
      ap (λ ys. x ∷ others x ys) (once_new z xs (λ i. n (inr i)))
      ∙ ap (λ ys. x ∷ ys) (others_more x z (each_once xs) (λ e. n (inl e)))

pub none_begins : (ls : List (List ℤ)) (l : List ℤ) → l ≡ [] → each_once (firsts (ls ++ l ∷ [])) ≡ each_once (firsts ls)
none_begins ls l e = ap (λ x. each_once (firsts (ls ++ x ∷ []))) e
    ∙ ap each_once (firsts_more ls [] ∙ append-nil (firsts ls))

pub known_begins : (ls : List (List ℤ)) (l : List ℤ) (z : ℤ) (zs : List ℤ) → l ≡ z ∷ zs → In z (each_once (firsts ls))
    → each_once (firsts (ls ++ l ∷ [])) ≡ each_once (firsts ls)
known_begins ls l z zs e i =
    ap (λ x. each_once (firsts (ls ++ x ∷ []))) e ∙ ap each_once (firsts_more ls (z ∷ zs))
    ∙ once_known z (firsts ls) (once_in z (firsts ls) i)

pub new_begins : (ls : List (List ℤ)) (l : List ℤ) (z : ℤ) (zs : List ℤ) → l ≡ z ∷ zs
    → (In z (each_once (firsts ls)) → ⊥)
    → each_once (firsts (ls ++ l ∷ [])) ≡ each_once (firsts ls) ++ z ∷ []
new_begins ls l z zs e n =
    ap (λ x. each_once (firsts (ls ++ x ∷ []))) e ∙ ap each_once (firsts_more ls (z ∷ zs))
    ∙ once_new z (firsts ls) (λ i. n (in_once z (firsts ls) i))

-- ---- what follows a value

tails_more : (z : ℤ) (ls : List (List ℤ)) (l : List ℤ) → tails z (ls ++ l ∷ []) ≡ tails z ls ++ tails z (l ∷ [])
tails_more z [] l = refl
tails_more z ([] ∷ ls) l = tails_more z ls l
tails_more z ((y ∷ ys) ∷ ls) l = elim (int_eq y z) as (λ b. cond b (ys ∷ tails z (ls ++ l ∷ []))
    (tails z (ls ++ l ∷ [])) ≡ cond b (ys ∷ tails z ls) (tails z ls) ++ tails z (l ∷ [])) [
      | true ↦ ap (λ ts. ys ∷ ts) (tails_more z ls l)
      | false ↦ tails_more z ls l
    ]

pub no_tail : (z : ℤ) (ls : List (List ℤ)) (l : List ℤ) → l ≡ [] → tails z (ls ++ l ∷ []) ≡ tails z ls
no_tail z ls l e = ap (λ x. tails z (ls ++ x ∷ [])) e ∙ tails_more z ls [] ∙ append-nil (tails z ls)

pub other_tail : (z y : ℤ) (ys : List ℤ) (ls : List (List ℤ)) (l : List ℤ) → l ≡ y ∷ ys → (y ≡ z → ⊥)
    → tails z (ls ++ l ∷ []) ≡ tails z ls
other_tail z y ys ls l e n = ap (λ x. tails z (ls ++ x ∷ [])) e ∙ tails_more z ls (y ∷ ys) ∙ by (int_eq y z) refl
  where
    by : (b : Bool) → int_eq y z ≡ b → tails z ls ++ cond (int_eq y z) (ys ∷ []) [] ≡ tails z ls
    by true g = absurd (n (same_yes y z g))
    by false g = ap (λ b. tails z ls ++ cond b (ys ∷ []) []) g ∙ append-nil (tails z ls)

pub next_tail : (z y : ℤ) (ys : List ℤ) (ls : List (List ℤ)) (l : List ℤ) → l ≡ y ∷ ys → y ≡ z → tails z (ls ++ l ∷ [])
    ≡ tails z ls ++ ys ∷ []
next_tail z y ys ls l e s =
    ap (λ x. tails z (ls ++ x ∷ [])) e ∙ tails_more z ls (y ∷ ys) ∙ ap (λ b. tails z ls ++ cond b (ys ∷ []) [])
    (yes_same y z s)

-- ---- lists as they are held

held_or_more : (ls : List (List ℤ)) (hs : List SortLists) (h : SortLists) (k : ℕ)
    → held_or ls (hs ++ h ∷ []) k ≡ cond (nat_eq h.sort k) (map (λ l. l.items) h.lists.items) (held_or ls hs k)
held_or_more ls [] h k = refl
held_or_more ls (g ∷ hs) h k = held_or_more (cond (nat_eq g.sort k) (map (λ l. l.items) g.lists.items) ls) hs h k

pub held_more : (hs : List SortLists) (h : SortLists) (k : ℕ) → held (hs ++ h ∷ []) k
    ≡ cond (nat_eq h.sort k) (map (λ l. l.items) h.lists.items) (held hs k)
held_more hs h k = held_or_more [] hs h k

pub held_here : (hs : List SortLists) (h : SortLists) (k : ℕ) → h.sort ≡ k → held (hs ++ h ∷ []) k
    ≡ map (λ l. l.items) h.lists.items
held_here hs h k e = held_more hs h k ∙ ap (λ b. cond b (map (λ l. l.items) h.lists.items) (held hs k))
    (eq-eqb h.sort k e)

pub held_elsewhere : (hs : List SortLists) (h : SortLists) (k : ℕ) → (h.sort ≡ k → ⊥) → held (hs ++ h ∷ []) k
    ≡ held hs k
held_elsewhere hs h k n = held_more hs h k ∙ by (nat_eq h.sort k) refl
  where
    by : (b : Bool) → nat_eq h.sort k ≡ b → cond (nat_eq h.sort k) (map (λ l. l.items) h.lists.items) (held hs k)
        ≡ held hs k
    by true e = absurd (n (eqb-true h.sort k e))
    by false e = ap (λ b. cond b (map (λ l. l.items) h.lists.items) (held hs k)) e

pub held_begun : (hs : List SortLists) (h : SortLists) (k : ℕ) (z : ℤ) → h.sort ≡ k → map (λ l. l.items) h.lists.items
    ≡ tails z (held hs k)
    → held (hs ++ h ∷ []) ≡ begun k z (held hs)
held_begun hs h k z s t i j =
    (held_more hs h j ∙ ap (λ n. cond (nat_eq n j) (map (λ l. l.items) h.lists.items) (held hs j)) s
    ∙ ap (λ ls. cond (nat_eq k j) ls (held hs j)) t) i

-- ---- one value of a walk

pub at_value : (ks : List ℕ) (lists now : ℕ → List (List ℤ)) (p longer : List ℤ) (k : ℕ) (z : ℤ)
    → now ≡ begun k z lists → longer ≡ p ++ z ∷ [] → woven ks now longer ≡ woven ks (begun k z lists) (p ++ z ∷ [])
at_value ks lists now p longer k z n l = λ i. woven ks (n i) (l i)

pub all_values : (ks rest : List ℕ) (hs : List SortLists) (k : ℕ) (p values : List ℤ) → ks ≡ k ∷ rest → values
    ≡ each_once (firsts (held hs k))
    → flat_map (λ z. woven rest (begun k z (held hs)) (p ++ z ∷ [])) values ≡ woven ks (held hs) p
all_values ks rest hs k p values e v =
    ap (flat_map (λ z. woven rest (begun k z (held hs)) (p ++ z ∷ []))) v ∙ ap (λ js. woven js (held hs) p) (sym e)

-- what was put last is taken off again
pub popped_back : (xs ys zs now : List SortLists) → now ≡ take (length ys - 1) ys → ys ≡ zs → length zs ≡ length xs + 1
    → take (length xs) zs ≡ xs → now ≡ xs
popped_back xs ys zs now p s l b =
    p ∙ ap (λ vs. take (length vs - 1) vs) s ∙ ap (λ n. take (n - 1) zs) l ∙ ap (λ n. take n zs) (omega arith) ∙ b
