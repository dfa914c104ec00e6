-- Two lists of heads, matched greedily by equality: what is matched, what is left over, and how often each atom stands
-- there.
--     place_for used a k bs        the first place from k on that holds a and is not used, or 0
--     greedy bs used as        a matching of equal atoms, as many as there are
use Rattle.std.specs.Prelude.{◌≡◌, ℕ, zero, suc, ◌+◌, ◌≤◌, max, Bool, true, false, not, ◌&&◌, ◌||◌, cond, nat_eq}
use Rattle.std.specs.Prelude.{nat_lt, List, [], ◌∷◌, ◌++◌, length, Some, slice_get}
use Rattle.std.proofs.Common.{refl, sym, ap, subst, ◌∙◌, arith, inl, inr, ◌⊎◌}
use Rattle.std.proofs.lemmas.Bool.{eqb-true, eq-eqb, or_left, or_right, or_from, or_parts}
use Rattle.std.proofs.lemmas.Bool.Decides.{nat_tests}
use mathlib.Core.Bool.{true≢false, or-false}
use Rattle.std.specs.Ordering.{eq_by_cmp, is_eq}
use Rattle.std.specs.Cmp.{tied_itself}
use Rattle.chr_base.specs.declared.atom.Atom.{Atom}
use Rattle.chr_base.specs.Atoms.{atom_cmp}
use Rattle.chr_base.proofs.Atoms.{atom_total, same_is}
use Rattle.chr_base.specs.FinBag.{count_in}
use Rattle.chr_base.proofs.FinBags.{total-append}
use Rattle.chr_confluence.specs.Matchings.{names, MatchedAreEqual, IsInjective, left_over, matches_removed, Matches}

-- the matched ones of as
abbrev matched : List ℕ → List Atom → List Atom
matched [] as' = []
matched (e ∷ m) [] = []
matched (zero ∷ m) (a ∷ as') = matched m as'
matched (suc p ∷ m) (a ∷ as') = a ∷ matched m as'

abbrev is_same_atom : Atom → Atom → Bool
is_same_atom a b = eq_by_cmp atom_cmp a b

-- the first place from k on that holds a and is not used, or 0
abbrev place_for : List ℕ → Atom → ℕ → List Atom → ℕ
place_for used a k [] = 0
place_for used a k (b ∷ bs) = cond (not (names used (suc k)) && is_same_atom a b) (suc k) (place_for used a (suc k) bs)

-- the places taken, the last first
abbrev taken : List Atom → List ℕ → List Atom → List ℕ
taken bs used [] = used
taken bs used (a ∷ as') = taken bs (place_for used a 0 bs ∷ used) as'

abbrev greedy : List Atom → List ℕ → List Atom → List ℕ
greedy bs used [] = []
greedy bs used (a ∷ as') = place_for used a 0 bs ∷ greedy bs (place_for used a 0 bs ∷ used) as'

-- how often the atom stands in the list
abbrev pub count_of : Atom → List Atom → ℕ
count_of q xs = count_in atom_cmp q xs

itself : (a : Atom) → is_same_atom a a ≡ true
itself a = ap is_eq (tied_itself atom_total a)

-- a place before k changes nothing
left_over_before : (m : List ℕ) (p k : ℕ) (bs : List Atom) → p ≤ k → left_over (p ∷ m) k bs ≡ left_over m k bs
left_over_before m p k [] h = refl
left_over_before m p k (b ∷ bs) h =
    let e : nat_eq (suc k) p ≡ false = grind (arith, nat_tests) in
    rw e (λ i. cond (names m (suc k)) (left_over_before m p (suc k) bs (omega arith) i)
    (b ∷ left_over_before m p (suc k) bs (omega arith) i))

place_left : (used : List ℕ) (a : Atom) (k : ℕ) (bs : List Atom) → place_for used a k bs ≡ 0
    → count_of a (left_over used k bs) ≡ 0
place_left used a k [] h = refl
place_left used a k (b ∷ bs) h = by (names used (suc k)) refl (is_same_atom a b) refl (place_left used a (suc k) bs) h
  where
    by : (x : Bool) → names used (suc k) ≡ x → (y : Bool) → is_same_atom a b ≡ y
        → (place_for used a (suc k) bs ≡ 0 → count_of a (left_over used (suc k) bs) ≡ 0)
        → cond (not (names used (suc k)) && is_same_atom a b) (suc k) (place_for used a (suc k) bs) ≡ 0
        → count_of a (left_over used k (b ∷ bs)) ≡ 0
    by true e y g more h = rw e (more (rw e at h))
    by false e true g more h = absurd (let z : suc k ≡ 0 = rw (e, g) at h in omega (arith, z))
    by false e false g more h = rw e (rw g (let z = more (rw (e, g) at h) in omega (arith, z)))

record Found (used : List ℕ) (a : Atom) (k : ℕ) (bs : List Atom) (p : ℕ) : Type 0 where
  j : ℕ
  is : p ≡ k + j
  at : slice_get bs j ≡ Some a
  free : names used (suc p) ≡ false
  counts : (q : Atom) → count_of q (left_over used k bs) ≡ cond (is_same_atom q a) 1 0 + count_of q
      (left_over (suc p ∷ used) k bs)

place_found : (used : List ℕ) (a : Atom) (k : ℕ) (bs : List Atom) (p : ℕ) → place_for used a k bs ≡ suc p
    → Found used a k bs p
place_found used a k [] p h = absurd (omega (arith, h))
place_found used a k (b ∷ bs) p h = by (names used (suc k)) refl (is_same_atom a b) refl
    (place_found used a (suc k) bs p) h
  where
    later : Found used a (suc k) bs p → cond (not (names used (suc k)) && is_same_atom a b) (suc k)
        (place_for used a (suc k) bs) ≡ suc p → Found used a k (b ∷ bs) p
    later f h =
        let apart : nat_eq (suc k) (suc p) ≡ false = (let g = f.is in grind (arith, nat_tests)) in
        record {
          j = suc f.j;
          is = (let g = f.is in omega (arith, g));
          at = f.at;
          free = f.free;
          counts = λ q. (let c = f.counts q in rw apart
              (elim (names used (suc k)) as (λ x. count_of q
              (cond x (left_over used (suc k) bs) (b ∷ left_over used (suc k) bs))
              ≡ cond (is_same_atom q a) 1 0 + count_of q
              (cond x (left_over (suc p ∷ used) (suc k) bs) (b ∷ left_over (suc p ∷ used) (suc k) bs)))
              [ true ↦ c | false ↦ omega (arith, c) ]));
        }

    by : (x : Bool) → names used (suc k) ≡ x → (y : Bool) → is_same_atom a b ≡ y
        → (place_for used a (suc k) bs ≡ suc p → Found used a (suc k) bs p)
        → cond (not (names used (suc k)) && is_same_atom a b) (suc k) (place_for used a (suc k) bs) ≡ suc p
        → Found used a k (b ∷ bs) p
    by true e y g more h = later (more (rw e at h)) h
    by false e false g more h = later (more (rw (e, g) at h)) h
    by false e true g more h =
        let z : suc k ≡ suc p = rw (e, g) at h in
        let kp : k ≡ p = omega (arith, z) in
        record {
          j = 0;
          is = omega (arith, z);
          at = ap Some (sym (same_is a b g));
          free = subst (λ x. names used (suc x) ≡ false) kp e;
          counts = λ q. subst (λ x. count_of q (left_over used k (b ∷ bs)) ≡ cond (is_same_atom q a) 1 0 + count_of q
              (left_over (suc x ∷ used) k (b ∷ bs))) kp
              (rw (
                e,
                eq-eqb (suc k) (suc k) refl,
                left_over_before used (suc k) (suc k) bs (omega arith),
                same_is a b g,
              ) refl);
        }

or_assoc : (a b c : Bool) → ((a || b) || c) ≡ (b || (a || c))
or_assoc true true c = refl
or_assoc true false c = refl
or_assoc false b c = refl

left_over_same : (m n : List ℕ) (k : ℕ) (bs : List Atom) → ((p : ℕ) → names m p ≡ names n p) → left_over m k bs
    ≡ left_over n k bs
left_over_same m n k [] h = refl
left_over_same m n k (b ∷ bs) h = λ i. cond (h (suc k) i) (left_over_same m n (suc k) bs h i)
    (b ∷ left_over_same m n (suc k) bs h i)

names_taken : (bs : List Atom) (used : List ℕ) (as' : List Atom) (p : ℕ) → names (taken bs used as') p
    ≡ (names (greedy bs used as') p || names used p)
names_taken bs used [] p = refl
names_taken bs used (a ∷ as') p =
    let e = place_for used a 0 bs in
    names_taken bs (e ∷ used) as' p ∙ sym (or_assoc (nat_eq p e) (names (greedy bs (e ∷ used) as') p) (names used p))

-- a used place is not taken again
not_again : (bs : List Atom) (used : List ℕ) (as' : List Atom) (p : ℕ) → names used (suc p) ≡ true
    → names (greedy bs used as') (suc p) ≡ false
not_again bs used [] p h = refl
not_again bs used (a ∷ as') p h = or_from _ _ (by (place_for used a 0 bs) refl)
    (not_again bs (place_for used a 0 bs ∷ used) as' p (or_right _ _ h))
  where
    by : (e : ℕ) → place_for used a 0 bs ≡ e → nat_eq (suc p) e ≡ false
    by zero h' = grind (arith, nat_tests)
    by (suc p') h' = by2 (nat_eq (suc p) (suc p')) refl (place_found used a 0 bs p' h')
      where
        by2 : (x : Bool) → nat_eq (suc p) (suc p') ≡ x → Found used a 0 bs p' → x ≡ false
        by2 false e f = refl
        by2 true e f = absurd (true≢false (sym h ∙ ap (names used) (eqb-true _ _ e) ∙ f.free))

greedy_apart : (bs : List Atom) (used : List ℕ) (as' : List Atom) → IsInjective (greedy bs used as')
greedy_apart bs used [] = tt
greedy_apart bs used (a ∷ as') = by (place_for used a 0 bs) (greedy bs (place_for used a 0 bs ∷ used) as')
    (greedy_apart bs (place_for used a 0 bs ∷ used) as')
    (λ p h. not_again bs (place_for used a 0 bs ∷ used) as' p (or_left _ _ (eq-eqb _ _ (sym h))))
  where
    by : (e : ℕ) (m : List ℕ) → IsInjective m → ((p : ℕ) → e ≡ suc p → names m (suc p) ≡ false) → IsInjective (e ∷ m)
    by zero m h g = h
    by (suc p) m h g = (g p refl, h)

greedy_agrees : (bs : List Atom) (used : List ℕ) (as' : List Atom) → MatchedAreEqual bs (greedy bs used as') as'
greedy_agrees bs used [] = tt
greedy_agrees bs used (a ∷ as') = by (place_for used a 0 bs) refl (greedy bs (place_for used a 0 bs ∷ used) as')
    (greedy_agrees bs (place_for used a 0 bs ∷ used) as')
  where
    by : (e : ℕ) → place_for used a 0 bs ≡ e → (m : List ℕ) → MatchedAreEqual bs m as'
        → MatchedAreEqual bs (e ∷ m) (a ∷ as')
    by zero h m g = g
    by (suc p) h m g = (
      let f = place_found used a 0 bs p h in let j : f.j ≡ p = (let i = f.is in omega (arith, i)) in
          subst (λ x. slice_get bs x ≡ Some a) j f.at,
      g,
    )

-- what is left over and what is matched make up what was there
greedy_counts : (bs : List Atom) (used : List ℕ) (as' : List Atom) (q : Atom) → count_of q (left_over used 0 bs)
    ≡ count_of q (matched (greedy bs used as') as') + count_of q (left_over (taken bs used as') 0 bs)
greedy_counts bs used [] q = omega arith
greedy_counts bs used (a ∷ as') q = by (place_for used a 0 bs) refl
    (greedy_counts bs (place_for used a 0 bs ∷ used) as' q)
  where
    by : (e : ℕ) → place_for used a 0 bs ≡ e → count_of q (left_over (e ∷ used) 0 bs)
        ≡ count_of q (matched (greedy bs (e ∷ used) as') as') + count_of q (left_over (taken bs (e ∷ used) as') 0 bs)
        → count_of q (left_over used 0 bs) ≡ count_of q (matched (e ∷ greedy bs (e ∷ used) as') (a ∷ as')) + count_of q
        (left_over (taken bs (e ∷ used) as') 0 bs)
    by zero h more = sym (ap (count_of q) (left_over_before used 0 0 bs (omega arith))) ∙ more
    by (suc p) h more = let f = place_found used a 0 bs p h in let c = f.counts q in omega (arith, c, more)

-- where the atoms of as' are matched greedily, they and the atoms of bs that are left over are, of each atom, no more
-- than the greater of both lists has
greedy_bound : (bs : List Atom) (used : List ℕ) (as' : List Atom) (q : Atom)
    → count_of q as' + count_of q (left_over (taken bs used as') 0 bs) ≤ max (count_of q as')
    (count_of q (left_over used 0 bs))
greedy_bound bs used [] q = omega arith
greedy_bound bs used (a ∷ as') q = by (place_for used a 0 bs) refl
    (greedy_bound bs (place_for used a 0 bs ∷ used) as' q)
  where
    by : (e : ℕ) → place_for used a 0 bs ≡ e → count_of q as' + count_of q
        (left_over (taken bs (e ∷ used) as') 0 bs) ≤ max (count_of q as') (count_of q (left_over (e ∷ used) 0 bs))
        → (cond (is_same_atom q a) 1 0 + count_of q as') + count_of q (left_over (taken bs (e ∷ used) as') 0 bs) ≤ max
        (cond (is_same_atom q a) 1 0 + count_of q as') (count_of q (left_over used 0 bs))
    by (suc p) h more = let f = place_found used a 0 bs p h in let c = f.counts q in omega (arith, c, more)
    by zero h more =
        let same = ap (count_of q) (left_over_before used 0 0 bs (omega arith)) in
        elim (is_same_atom q a) as (λ x. is_same_atom q a ≡ x → (cond x 1 0 + count_of q as') + count_of q
        (left_over (taken bs (zero ∷ used) as') 0 bs) ≤ max (cond x 1 0 + count_of q as')
        (count_of q (left_over used 0 bs))) [
          | true ↦ λ e. (let gone : count_of q (left_over used 0 bs) ≡ 0 =
              rw (same_is q a e) (place_left used a 0 bs h) in omega (arith, gone, more, same))
          | false ↦ λ e. omega (arith, more, same)
        ] refl

-- naming one more place leaves out at most its atom
one_out : (m : List ℕ) (p k j : ℕ) (bs : List Atom) (a q : Atom) → p ≡ k + j → slice_get bs j ≡ Some a
    → count_of q (left_over m k bs) ≤ cond (is_same_atom q a) 1 0 + count_of q (left_over (suc p ∷ m) k bs)
one_out m p k j [] a q e h = omega arith
one_out m p k zero (b ∷ bs) a q e h =
    let kp : k ≡ p = omega (arith, e) in
    let same : b ≡ a = unwrapped b a h in
    subst (λ x. count_of q (left_over m k (b ∷ bs)) ≤ cond (is_same_atom q a) 1 0 + count_of q
    (left_over (suc x ∷ m) k (b ∷ bs))) kp
    (rw (eq-eqb (suc k) (suc k) refl, left_over_before m (suc k) (suc k) bs (omega arith), ← same)
    (elim (names m (suc k)) as (λ x. count_of q (cond x (left_over m (suc k) bs) (b ∷ left_over m (suc k) bs)) ≤ cond
    (is_same_atom q b) 1 0 + count_of q (left_over m (suc k) bs)) [ true ↦ omega arith | false ↦ omega arith ]))
  where
    unwrapped : (b a : Atom) → Some b ≡ Some a → b ≡ a
    unwrapped b a h = cc
one_out m p k (suc j) (b ∷ bs) a q e h =
    let more = one_out m p (suc k) j bs a q (omega (arith, e)) h in
    let apart : nat_eq (suc k) (suc p) ≡ false = grind (arith, nat_tests, e) in
    rw apart (elim (names m (suc k)) as (λ x. count_of q
    (cond x (left_over m (suc k) bs) (b ∷ left_over m (suc k) bs)) ≤ cond (is_same_atom q a) 1 0 + count_of q
    (cond x (left_over (suc p ∷ m) (suc k) bs) (b ∷ left_over (suc p ∷ m) (suc k) bs)))
    [ true ↦ more | false ↦ omega (arith, more) ])

none_named : (k : ℕ) (bs : List Atom) → left_over [] k bs ≡ bs
none_named k [] = refl
none_named k (b ∷ bs) = ap (λ xs. b ∷ xs) (none_named (suc k) bs)

-- each list's atoms stand among the first list's and those that are left over
pub second_there : (bs : List Atom) (m : List ℕ) (as' : List Atom) (q : Atom) → MatchedAreEqual bs m as'
    → count_of q bs ≤ count_of q as' + count_of q (left_over m 0 bs)
second_there bs [] [] q h = let e = ap (count_of q) (none_named 0 bs) in omega (arith, e)
second_there bs [] (a ∷ as') q h = absurd h
second_there bs (e ∷ m) [] q h = absurd h
second_there bs (zero ∷ m) (a ∷ as') q h =
    let more = second_there bs m as' q h in let e = ap (count_of q) (left_over_before m 0 0 bs (omega arith)) in
    omega (arith, more, e)
second_there bs (suc p ∷ m) (a ∷ as') q h =
    let more = second_there bs m as' q h.1 in let one = one_out m p 0 p bs a q (omega arith) h.0 in
    omega (arith, more, one)

none_matched : (m : List ℕ) (rs : List Atom) (n2 : ℕ) (q : Atom) → matches_removed zero n2 m ≡ false
    → count_of q (matched m rs) ≡ 0
none_matched [] rs n2 q h = refl
none_matched (e ∷ m) [] n2 q h = refl
none_matched (zero ∷ m) (r ∷ rs) n2 q h = none_matched m rs n2 q h
none_matched (suc p ∷ m) (r ∷ rs) n2 q h = absurd (true≢false h)

matched_kept : (m : List ℕ) (ks rs : List Atom) (n2 : ℕ) (q : Atom) → matches_removed (length ks) n2 m ≡ false
    → count_of q (matched m (ks ++ rs)) ≤ count_of q ks
matched_kept m [] rs n2 q h = let e = none_matched m rs n2 q h in omega (arith, e)
matched_kept [] (k ∷ ks) rs n2 q h = omega arith
matched_kept (zero ∷ m) (k ∷ ks) rs n2 q h = let more = matched_kept m ks rs n2 q h in omega (arith, more)
matched_kept (suc p ∷ m) (k ∷ ks) rs n2 q h = let more =
    matched_kept m ks rs n2 q (or_parts (nat_lt n2 (suc p)) (matches_removed (length ks) n2 m) h).1 in
    omega (arith, more)

-- no place past the kept ones is named
not_named : (n n2 : ℕ) (m : List ℕ) (p : ℕ) → matches_removed n n2 m ≡ false → n2 ≤ p → names m (suc p) ≡ false
not_named n n2 [] p h l = refl
not_named zero n2 (zero ∷ m) p h l = or_from _ _ (grind (arith, nat_tests)) (not_named zero n2 m p h l)
not_named (suc n) n2 (zero ∷ m) p h l = or_from _ _ (grind (arith, nat_tests)) (not_named n n2 m p h l)
not_named zero n2 (suc e ∷ m) p h l = absurd (true≢false h)
not_named (suc n) n2 (suc e ∷ m) p h l = or_from _ _ (apart n2 e p l (or_parts _ _ h).0)
    (not_named n n2 m p (or_parts _ _ h).1 l)
  where
    apart : (n2 e p : ℕ) → n2 ≤ p → nat_lt n2 (suc e) ≡ false → nat_eq (suc p) (suc e) ≡ false
    apart n2 e p l h = grind (arith, nat_tests)

all_left : (m : List ℕ) (k n2 : ℕ) (rs : List Atom) → n2 ≤ k → ((p : ℕ) → n2 ≤ p → names m (suc p) ≡ false)
    → left_over m k rs ≡ rs
all_left m k n2 [] l h = refl
all_left m k n2 (r ∷ rs) l h = rw (h k l) (ap (λ xs. r ∷ xs) (all_left m (suc k) n2 rs (omega arith) h))

removed_left : (m : List ℕ) (k n2 : ℕ) (ks rs : List Atom) (q : Atom) → n2 ≤ k + length ks
    → ((p : ℕ) → n2 ≤ p → names m (suc p) ≡ false) → count_of q rs ≤ count_of q (left_over m k (ks ++ rs))
removed_left m k n2 [] rs q l h = let e = ap (count_of q) (all_left m k n2 rs (omega arith) h) in omega (arith, e)
removed_left m k n2 (x ∷ ks) rs q l h =
    let more = removed_left m (suc k) n2 ks rs q (omega arith) h in
    elim (names m (suc k)) as (λ b. count_of q rs ≤ count_of q
    (cond b (left_over m (suc k) (ks ++ rs)) (x ∷ left_over m (suc k) (ks ++ rs))))
    [ true ↦ more | false ↦ omega (arith, more) ]

module _ (ks1 rs1 ks2 rs2 : List Atom) where
  abbrev best : List ℕ
  best = greedy (ks2 ++ rs2) [] (ks1 ++ rs1)

  left_best : left_over (taken (ks2 ++ rs2) [] (ks1 ++ rs1)) 0 (ks2 ++ rs2) ≡ left_over best 0 (ks2 ++ rs2)
  left_best = left_over_same _ _ 0 (ks2 ++ rs2) (λ p. names_taken (ks2 ++ rs2) [] (ks1 ++ rs1) p ∙ or-false _)

  -- Either some matching has a removed head among the matched, and its heads, the matched ones once, are no more than
  -- the greater of both lists of heads; or each of the two can lose the removed heads of the other and still have its
  -- own.
  pub touching_or_apart : ((m : List ℕ) × Matches ks1 rs1 ks2 rs2 m
      × ((q : Atom) → count_of q (ks1 ++ rs1) + count_of q (left_over m 0 (ks2 ++ rs2)) ≤ max (count_of q (ks1 ++ rs1))
      (count_of q (ks2 ++ rs2))))
      ⊎ ((q : Atom) → (count_of q (ks2 ++ rs2) + count_of q rs1 ≤ max (count_of q (ks1 ++ rs1))
      (count_of q (ks2 ++ rs2))) × (count_of q (ks1 ++ rs1) + count_of q rs2 ≤ max (count_of q (ks1 ++ rs1))
      (count_of q (ks2 ++ rs2))))
  touching_or_apart = by (matches_removed (length ks1) (length ks2) best) refl
    where
      within : (q : Atom) → count_of q (ks1 ++ rs1) + count_of q (left_over best 0 (ks2 ++ rs2)) ≤ max
          (count_of q (ks1 ++ rs1)) (count_of q (ks2 ++ rs2))
      within q =
          let a = greedy_bound (ks2 ++ rs2) [] (ks1 ++ rs1) q in
          let b = ap (count_of q) left_best in
          let c = ap (count_of q) (none_named 0 (ks2 ++ rs2)) in
          omega (arith, a, b, c)

      by : (x : Bool) → matches_removed (length ks1) (length ks2) best ≡ x
          → ((m : List ℕ) × Matches ks1 rs1 ks2 rs2 m × ((q : Atom) → count_of q (ks1 ++ rs1) + count_of q
          (left_over m 0 (ks2 ++ rs2)) ≤ max (count_of q (ks1 ++ rs1)) (count_of q (ks2 ++ rs2))))
          ⊎ ((q : Atom) → (count_of q (ks2 ++ rs2) + count_of q rs1 ≤ max (count_of q (ks1 ++ rs1))
          (count_of q (ks2 ++ rs2))) × (count_of q (ks1 ++ rs1) + count_of q rs2 ≤ max (count_of q (ks1 ++ rs1))
          (count_of q (ks2 ++ rs2))))
      by true h = inl (
        best,
        record {
          agrees = greedy_agrees (ks2 ++ rs2) [] (ks1 ++ rs1);
          apart =
              greedy_apart (ks2 ++ rs2) [] (ks1 ++ rs1);
          touching = h;
        },
        within,
      )
      by false h = inr (λ q.
          (let a = within q in
          let b = ap (count_of q) left_best in
          let c = ap (count_of q) (none_named 0 (ks2 ++ rs2)) in
          let d = greedy_counts (ks2 ++ rs2) [] (ks1 ++ rs1) q in
          let e = matched_kept best ks1 rs1 (length ks2) q h in
          let f = removed_left best 0 (length ks2) ks2 rs2 q (omega arith)
          (λ p l. not_named (length ks1) (length ks2) best p h l) in
          let g = total-append (λ x. cond (eq_by_cmp atom_cmp q x) 1 0) ks1 rs1 in
          (omega (arith, a, b, c, d, e, g), omega (arith, a, f))))
