-- Choices by index against multisets: a choice takes no more than the list has, and whatever is within the list can be
-- chosen.
use Rattle.std.specs.Prelude.{◌≡◌, ℕ, zero, suc, ◌+◌, ◌<◌, ◌≤◌, Bool, true, false, not, ◌&&◌, ◌||◌, cond, List, [], ◌∷◌}
use Rattle.std.specs.Prelude.{◌++◌, length, get_or, nat_eq, nat_lt, IsTrue}
use Rattle.std.specs.List.{list_any}
use Rattle.std.proofs.Common.{refl, sym, ap, subst, ◌∙◌, arith, eqb-true, eq-eqb, take, append_assoc}
use Rattle.std.specs.Ordering.{eq_by_cmp}
use Rattle.std.specs.Cmp.{tied_itself}
use Rattle.std.proofs.lemmas.Bool.Decides.{nat_tests}
use Rattle.std.proofs.lemmas.List.Folds.{list_any-append}
use Rattle.std.proofs.lemmas.List.{map_more, get_or_default, append-nil}
use Rattle.std.proofs.lemmas.Bool.{and_parts, and_from, not-true, not_from_false}
use Rattle.chr_base.specs.declared.atom.Atom.{Atom}
use Rattle.chr_base.specs.Atoms.{atom_cmp, no_atom}
use Rattle.chr_base.proofs.Atoms.{atom_total, same_is}
use Rattle.chr_base.specs.FinBag.{count_in}
use Rattle.chr_rewrite.specs.working.Choices.{chosen_atoms, is_choice}

-- whether the index is among those taken
abbrev pub is_taken : ℕ → List ℕ → Bool
is_taken i taken = list_any (λ j. nat_eq j i) taken

-- how often an atom stands in the list at indices, counted from n, that are not taken
abbrev pub free_from : ℕ → List ℕ → List Atom → Atom → ℕ
free_from n taken [] q = 0
free_from n taken (x ∷ xs) q = cond (is_taken n taken) 0 (cond (eq_by_cmp atom_cmp q x) 1 0) + free_from
    (suc n) taken xs q

pub free_none : (n : ℕ) (xs : List Atom) (q : Atom) → free_from n [] xs q ≡ count_in atom_cmp q xs
free_none n [] q = refl
free_none n (x ∷ xs) q = ap (λ m. cond (eq_by_cmp atom_cmp q x) 1 0 + m) (free_none (suc n) xs q)

-- one more index is taken
taken_more : (i n : ℕ) (taken : List ℕ) → is_taken n (taken ++ i ∷ []) ≡ (is_taken n taken || (nat_eq i n || false))
taken_more i n taken = list_any-append (λ j. nat_eq j n) taken (i ∷ [])

-- at indices beyond the one taken nothing changes
free_beyond : (n i : ℕ) (taken : List ℕ) (xs : List Atom) (q : Atom) → i < n → free_from n (taken ++ i ∷ []) xs q
    ≡ free_from n taken xs q
free_beyond n i taken [] q h = refl
free_beyond n i taken (x ∷ xs) q h =
    let e : is_taken n (taken ++ i ∷ []) ≡ is_taken n taken = taken_more i n taken
    ∙ other (nat_eq i n) (is_taken n taken) (λ t. absurd (let f = eqb-true i n t in omega (arith, f, h))) in
    let more = free_beyond (suc n) i taken xs q (omega (arith, h)) in
    λ k. cond (e k) 0 (cond (eq_by_cmp atom_cmp q x) 1 0) + more k
  where
    other : (b a : Bool) → (b ≡ true → ⊥) → (a || (b || false)) ≡ a
    other true a ne = absurd (ne refl)
    other false true ne = refl
    other false false ne = refl

-- the index that is taken takes its atom
pub free_taken : (n i : ℕ) (taken : List ℕ) (xs : List Atom) (d q : Atom) → i < length xs → is_taken (n + i) taken
    ≡ false
    → cond (eq_by_cmp atom_cmp q (get_or xs i d)) 1 0 + free_from n (taken ++ (n + i) ∷ []) xs q
    ≡ free_from n taken xs q
free_taken n i taken [] d q h g = absurd (omega (arith, h))
free_taken n zero taken (x ∷ xs) d q h g =
    let z : n + 0 ≡ n = omega arith in
    let g' : is_taken n taken ≡ false = ap (λ m. is_taken m taken) (sym z) ∙ g in
    let t : is_taken n (taken ++ n ∷ []) ≡ true = taken_more n n taken
    ∙ (let e : nat_eq n n ≡ true = eq-eqb n n refl in rw (e, g') refl) in
    let more = free_beyond (suc n) n taken xs q (omega arith) in
    rw (z, t, g') (omega (arith, more))
free_taken n (suc i) taken (x ∷ xs) d q h g =
    let z : n + suc i ≡ suc n + i = omega arith in
    let g' : is_taken (suc n + i) taken ≡ false = ap (λ m. is_taken m taken) (sym z) ∙ g in
    let more = free_taken (suc n) i taken xs d q (omega (arith, h)) g' in
    let t : is_taken n (taken ++ (suc n + i) ∷ []) ≡ is_taken n taken = taken_more (suc n + i) n taken
    ∙ other (nat_eq (suc n + i) n) (is_taken n taken)
    (λ t. absurd (let f = eqb-true (suc n + i) n t in omega (arith, f))) in
    rw (z, t) (omega (arith, more))
  where
    other : (b a : Bool) → (b ≡ true → ⊥) → (a || (b || false)) ≡ a
    other true a ne = absurd (ne refl)
    other false true ne = refl
    other false false ne = refl

-- an atom that stands at some free index
free_index : (n : ℕ) (taken : List ℕ) (xs : List Atom) (d q : Atom) → 0 < free_from n taken xs q
    → (i : ℕ) × (i < length xs) × (is_taken (n + i) taken ≡ false) × (eq_by_cmp atom_cmp q (get_or xs i d) ≡ true)
free_index n taken [] d q h = absurd (omega (arith, h))
free_index n taken (x ∷ xs) d q h = by (is_taken n taken) refl (eq_by_cmp atom_cmp q x) refl
    (λ g. free_index (suc n) taken xs d q g)
  where
    Found : Type 0
    Found = (i : ℕ) × (i < suc (length xs)) × (is_taken (n + i) taken ≡ false)
        × (eq_by_cmp atom_cmp q (get_or (x ∷ xs) i d) ≡ true)

    later : (i : ℕ) × (i < length xs) × (is_taken (suc n + i) taken ≡ false)
        × (eq_by_cmp atom_cmp q (get_or xs i d) ≡ true) → Found
    later w = (
      suc w.0,
      (let a = w.1 in omega (arith, a)),
      (let z : n + suc w.0 ≡ suc n + w.0 = omega arith in ap (λ m. is_taken m taken) z ∙ w.2),
      w.3,
    )

    by : (t : Bool) → is_taken n taken ≡ t → (b : Bool) → eq_by_cmp atom_cmp q x ≡ b
        → (0 < free_from (suc n) taken xs q → (i : ℕ) × (i < length xs) × (is_taken (suc n + i) taken ≡ false)
        × (eq_by_cmp atom_cmp q (get_or xs i d) ≡ true)) → Found
    by true e b f more = later (more (let g : 0 < cond true 0 (cond (eq_by_cmp atom_cmp q x) 1 0) + free_from
        (suc n) taken xs q = rw e at h in omega (arith, g)))
    by false e true f more = (0, omega arith, (let z : n + 0 ≡ n = omega arith in ap (λ m. is_taken m taken) z ∙ e), f)
    by false e false f more = later (more (let g : 0 < cond false 0 (cond false 1 0) + free_from (suc n) taken xs q =
        rw (e, f) at h in omega (arith, g)))

-- a choice takes no more of an atom than is free
pub choice_within : (items : List Atom) (taken is : List ℕ) (q : Atom) → is_choice items taken is ≡ true
    → count_in atom_cmp q (chosen_atoms items is) ≤ free_from 0 taken items q
choice_within items taken [] q h = omega arith
choice_within items taken (i ∷ is) q h =
    let two : (nat_lt i (length items) && not (is_taken i taken)) ≡ true =
    (and_parts _ (is_choice items (taken ++ i ∷ []) is) h).0 in
    let rest : is_choice items (taken ++ i ∷ []) is ≡ true =
    (and_parts (nat_lt i (length items) && not (is_taken i taken)) _ h).1 in
    let l : nat_lt i (length items) ≡ true = (and_parts _ (not (is_taken i taken)) two).0 in
    let fresh : is_taken i taken ≡ false = not-true _ (and_parts (nat_lt i (length items)) _ two).1 in
    let within : i < length items = grind (arith, nat_tests) in
    let here = free_taken 0 i taken items no_atom q within
    (let z : 0 + i ≡ i = omega arith in ap (λ m. is_taken m taken) z ∙ fresh) in
    let z : 0 + i ≡ i = omega arith in
    let here' = rw z at here in
    let more = choice_within items (taken ++ i ∷ []) is q rest in
    omega (arith, here', more)

pub counts_itself : (a : Atom) (xs : List Atom) → count_in atom_cmp a (a ∷ xs) ≡ 1 + count_in atom_cmp a xs
counts_itself a xs = rw (tied_itself atom_total a) refl

-- what is free can be chosen
pub choose : (items : List Atom) (taken : List ℕ) (heads : List Atom)
    → ((q : Atom) → count_in atom_cmp q heads ≤ free_from 0 taken items q)
    → (is : List ℕ) × (is_choice items taken is ≡ true) × (chosen_atoms items is ≡ heads)
choose items taken [] h = ([], refl, refl)
choose items taken (a ∷ heads) h =
    let one : 0 < free_from 0 taken items a = (let c = counts_itself a heads in let l = h a in omega (arith, c, l)) in
    let w = free_index 0 taken items no_atom a one in
    let z : 0 + w.0 ≡ w.0 = omega arith in
    let fresh : is_taken w.0 taken ≡ false = ap (λ m. is_taken m taken) (sym z) ∙ w.2 in
    let is : a ≡ get_or items w.0 no_atom = same_is a (get_or items w.0 no_atom) w.3 in
    let more = choose items (taken ++ w.0 ∷ []) heads (λ q.
    (let here = free_taken 0 w.0 taken items no_atom q w.1 w.2 in
    let here' : cond (eq_by_cmp atom_cmp q (get_or items w.0 no_atom)) 1 0 + free_from 0 (taken ++ w.0 ∷ []) items q
    ≡ free_from 0 taken items q = rw z at here in
    let l : cond (eq_by_cmp atom_cmp q (get_or items w.0 no_atom)) 1 0 + count_in atom_cmp q heads ≤ free_from 0 taken
    items q = rw (← is) (h q) in
    omega (arith, here', l))) in
    let within : nat_lt w.0 (length items) ≡ true = (let l = w.1 in grind (arith, nat_tests)) in (
      w.0 ∷ more.0,
      and_from (nat_lt w.0 (length items) && not (is_taken w.0 taken))
          (is_choice items (taken ++ w.0 ∷ []) more.0) (and_from _ _ within (not_from_false _ fresh)) more.1,
      (λ k. sym is k ∷ more.2 k),
    )

-- each index of a choice is within the list
pub choice_index : (items : List Atom) (taken is : List ℕ) (n : ℕ) → is_choice items taken is ≡ true → n < length is
    → get_or is n 0 < length items
choice_index items taken [] n h l = absurd (omega (arith, l))
choice_index items taken (i ∷ is) zero h l =
    let t : nat_lt i (length items) ≡ true = (and_parts _ _
    (and_parts _ (is_choice items (taken ++ i ∷ []) is) h).0).0 in
    grind (arith, nat_tests)
choice_index items taken (i ∷ is) (suc n) h l = choice_index items (taken ++ i ∷ []) is n
    (and_parts (nat_lt i (length items) && not (is_taken i taken)) _ h).1 (omega (arith, l))

-- one more atom is picked
pub pick_more : (items : List Atom) (is : List ℕ) (n : ℕ) (atoms : List Atom) (x : Atom) → n < length is
    → IsTrue (is_choice items [] is) → atoms ≡ chosen_atoms items (take n is) → x ≡ get_or items (get_or is n 0) x
    → atoms ++ x ∷ [] ≡ chosen_atoms items (take (n + 1) is)
pick_more items is n atoms x l h e at =
    let within = choice_index items [] is n h l in
    let same : x ≡ get_or items (get_or is n 0) no_atom = at ∙ get_or_default items (get_or is n 0) x no_atom within in
    rw (e, map_more (λ i. get_or items i no_atom) is n 0 l) (ap (λ y. chosen_atoms items (take n is) ++ y ∷ []) same)

-- one more index is chosen
pub choice_more : (items : List Atom) (taken is : List ℕ) (i : ℕ) → is_choice items taken is ≡ true → i < length items
    → is_taken i (taken ++ is) ≡ false → is_choice items taken (is ++ i ∷ []) ≡ true
choice_more items taken [] i h l f =
    let f' : is_taken i taken ≡ false = subst (λ xs. is_taken i xs ≡ false) (append-nil taken) f in
    let within : nat_lt i (length items) ≡ true = grind (arith, nat_tests) in
    and_from _ _ (and_from _ _ within (not_from_false _ f')) refl
choice_more items taken (j ∷ is) i h l f =
    and_from _ _ (and_parts _ (is_choice items (taken ++ j ∷ []) is) h).0
    (choice_more items (taken ++ j ∷ []) is i (and_parts (nat_lt j (length items) && not (is_taken j taken)) _ h).1 l
    (subst (λ xs. is_taken i xs ≡ false) (sym (append_assoc taken (j ∷ []) is)) f))
