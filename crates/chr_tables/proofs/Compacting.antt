-- Live rows that move together.
use Rattle.std.proofs.Common.{◌≡◌, ℕ, zero, suc, ◌+◌, ◌<◌, ◌≤◌, ℤ, pos, List, [], ◌∷◌, ◌++◌, map, length, get_or, set}
use Rattle.std.proofs.Common.{take, drop, cond, Bool, true, false, Option, refl, sym, ap, ◌∙◌, arith, inl, inr}
use Rattle.std.specs.Prelude.{Some, None, filter, is_some}
use Rattle.std.proofs.lemmas.Bool.{cases_lt}
use Rattle.std.proofs.lemmas.List.{get_or-set_same, get_or-set_other, get_or_past, take_more_set, drop-set-lt}
use Rattle.std.proofs.lemmas.List.{drop_more, append_assoc, map_more}
use Rattle.chr_base.specs.declared.atom.Atom.{Atom}
use Rattle.chr_tables.specs.declared.shape.Shape.{Shape}
use Rattle.chr_tables.specs.working.Cells.{cell_value, arguments, row_atom, row_atoms}
use Rattle.chr_tables.specs.working.Finders.{Found}
use Rattle.chr_tables.specs.working.Indexes.{live, chosen, Way, no_way, atom_entry, AreIndexed}
use Rattle.chr_tables.proofs.InColumns.{atom_at}
use Rattle.chr_tables.proofs.Lives.{indexed_push}

by_place : (P : Type 0) (k j : ℕ) → (k ≡ j → P) → (¬ (k ≡ j) → P) → P
by_place P k j same other = elim (cases_lt k j) as (λ _. P) [
  | inl less ↦ other (λ p. (absurd (omega (arith, p, less))))
  | inr most ↦ elim (cases_lt j k) as (λ _. P) [
    | inl less ↦ other (λ p. (absurd (omega (arith, p, less))))
    | inr least ↦ same (omega (arith, most, least))
  ]
]

-- but for one row the columns are the same
abbrev pub AgreeBut : List (List ℤ) → List (List ℤ) → ℕ → Type 0
AgreeBut cs ds to = (k i : ℕ) → ¬ (i ≡ to) → cell_value cs k i ≡ cell_value ds k i

-- the first n columns have the value of one row in another, the others are the same
pub record HaveMoved (cs ds : List (List ℤ)) (to from n : ℕ) : Type 0 where
  pub moved : (k : ℕ) → k < n → cell_value cs k to ≡ cell_value ds k from
  pub others : AgreeBut cs ds to
  pub left : (k i : ℕ) → n ≤ k → cell_value cs k i ≡ cell_value ds k i

pub moved_more : (cs ds : List (List ℤ)) (to from j : ℕ) (c : List ℤ) → j < length cs → HaveMoved cs ds to from j
    → get_or c to (pos 0) ≡ cell_value cs j from → ((i : ℕ) → ¬ (i ≡ to) → get_or c i (pos 0) ≡ cell_value cs j i)
    → HaveMoved (set cs j c) ds to from (j + 1)
moved_more cs ds to from j c l h e f = record {
  moved = λ k m. (by_place (cell_value (set cs j c) k to ≡ cell_value ds k from) k j
      (λ p. (at k to p ∙ e ∙ h.left j from (omega arith) ∙ ap (λ n. cell_value ds n from) (sym p)))
      (λ p. (off k to p ∙ h.moved k (less k m p))));
  others = λ k i o. (by_place (cell_value (set cs j c) k i ≡ cell_value ds k i) k j
      (λ p. (at k i p ∙ f i o ∙ h.others j i o ∙ ap (λ n. cell_value ds n i) (sym p)))
      (λ p. (off k i p ∙ h.others k i o)));
  left = λ k i m. (off k i (λ p. (absurd (omega (arith, p, m)))) ∙ h.left k i (omega (arith, m)));
}
  where
    at : (k i : ℕ) → k ≡ j → cell_value (set cs j c) k i ≡ get_or c i (pos 0)
    at k i p = ap (λ n. cell_value (set cs j c) n i) p ∙ ap (λ x. get_or x i (pos 0)) (get_or-set_same cs j c [] l)

    off : (k i : ℕ) → ¬ (k ≡ j) → cell_value (set cs j c) k i ≡ cell_value cs k i
    off k i p = ap (λ x. get_or x i (pos 0)) (get_or-set_other cs j k c [] p)

    less : (k : ℕ) → k < j + 1 → ¬ (k ≡ j) → k < j
    less k m p = elim (cases_lt k j) as (λ _. k < j) [
      | inl l ↦ l
      | inr most ↦ absurd (p (omega (arith, m, most)))
    ]

-- each column has the value of the one row in the other
pub all_moved : (cs ds : List (List ℤ)) (to from n : ℕ) → length ds ≤ n → HaveMoved cs ds to from n → (k : ℕ)
    → cell_value cs k to ≡ cell_value ds k from
all_moved cs ds to from n l h k = elim (cases_lt k n) as (λ _. cell_value cs k to ≡ cell_value ds k from) [
  | inl less ↦ h.moved k less
  | inr most ↦ (let past = get_or_past ds k [] (omega (arith, l, most)) in
      h.left k to most ∙ ap (λ x. get_or x to (pos 0)) past ∙ sym (ap (λ x. get_or x from (pos 0)) past))
]

arguments_as : (cs ds : List (List ℤ)) (to from : ℕ) → ((j : ℕ) → cell_value cs j to ≡ cell_value ds j from) → (j n : ℕ)
    → arguments cs to j n ≡ arguments ds from j n
arguments_as cs ds to from e j zero = refl
arguments_as cs ds to from e j (suc n) = λ i. e j i ∷ arguments_as cs ds to from e (suc j) n i

row_as : (cs ds : List (List ℤ)) (to from : ℕ) (s : Shape) → ((j : ℕ) → cell_value cs j to ≡ cell_value ds j from)
    → row_atom cs to s ≡ row_atom ds from s
row_as cs ds to from s e = ap (λ xs. record { symbol = s.symbol; args = record { items = xs } })
    (arguments_as cs ds to from e 0 s.arity)

rows_above : (cs ds : List (List ℤ)) (to row : ℕ) (ss : List Shape) → AgreeBut cs ds to → to < row → row_atoms cs row ss
    ≡ row_atoms ds row ss
rows_above cs ds to row [] others l = refl
rows_above cs ds to row (s ∷ ss) others l =
    let first = row_as cs ds row row s (λ k. others k row (λ p. (absurd (omega (arith, p, l))))) in
    let rest = rows_above cs ds to (suc row) ss others (omega (arith, l)) in
    λ i. first i ∷ rest i

rows_moved : (cs ds : List (List ℤ)) (to row n : ℕ) (ss : List Shape) (s : Shape) (a : Atom) → AgreeBut cs ds to
    → row + n ≡ to → row_atom cs to s ≡ a
    → row_atoms cs row (set ss n s) ≡ set (row_atoms ds row ss) n a
rows_moved cs ds to row n [] s a others e is = refl
rows_moved cs ds to row zero (x ∷ ss) s a others e is =
    let p : row ≡ to = omega (arith, e) in
    let first : row_atom cs row s ≡ a = ap (λ k. row_atom cs k s) p ∙ is in
    let rest = rows_above cs ds to (suc row) ss others (omega (arith, p)) in
    λ i. first i ∷ rest i
rows_moved cs ds to row (suc n) (x ∷ ss) s a others e is =
    let first = row_as cs ds row row x (λ k. others k row (λ p. (absurd (omega (arith, p, e))))) in
    let rest = rows_moved cs ds to (suc row) n ss s a others (omega (arith, e)) is in
    λ i. first i ∷ rest i

-- the atom of one row stands in another
pub atoms_moved : (cs ds : List (List ℤ)) (ss : List Shape) (to from : ℕ) (s : Shape) (a : Atom) → from < length ss
    → ((k : ℕ) → cell_value cs k to ≡ cell_value ds k from) → AgreeBut cs ds to → s ≡ get_or ss from s
    → row_atoms cs 0 (set ss to s) ≡ set (row_atoms ds 0 ss) to (get_or (row_atoms ds 0 ss) from a)
atoms_moved cs ds ss to from s a l moved others e =
    let here : from ≡ 0 + from = omega arith in
    rows_moved cs ds to 0 to ss s (get_or (row_atoms ds 0 ss) from a) others (omega arith)
    (row_as cs ds to from s moved ∙ ap (λ k. row_atom ds k s) here ∙ ap (row_atom ds (0 + from)) e
    ∙ sym (atom_at ds 0 ss from s a l))

pub atoms_taken : (cs : List (List ℤ)) (row : ℕ) (ss : List Shape) (n : ℕ) → row_atoms cs row (take n ss)
    ≡ take n (row_atoms cs row ss)
atoms_taken cs row [] zero = refl
atoms_taken cs row [] (suc n) = refl
atoms_taken cs row (s ∷ ss) zero = refl
atoms_taken cs row (s ∷ ss) (suc n) = ap (λ xs. row_atom cs row s ∷ xs) (atoms_taken cs (suc row) ss n)

-- the first atoms are those of live rows that were passed, and those of the others are chosen next
abbrev pub AreKept : List Atom → List Bool → ℕ → ℕ → List Atom → Type 0
AreKept atoms bs count row all = take count atoms ++ chosen (drop row atoms) (drop row bs) ≡ all

chosen_at : (atoms : List Atom) (bs : List Bool) (row : ℕ) (x : Atom) (b d : Bool) → row < length atoms
    → row < length bs → x ≡ get_or atoms row x → get_or bs row d ≡ b
    → chosen (drop row atoms) (drop row bs) ≡ cond b (x ∷ chosen (drop (row + 1) atoms) (drop (row + 1) bs))
    (chosen (drop (row + 1) atoms) (drop (row + 1) bs))
chosen_at atoms bs row x b d l m is flag =
    (λ i. chosen (drop_more atoms row x l i) (drop_more bs row d m i))
    ∙ (λ i. cond (flag i) (sym is i ∷ chosen (drop (row + 1) atoms) (drop (row + 1) bs))
    (chosen (drop (row + 1) atoms) (drop (row + 1) bs)))

pub kept_more : (atoms : List Atom) (bs : List Bool) (count row : ℕ) (all : List Atom) (x : Atom) → count ≤ row
    → row < length atoms → row < length bs
    → x ≡ get_or atoms row x → get_or bs row false ≡ true → AreKept atoms bs count row all
    → AreKept (set atoms count x) bs (count + 1) (row + 1) all
kept_more atoms bs count row all x le l m is flag kept =
    let new = take_more_set atoms count x (omega (arith, le, l)) in
    let old = drop-set-lt (row + 1) atoms count x (omega (arith, le)) in
    (λ i. new i ++ chosen (old i) (drop (row + 1) bs))
    ∙ append_assoc (take count atoms) (x ∷ []) (chosen (drop (row + 1) atoms) (drop (row + 1) bs))
    ∙ ap (λ xs. take count atoms ++ xs) (sym (chosen_at atoms bs row x true false l m is flag)) ∙ kept

pub kept_same : (atoms : List Atom) (bs : List Bool) (count row : ℕ) (all : List Atom) (x : Atom) → row < length atoms
    → row < length bs
    → x ≡ get_or atoms row x → get_or bs row false ≡ false → AreKept atoms bs count row all
    → AreKept atoms bs count (row + 1) all
kept_same atoms bs count row all x l m is flag kept =
    ap (λ xs. take count atoms ++ xs) (sym (chosen_at atoms bs row x false false l m is flag)) ∙ kept

pub chosen_most : (as' : List Atom) (bs : List Bool) → length (chosen as' bs) ≤ length bs
chosen_most [] bs = omega arith
chosen_most (a ∷ as') [] = omega arith
chosen_most (a ∷ as') (true ∷ bs) = let h = chosen_most as' bs in omega (arith, h)
chosen_most (a ∷ as') (false ∷ bs) = let h = chosen_most as' bs in omega (arith, h)

pub chosen_rows : (as' : List Atom) (bs : List Bool) → filter is_some (live as' bs) ≡ map (λ a. Some a) (chosen as' bs)
chosen_rows [] bs = refl
chosen_rows (a ∷ as') [] = refl
chosen_rows (a ∷ as') (true ∷ bs) = ap (λ xs. Some a ∷ xs) (chosen_rows as' bs)
chosen_rows (a ∷ as') (false ∷ bs) = chosen_rows as' bs

pub all_live : (as' : List Atom) (bs : List Bool) → length bs ≡ length as'
    → ((i : ℕ) → i < length bs → get_or bs i true ≡ true) → live as' bs ≡ map (λ a. Some a) as'
all_live [] bs e h = refl
all_live (a ∷ as') [] e h = absurd (omega (arith, e))
all_live (a ∷ as') (b ∷ bs) e h =
    let first : cond b (Some a) None ≡ Some a = ap (λ c. cond c (Some a) None) (h 0 (omega arith)) in
    let rest = all_live as' bs (omega (arith, e)) (λ i l. h (suc i) (omega (arith, l))) in
    λ i. first i ∷ rest i

-- one row more has entered each index
pub entered_more : (atoms : List Atom) (ways : List Way) (entries entries' : List (List (Option Found))) (row : ℕ)
    (a : Atom) → row < length atoms → a ≡ get_or atoms row a
    → AreIndexed (map (λ a. Some a) (take row atoms)) ways entries
    → ((j : ℕ) → j < length ways → get_or entries' j [] ≡ get_or entries j []
    ++ Some (atom_entry (get_or ways j no_way) a) ∷ [])
    → AreIndexed (map (λ a. Some a) (take (row + 1) atoms)) ways entries'
entered_more atoms ways entries entries' row a l is h k =
    rw (map_more (λ (x : Atom). Some x) atoms row a l, sym is)
    (indexed_push (map (λ a. Some a) (take row atoms)) ways entries entries' a h k)
