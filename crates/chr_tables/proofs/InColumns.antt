-- Atoms whose arguments stand in columns.
use Rattle.std.proofs.Common.{◌≡◌, ℕ, zero, suc, ◌+◌, ◌<◌, ◌≤◌, ℤ, pos, List, [], ◌∷◌, ◌++◌, length, get_or, set, refl}
use Rattle.std.proofs.Common.{sym, ap, ◌∙◌, arith, inl, inr}
use Rattle.std.proofs.lemmas.Bool.{cases_lt}
use Rattle.std.proofs.lemmas.List.{get_or-set_same, get_or-set_other}
use Rattle.chr_base.specs.declared.atom.Atom.{Atom}
use Rattle.chr_tables.specs.declared.shape.Shape.{Shape}
use Rattle.chr_tables.specs.working.Cells.{cell_value, arguments, row_atom, row_atoms}

-- the first rows of columns are the same
abbrev pub AgreeBelow : List (List ℤ) → List (List ℤ) → ℕ → Type 0
AgreeBelow cs ds n = (j i : ℕ) → i < n → cell_value cs j i ≡ cell_value ds j i

pub length_arguments : (cs : List (List ℤ)) (row j n : ℕ) → length (arguments cs row j n) ≡ n
length_arguments cs row j zero = refl
length_arguments cs row j (suc n) = ap suc (length_arguments cs row (suc j) n)

pub arguments_more : (cs : List (List ℤ)) (row j n : ℕ) → arguments cs row j (suc n) ≡ arguments cs row j n
    ++ cell_value cs (j + n) row ∷ []
arguments_more cs row j zero = let e : j ≡ j + 0 = omega arith in ap (λ k. cell_value cs k row ∷ []) e
arguments_more cs row j (suc n) =
    let e : suc j + n ≡ j + suc n = omega arith in
    ap (λ xs. cell_value cs j row ∷ xs) (arguments_more cs row (suc j) n
    ∙ ap (λ k. arguments cs row (suc j) n ++ cell_value cs k row ∷ []) e)

arguments_same : (cs ds : List (List ℤ)) (row : ℕ) → ((j : ℕ) → cell_value cs j row ≡ cell_value ds j row) → (j n : ℕ)
    → arguments cs row j n ≡ arguments ds row j n
arguments_same cs ds row e j zero = refl
arguments_same cs ds row e j (suc n) = λ i. e j i ∷ arguments_same cs ds row e (suc j) n i

arguments_are : (cs : List (List ℤ)) (row : ℕ) (xs : List ℤ) (k : ℕ)
    → ((j : ℕ) → j < length xs → cell_value cs (k + j) row ≡ get_or xs j (pos 0))
    → arguments cs row k (length xs) ≡ xs
arguments_are cs row [] k e = refl
arguments_are cs row (x ∷ xs) k e =
    let here : k ≡ k + 0 = omega arith in
    let more : (j : ℕ) → suc k + j ≡ k + suc j = λ j. (omega arith) in
    let first : cell_value cs k row ≡ x = ap (λ n. cell_value cs n row) here ∙ e 0 (omega arith) in
    let rest : arguments cs row (suc k) (length xs) ≡ xs =
    arguments_are cs row xs (suc k) (λ j l. ap (λ n. cell_value cs n row) (more j)
    ∙ e (suc j) (omega (arith, l))) in
    λ i. first i ∷ rest i

-- a row with these values
pub row_is : (cs : List (List ℤ)) (row : ℕ) (xs : List ℤ)
    → ((j : ℕ) → j < length xs → cell_value cs j row ≡ get_or xs j (pos 0)) → arguments cs row 0 (length xs) ≡ xs
row_is cs row xs e = arguments_are cs row xs 0 (λ j l.
    (let z : 0 + j ≡ j = omega arith in ap (λ k. cell_value cs k row) z ∙ e j l))

pub length_atoms : (cs : List (List ℤ)) (row : ℕ) (ss : List Shape) → length (row_atoms cs row ss) ≡ length ss
length_atoms cs row [] = refl
length_atoms cs row (s ∷ ss) = ap suc (length_atoms cs (suc row) ss)

pub atom_at : (cs : List (List ℤ)) (row : ℕ) (ss : List Shape) (r : ℕ) (s : Shape) (a : Atom) → r < length ss
    → get_or (row_atoms cs row ss) r a ≡ row_atom cs (row + r) (get_or ss r s)
atom_at cs row [] r s a l = absurd (omega (arith, l))
atom_at cs row (x ∷ ss) zero s a l = let e : row ≡ row + 0 = omega arith in ap (λ k. row_atom cs k x) e
atom_at cs row (x ∷ ss) (suc r) s a l =
    let e : suc row + r ≡ row + suc r = omega arith in
    atom_at cs (suc row) ss r s a (omega (arith, l)) ∙ ap (λ k. row_atom cs k (get_or ss r s)) e

atom_same : (cs ds : List (List ℤ)) (n row : ℕ) (s : Shape) → AgreeBelow cs ds n → row < n → row_atom cs row s
    ≡ row_atom ds row s
atom_same cs ds n row s e l = ap (λ xs. record { symbol = s.symbol; args = record { items = xs } })
    (arguments_same cs ds row (λ j. e j row l) 0 s.arity)

pub atoms_same : (cs ds : List (List ℤ)) (n row : ℕ) (ss : List Shape) → AgreeBelow cs ds n → row + length ss ≤ n
    → row_atoms cs row ss ≡ row_atoms ds row ss
atoms_same cs ds n row [] e l = refl
atoms_same cs ds n row (s ∷ ss) e l =
    let first = atom_same cs ds n row s e (omega (arith, l)) in
    let rest = atoms_same cs ds n (suc row) ss e (omega (arith, l)) in
    λ i. first i ∷ rest i

pushed_from : (cs ds : List (List ℤ)) (n row : ℕ) (ss : List Shape) (s : Shape) (a : Atom) → AgreeBelow cs ds n
    → row + length ss ≡ n → row_atom cs n s ≡ a
    → row_atoms cs row (ss ++ s ∷ []) ≡ row_atoms ds row ss ++ a ∷ []
pushed_from cs ds n row [] s a e l is = let here : row ≡ n = omega (arith, l) in ap (λ k. row_atom cs k s ∷ []) here
    ∙ ap (λ x. x ∷ []) is
pushed_from cs ds n row (x ∷ ss) s a e l is =
    let first = atom_same cs ds n row x e (omega (arith, l)) in
    let rest = pushed_from cs ds n (suc row) ss s a e (omega (arith, l)) is in
    λ i. first i ∷ rest i

-- one row more
pub atoms_pushed : (cs ds : List (List ℤ)) (n : ℕ) (ss : List Shape) (s : Shape) (old : List Atom) (a : Atom)
    → AgreeBelow cs ds n → length ss ≡ n
    → s.symbol ≡ a.symbol → s.arity ≡ length a.args.items → arguments cs n 0 (length a.args.items) ≡ a.args.items
    → row_atoms ds 0 ss ≡ old
    → row_atoms cs 0 (ss ++ s ∷ []) ≡ old ++ a ∷ []
atoms_pushed cs ds n ss s old a e l symbol arity args was =
    let items : arguments cs n 0 s.arity ≡ a.args.items = ap (arguments cs n 0) arity ∙ args in
    pushed_from cs ds n 0 ss s a e (omega (arith, l)) (λ i.
    record { symbol = symbol i; args = record { items = items i } }) ∙ ap (λ xs. xs ++ a ∷ []) was

-- a column is put back whose first rows are the same
pub column_put : (cs : List (List ℤ)) (j : ℕ) (c : List ℤ) (n : ℕ) → j < length cs
    → ((i : ℕ) → i < n → get_or c i (pos 0) ≡ cell_value cs j i) → AgreeBelow (set cs j c) cs n
column_put cs j c n l e k i h = elim (cases_lt k j) as (λ _. cell_value (set cs j c) k i ≡ cell_value cs k i) [
  | inl less ↦ ap (λ x. get_or x i (pos 0)) (get_or-set_other cs j k c [] (λ p. (absurd (omega (arith, p, less)))))
  | inr most ↦ elim (cases_lt j k) as (λ _. cell_value (set cs j c) k i ≡ cell_value cs k i) [
    | inl less ↦ ap (λ x. get_or x i (pos 0)) (get_or-set_other cs j k c [] (λ p. (absurd (omega (arith, p, less)))))
    | inr least ↦ (let p : k ≡ j = omega (arith, most, least) in
        ap (λ m. cell_value (set cs j c) m i) p ∙ ap (λ x. get_or x i (pos 0)) (get_or-set_same cs j c [] l) ∙ e i h
        ∙ ap (λ m. cell_value cs m i) (sym p))
  ]
]

-- where the first j columns have a row's values, and column j gets its value, the first j + 1 have them
pub values_put : (cs : List (List ℤ)) (j : ℕ) (c : List ℤ) (row : ℕ) (xs : List ℤ) → j < length cs
    → ((k : ℕ) → k < j → cell_value cs k row ≡ get_or xs k (pos 0))
    → get_or c row (pos 0) ≡ get_or xs j (pos 0) → (k : ℕ) → k < j + 1 → cell_value (set cs j c) k row
    ≡ get_or xs k (pos 0)
values_put cs j c row xs l done e k h = elim (cases_lt k j) as (λ _. cell_value (set cs j c) k row
    ≡ get_or xs k (pos 0)) [
      | inl less ↦ ap (λ x. get_or x row (pos 0)) (get_or-set_other cs j k c []
          (λ p. (absurd (omega (arith, p, less)))))
          ∙ done k less
      | inr most ↦ (let p : k ≡ j = omega (arith, h, most) in
          ap (λ m. cell_value (set cs j c) m row) p ∙ ap (λ x. get_or x row (pos 0)) (get_or-set_same cs j c [] l) ∙ e
          ∙ ap (λ m. get_or xs m (pos 0)) (sym p))
    ]
