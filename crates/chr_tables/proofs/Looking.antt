-- Rows among which an argument is looked for.
use Rattle.std.specs.Prelude.{Option, Some, None, IfSome, IfNone, slice_get}
use Rattle.std.proofs.Common.{◌≡◌, ℕ, zero, suc, ◌+◌, ◌<◌, ◌≤◌, ℤ, pos, Bool, List, [], ◌∷◌, length, get_or, ap, subst}
use Rattle.std.proofs.Common.{◌∙◌, arith, inl, inr}
use Rattle.std.proofs.lemmas.Bool.{cases_lt}
use Rattle.std.proofs.lemmas.Option.{same_Some}
use Rattle.chr_base.specs.declared.atom.Atom.{Atom}
use Rattle.chr_tables.specs.declared.shape.Shape.{Shape}
use Rattle.chr_tables.specs.Contents.{HasArgument}
use Rattle.chr_tables.specs.working.Cells.{cell_value, arguments, row_atoms, atoms_of, NoneIs, NoneHasArgument}
use Rattle.chr_tables.specs.working.Indexes.{live}
use Rattle.chr_tables.proofs.Lives.{live_of}

-- an argument of a row stands in its column
argument_is : (cs : List (List ℤ)) (row j n i : ℕ) (value : ℤ) → slice_get (arguments cs row j n) i ≡ Some value
    → cell_value cs (j + i) row ≡ value
argument_is cs row j zero i value e = absurd (let f : ◌≡◌ {A = Option ℤ} None (Some value) = e in cc)
argument_is cs row j (suc n) zero value e = let here : j + 0 ≡ j = omega arith in ap (λ k. cell_value cs k row) here
    ∙ same_Some _ _ e
argument_is cs row j (suc n) (suc i) value e = let here : j + suc i ≡ suc j + i = omega arith in
    ap (λ k. cell_value cs k row) here ∙ argument_is cs row (suc j) n i value e

argument_at : (cs : List (List ℤ)) (first : ℕ) (ss : List Shape) (r : ℕ) (a : Atom) (column : ℕ) (value : ℤ)
    → r < length ss
    → get_or (row_atoms cs first ss) r a ≡ a → slice_get a.args.items column ≡ Some value
    → cell_value cs column (first + r) ≡ value
argument_at cs first [] r a column value l e h = absurd (omega (arith, l))
argument_at cs first (s ∷ ss) zero a column value l e h =
    let here : first + 0 ≡ first = omega arith in
    let same : column ≡ 0 + column = omega arith in
    ap (cell_value cs column) here ∙ ap (λ k. cell_value cs k first) same ∙ argument_is cs first 0 s.arity column value
    (ap (λ (b : Atom). slice_get b.args.items column) e ∙ h)
argument_at cs first (s ∷ ss) (suc r) a column value l e h =
    let here : first + suc r ≡ suc first + r = omega arith in
    ap (cell_value cs column) here ∙ argument_at cs (suc first) ss r a column value (omega (arith, l)) e h

-- where no cell of a column has the value, no atom has it there
module _ (cs : List (List ℤ)) (ss : List Shape) (atoms : List Atom) (is : atoms_of cs ss ≡ atoms) (column : ℕ)
    (value : ℤ) (xs : List ℤ) (at : xs ≡ get_or cs column []) (from : ℕ) where
  none_has : (to : ℕ) → to ≤ length ss → NoneIs xs value from to → NoneHasArgument atoms column value from to
  none_has to within none row a l m e h =
      let here : row < length ss = omega (arith, m, within) in
      let same : row ≡ 0 + row = omega arith in
      none row l m
      (ap (λ ys. get_or ys row (pos 0)) at ∙ ap (cell_value cs column) same
      ∙ argument_at cs 0 ss row a column value here (ap (λ as'. get_or as' row a) is ∙ e) h)

  pub least_has : (found : Option ℕ) → IfSome found (λ row. row < length ss) → IfSome found (NoneIs xs value from)
      → IfSome found (NoneHasArgument atoms column value from)
  least_has None l h = h
  least_has (Some row) l h = none_has row (omega (arith, l)) h

  pub none_at_all : (found : Option ℕ) (n : ℕ) → n ≡ length ss → (m : ℕ) → m ≡ length ss
      → IfNone found (NoneIs xs value from n) → IfNone found (NoneHasArgument atoms column value from m)
  none_at_all None n e m f h = λ row a l k. none_has n (omega (arith, e)) h row a l (omega (arith, k, e, f))
  none_at_all (Some row) n e m f h = h

-- what no atom has, no live row has
module _ (atoms : List Atom) (alive : List Bool) (rows : List (Option Atom)) (is : live atoms alive ≡ rows) (column : ℕ)
    (value : ℤ) where
  abbrev Lacks : ℕ → Type 0
  Lacks row = HasArgument column value (get_or rows row None) → ⊥

  abbrev LackBetween : ℕ → ℕ → Type 0
  LackBetween from to = (row : ℕ) → from ≤ row → row < to → Lacks row

  lack_here : (from to : ℕ) → NoneHasArgument atoms column value from to → LackBetween from to
  lack_here from to none row l m w =
      let v = live_of atoms alive row w.0 w.0 (ap (λ rs. get_or rs row None) is ∙ w.1) in
      none row w.0 l m v.1 w.2

  lacks_past : (row : ℕ) → length atoms ≤ row → Lacks row
  lacks_past row l w =
      let v = live_of atoms alive row w.0 w.0 (ap (λ rs. get_or rs row None) is ∙ w.1) in
      let m = v.0 in absurd (omega (arith, l, m))

  lack_both : (from at to : ℕ) → LackBetween from at → LackBetween at to → LackBetween from to
  lack_both from at to before after row l m = elim (cases_lt row at) as (λ _. Lacks row) [
    | inl less ↦ before row l less
    | inr most ↦ after row most m
  ]

  -- the walk over the rows that may have it
  module _ (from at : ℕ) (before : LackBetween from at) where
    pub lack_least : (row : ℕ) → NoneHasArgument atoms column value at row → LackBetween from row
    lack_least row none = lack_both from at row before (lack_here at row none)

    pub lack_more : (row : ℕ) → NoneHasArgument atoms column value at row → Lacks row → LackBetween from (row + 1)
    lack_more row none lacks = lack_both from row (row + 1) (lack_least row none)
        (λ k l m. (let e : row ≡ k = omega (arith, l, m) in subst Lacks e lacks))

    pub lack_all : (to : ℕ) → length atoms ≤ to → NoneHasArgument atoms column value at to → (row : ℕ) → from ≤ row
        → Lacks row
    lack_all to past none row l = elim (cases_lt row to) as (λ _. Lacks row) [
      | inl less ↦ lack_least to none row l less
      | inr most ↦ lacks_past row (omega (arith, past, most))
    ]

    pub lack_ever : length atoms ≤ at → (row : ℕ) → from ≤ row → Lacks row
    lack_ever past row l = elim (cases_lt row at) as (λ _. Lacks row) [
      | inl less ↦ before row l less
      | inr most ↦ lacks_past row (omega (arith, past, most))
    ]
