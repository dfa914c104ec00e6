-- What rules say of the sorts of positions, note by note.
use Rattle.std.specs.Prelude.{◌≡◌, ℕ, ◌≤◌, ◌<◌, ℤ, true, ⊤, if◌then◌else◌, nat_eq, List, [], ◌∷◌, ◌++◌, map}
use Rattle.std.specs.List.{flat_map}
use Rattle.chr_base.specs.declared.term.Term.{Term}
use Rattle.chr_base.specs.declared.term.Term.TheVariants.{Variable, Constant}
use Rattle.chr_base.specs.declared.term.Cmp.{Cmp}
use Rattle.chr_base.specs.declared.term.Cmp.TheVariants as sign
use Rattle.chr_base.specs.declared.term.Comparison.{Comparison}
use Rattle.chr_base.specs.declared.rule.Rule.{Rule}
use Rattle.chr_base.specs.Rules.{heads_of}
use Rattle.chr_types.specs.OrderTypes.{In}
use Rattle.chr_confluence.specs.Sorts.{Sorts, Kind, ordered, equal, free, tells, sorted_terms, first_sort}
use Rattle.chr_sorting.specs.declared.notes.Note.{Note}
use Rattle.chr_sorting.specs.declared.notes.Note.TheVariants.{Joined, Stands, Compared}
use Rattle.chr_sorting.specs.FinestSorts.{position_of, sort_in}

-- each position by its number, a sort of its own
abbrev pub numbering : Sorts
numbering = record { sort = position_of; kind = λ _. free; constants = λ _. [] }

-- the terms of the heads, each with the number of its position
abbrev pub placed_heads : Rule → List (ℕ × Term)
placed_heads r = sorted_terms numbering (heads_of r)

abbrev pub note_at : List (ℕ × Term) → ℕ → Term → Note
note_at hs p (Variable x) = Joined p (first_sort hs x)
note_at hs p (Constant c) = Stands p c

-- a variable's position is joined with its first one, and a constant is one of its position's sort
abbrev pub term_note : List (ℕ × Term) → ℕ × Term → Note
term_note hs q = note_at hs q.0 q.1

abbrev pub bound_notes : ℕ → Cmp → ℤ → List Note
bound_notes p s d = Stands p d ∷ Compared p s ∷ []

abbrev pub comparison_notes : List (ℕ × Term) → Cmp → Term → Term → List Note
comparison_notes hs s (Variable x) (Variable y) =
    Joined (first_sort hs x) (first_sort hs y) ∷ (if nat_eq x y then [] else Compared (first_sort hs x) s ∷ [])
comparison_notes hs s (Variable x) (Constant d) = bound_notes (first_sort hs x) s d
comparison_notes hs s (Constant d) (Variable y) = bound_notes (first_sort hs y) s d
comparison_notes hs s (Constant d) (Constant e) = []

abbrev pub guard_notes : List (ℕ × Term) → List Comparison → List Note
guard_notes hs cs = flat_map (λ c. comparison_notes hs c.cmp c.left c.right) cs

abbrev pub rule_notes : Rule → List Note
rule_notes r =
    map (term_note (placed_heads r)) (placed_heads r)
    ++ map (term_note (placed_heads r)) (sorted_terms numbering r.body.items)
    ++ guard_notes (placed_heads r) r.guard.items

-- ---- what the notes ask for

abbrev pub MeetsJoin : (ℕ → ℕ) → Note → Type 0
MeetsJoin f (Joined p q) = f p ≡ f q
MeetsJoin f (Stands p c) = ⊤
MeetsJoin f (Compared p s) = ⊤

-- a kind for the sort n tells the note's sign, where that is compared at n
abbrev pub MeetsKind : (ℕ → ℕ) → ℕ → Kind → Note → Type 0
MeetsKind f n k (Joined p q) = ⊤
MeetsKind f n k (Stands p c) = ⊤
MeetsKind f n k (Compared p s) = f p ≡ n → tells k s ≡ true

-- the note speaks of positions less than n
abbrev pub IsBelow : ℕ → Note → Type 0
IsBelow n (Joined p q) = (p < n) × (q < n)
IsBelow n (Stands p c) = p < n
IsBelow n (Compared p s) = p < n

-- the sort s, or `low` where it is `high`
abbrev pub merged : ℕ → ℕ → ℕ → ℕ
merged low high s = if nat_eq s high then low else s

-- the table joins what the notes join, and nothing else
pub record Joins (notes : List Note) (ts : List ℕ) : Type 0 where
  pub below : (p : ℕ) → sort_in ts p ≤ p
  pub meets : (n : Note) → In n notes → MeetsJoin (sort_in ts) n
  pub least : (f : ℕ → ℕ) → ((n : Note) → In n notes → MeetsJoin f n) → (p : ℕ) → f p ≡ f (sort_in ts p)

-- the least kind that tells the signs that this kind does, and this sign
abbrev pub raised : Kind → Cmp → Kind
raised ordered s = ordered
raised equal sign.Equal = equal
raised equal sign.NotEqual = equal
raised equal sign.Less = ordered
raised equal sign.AtMost = ordered
raised equal sign.Greater = ordered
raised equal sign.AtLeast = ordered
raised free sign.Equal = free
raised free sign.NotEqual = equal
raised free sign.Less = ordered
raised free sign.AtMost = ordered
raised free sign.Greater = ordered
raised free sign.AtLeast = ordered

-- the least kind for the sort n by the notes
pub record IsLeastKind (notes : List Note) (f : ℕ → ℕ) (n : ℕ) (k : Kind) : Type 0 where
  pub meets : (e : Note) → In e notes → MeetsKind f n k e
  pub least : (l : Kind) → ((e : Note) → In e notes → MeetsKind f n l e) → (s : Cmp) → tells k s ≡ true
      → tells l s ≡ true

-- the constants that the notes give the sort n, as terms
abbrev pub note_terms : (ℕ → ℕ) → ℕ → Note → List Term
note_terms f n (Joined p q) = []
note_terms f n (Stands p c) = if nat_eq (f p) n then Constant c ∷ [] else []
note_terms f n (Compared p s) = []

abbrev pub terms_at : (ℕ → ℕ) → ℕ → List Note → List Term
terms_at f n notes = flat_map (note_terms f n) notes
