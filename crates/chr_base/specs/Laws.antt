-- The laws of stores, which are finite multisets by how often each atom stands in them, and of their steps.
use Rattle.std.specs.Prelude.{◌≡◌, ℕ, ◌+◌, ◌-◌, List, [], ◌∷◌, ◌↔◌}
use Rattle.chr_base.specs.declared.atom.Atom.{Atom}
use Rattle.chr_base.specs.declared.program.Program.{Program}
use Rattle.chr_base.specs.FinBag.{empty, items, add, ◌⊕◌, ◌⊖◌, IsWithin}
use Rattle.chr_base.specs.Stores.{Store, store_of, count}
use Rattle.chr_base.specs.Rules.{Step}
use Rattle.chr_base.specs.Programs.{rules_of}
use Rattle.chr_base.specs.Rewriting.{Runs, Reaches}
use Rattle.chr_base.specs.Sameness.{AreSame}

-- no atom stands in the empty store
abbrev pub EmptyCounts : Type 0
EmptyCounts = (q : Atom) → count empty q ≡ 0

-- the store of no atoms is the empty one
abbrev pub NoAtomsAreEmpty : Type 0
NoAtomsAreEmpty = store_of [] ≡ empty

-- one atom more in a list is one more of it in the store, and no more of any other
abbrev pub ListCountsItself : Type 0
ListCountsItself = (q : Atom) (xs : List Atom) → count (store_of (q ∷ xs)) q ≡ 1 + count (store_of xs) q

abbrev pub ListCountsNoOther : Type 0
ListCountsNoOther = (q x : Atom) (xs : List Atom) → ¬ (q ≡ x) → count (store_of (x ∷ xs)) q ≡ count (store_of xs) q

abbrev pub SumCounts : Type 0
SumCounts = (s t : Store) (q : Atom) → count (s ⊕ t) q ≡ count s q + count t q

abbrev pub DifferenceCounts : Type 0
DifferenceCounts = (s t : Store) (q : Atom) → count (s ⊖ t) q ≡ count s q - count t q

-- stores with the same counts are equal
abbrev pub CountsDetermine : Type 0
CountsDetermine = (s t : Store) → ((q : Atom) → count s q ≡ count t q) → s ≡ t

-- a store is that of its items
abbrev pub ItemsMakeStore : Type 0
ItemsMakeStore = (s : Store) → store_of (items s) ≡ s

-- an atom that is added is one more
abbrev pub AddIsSum : Type 0
AddIsSum = (s : Store) (a : Atom) → add s a ≡ s ⊕ store_of (a ∷ [])

-- a store is within another just where this is it and some more
abbrev pub WithinIsPart : Type 0
WithinIsPart = (s t : Store) → IsWithin s t ↔ ((rest : Store) × (t ≡ rest ⊕ s))

-- programs that are the same take the same steps
abbrev pub SameProgramsStepAlike : Type 0
SameProgramsStepAlike = (p q : Program) → AreSame p q → (s t : Store) → Step (rules_of p) s t ↔ Step (rules_of q) s t

-- programs that are the same reach the same stores
abbrev pub SameProgramsReachAlike : Type 0
SameProgramsReachAlike =
    (p q : Program) → AreSame p q → (s t : Store) → Reaches (Step (rules_of p)) s t ↔ Reaches (Step (rules_of q)) s t

-- a run goes on in every larger store
abbrev pub RunsGrow : Type 0
RunsGrow =
    (p : Program) (n : ℕ) (s t more : Store) → Runs (Step (rules_of p)) n s t
    → Runs (Step (rules_of p)) n (s ⊕ more) (t ⊕ more)
