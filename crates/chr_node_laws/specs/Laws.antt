-- The laws of nodes.
use Rattle.std.specs.Prelude.{◌≡◌, ℕ, List, ◌∷◌}
use Rattle.std.specs.List.{Contains}
use Rattle.chr_base.specs.declared.rule.Rule.{Rule}
use Rattle.chr_base.specs.Stores.{Store}
use Rattle.chr_confluence.specs.Confluence.{Confluent}
use Rattle.chr_ops.specs.Operations.{Operation, Operations, operations_of, IsHeld}
use Rattle.chr_records.specs.Records.{records_of, IsFront}
use Rattle.chr_node_laws.specs.Folders.{told_by, told_in, AreAlike, HoldsJust, HasOneBag, Shows}
use Rattle.chr_node_laws.specs.Runs.{Run, acknowledged, told, IsLeftBy, AreCopies, AreNumbered}

-- what a run has left are the texts that were acknowledged and more, and no other than it was told
abbrev pub LeftAreFronts : Type 0
LeftAreFronts =
    (r : Run) (file : List ℕ) → IsLeftBy r file
    → IsFront (acknowledged r) (records_of file) × IsFront (records_of file) (told r)

-- Each node that has read what a run has left holds the operations that were acknowledged.
abbrev pub AcknowledgedAreHeld : Type 0
AcknowledgedAreHeld =
    (meaning : List ℕ → List Operation) (r : Run) (file : List ℕ) (files : List (List ℕ)) (m : Operations)
    (o : Operation) → IsLeftBy r file → Contains files file → HoldsJust m (told_in meaning files)
    → Contains (told_by meaning (acknowledged r)) o → IsHeld m o

-- What a node holds that has read copies, some run was told.
abbrev pub NoOthersAreHeld : Type 0
NoOthersAreHeld =
    (meaning : List ℕ → List Operation) (runs : List Run) (files : List (List ℕ)) (m : Operations) (o : Operation)
    → AreCopies runs files → HoldsJust m (told_in meaning files) → IsHeld m o
    → (r : Run) × Contains runs r × Contains (told_by meaning (told r)) o

-- A copy of a front of a file tells nothing that the file does not.
abbrev pub CopiesTellNoMore : Type 0
CopiesTellNoMore =
    (meaning : List ℕ → List Operation) (files : List (List ℕ)) (file copy : List ℕ) → Contains files file
    → IsFront (records_of copy) (records_of file) → AreAlike (told_in meaning (copy ∷ files)) (told_in meaning files)

-- sets that hold the same operations, in whatever order and however often these were told, are one
abbrev pub AlikeAreOne : Type 0
AlikeAreOne =
    (m n : Operations) (os ps : List Operation) → AreAlike os ps → HoldsJust m os → HoldsJust n ps → m ≡ n

-- Nodes of one confluent program that have read files which tell the same operations show the same store.
abbrev pub NodesAgree : Type 0
NodesAgree =
    (rules : List Rule) (meaning : List ℕ → List Operation) (files others : List (List ℕ)) (s t : Store)
    → Confluent rules → AreAlike (told_in meaning files) (told_in meaning others) → Shows rules meaning files s
    → Shows rules meaning others t → s ≡ t

-- Where each run numbers its operations under its own origin, no id stands for two bags in any copies.
abbrev pub OriginsKeepApart : Type 0
OriginsKeepApart =
    (meaning : List ℕ → List Operation) (runs : List Run) (files : List (List ℕ)) → AreNumbered meaning runs
    → AreCopies runs files → HasOneBag (told_in meaning files)

-- where no id stands for two bags, the set of the operations holds them all
abbrev pub OneBagIsHeld : Type 0
OneBagIsHeld = (os : List Operation) → HasOneBag os → HoldsJust (operations_of os) os
