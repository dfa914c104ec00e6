-- The laws of what nodes show.
use Rattle.std.specs.Prelude.{◌≡◌, ℕ, List}
use Rattle.std.specs.List.{Contains}
use Rattle.chr_base.specs.declared.program.Program.{Program}
use Rattle.chr_base.specs.Programs.{declarations, rules_of}
use Rattle.chr_base.specs.Rewriting.{IsNormalForm}
use Rattle.chr_base.specs.Rules.{Step}
use Rattle.chr_base.specs.Stores.{Store}
use Rattle.chr_ops.specs.Operations.{Operation, Operations, told_store, IsHeld}
use Rattle.chr_node_laws.specs.Folders.{told_by, told_in, AreAlike}
use Rattle.chr_node_laws.specs.Runs.{Run, acknowledged, told, IsLeftBy, AreCopies}
use Rattle.chr_node_records.specs.Texts.{operations_in}
use Rattle.chr_node_boards.specs.Shown.{ShowsBy}

-- Nodes of the program that have read files which tell the same operations show the same store.
abbrev pub ShownStoresAgree : Program → Type 0
ShownStoresAgree p =
    (files others : List (List ℕ)) (s t : Store)
    → AreAlike (told_in (operations_in (declarations p)) files) (told_in (operations_in (declarations p)) others)
    → ShowsBy p files s → ShowsBy p others t → s ≡ t

-- The store is a normal form of operations among which are all that the run had acknowledged, and none that no run was
-- told.
pub record IsOfAcknowledged (p : Program) (runs : List Run) (r : Run) (store : Store) : Type 0 where
  pub operations : Operations
  pub has_acknowledged : (o : Operation) → Contains (told_by (operations_in (declarations p)) (acknowledged r)) o
      → IsHeld operations o
  pub has_told : (o : Operation) → IsHeld operations o
      → (q : Run) × Contains runs q × Contains (told_by (operations_in (declarations p)) (told q)) o
  pub normal : IsNormalForm (Step (rules_of p)) (told_store operations) store

-- A node that has read copies of what runs were told, among them what one of these runs has left, shows what that run
-- had acknowledged.
abbrev pub AcknowledgedAreShown : Type 0
AcknowledgedAreShown =
    (p : Program) (runs : List Run) (r : Run) (file : List ℕ) (files : List (List ℕ)) (store : Store)
    → AreCopies runs files → Contains files file → IsLeftBy r file → ShowsBy p files store
    → IsOfAcknowledged p runs r store
