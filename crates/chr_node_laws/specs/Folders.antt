-- Folders of files with records: what they tell, and what a node shows that has read them.
use Rattle.std.specs.Prelude.{◌≡◌, ◌↔◌, ℕ, List}
use Rattle.std.specs.List.{Contains, flat_map}
use Rattle.chr_base.specs.declared.rule.Rule.{Rule}
use Rattle.chr_base.specs.Stores.{Store}
use Rattle.chr_base.specs.Rules.{Step}
use Rattle.chr_base.specs.Rewriting.{IsNormalForm}
use Rattle.chr_base.specs.Values.{HasValues}
use Rattle.chr_ops.specs.declared.id.OpId.{OpId}
use Rattle.chr_ops.specs.Operations.{Operation, Operations, told_store, IsHeld}
use Rattle.chr_records.specs.Records.{records_of}

-- the operations of texts, where `meaning` says which operations a text has
abbrev pub told_by : (List ℕ → List Operation) → List (List ℕ) → List Operation
told_by meaning texts = flat_map meaning texts

-- the operations that the files of a folder tell: those of the whole records at the front of each
abbrev pub told_in : (List ℕ → List Operation) → List (List ℕ) → List Operation
told_in meaning files = flat_map (λ file. told_by meaning (records_of file)) files

-- the same operations, in whatever order and however often
abbrev pub AreAlike : List Operation → List Operation → Type 0
AreAlike os ps = (o : Operation) → Contains os o ↔ Contains ps o

-- the set holds the operations of the list, and no other
abbrev pub HoldsJust : Operations → List Operation → Type 0
HoldsJust m os = (o : Operation) → IsHeld m o ↔ Contains os o

-- no id stands for two bags
abbrev pub HasOneBag : List Operation → Type 0
HasOneBag os = (id : OpId) (s t : Store) → Contains os (id, s) → Contains os (id, t) → s ≡ t

-- A node that has read the files shows the store: it holds what they tell, whose values have 64 bits, and the store is
-- a normal form of that.
pub record Shows (rules : List Rule) (meaning : List ℕ → List Operation) (files : List (List ℕ)) (store : Store)
    : Type 0 where
  pub operations : Operations
  pub held : HoldsJust operations (told_in meaning files)
  pub values : HasValues (told_store operations)
  pub normal : IsNormalForm (Step rules) (told_store operations) store
