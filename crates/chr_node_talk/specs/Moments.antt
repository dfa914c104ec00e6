-- What a node's answers depend on.
use Rattle.std.specs.Prelude.{◌≡◌, ℕ, ◌+◌, ◌-◌, ◌^◌, min}
use Rattle.std.specs.FinMap as map
use Rattle.chr_base.specs.declared.program.Program.{Program}
use Rattle.chr_base.specs.Programs.{rules_of}
use Rattle.chr_base.specs.Rewriting.{IsNormalForm}
use Rattle.chr_base.specs.Rules.{Step}
use Rattle.chr_base.specs.Stores.{Store}
use Rattle.chr_ops.specs.declared.id.OpId.{OpId}
use Rattle.chr_ops.specs.Operations.{Operation, Operations, told_store, IsNew}
use Rattle.chr_node.specs.Nodes.{AreHeldIn}

-- what stays for a whole run
pub record Run : Type 0 where
  pub program : Program
  pub origin : ℕ
  -- the number before that of its first operation
  pub before : ℕ

-- what lines change
pub record Moment : Type 0 where
  pub operations : Operations
  -- the number of the operation that was told last
  pub last : ℕ
  -- the store that was told of when it was asked last what came and went
  pub shown : Store

-- nothing changes
pub record IsSame (old new : Moment) : Type 0 where
  pub operations : new.operations ≡ old.operations
  pub last : new.last ≡ old.last
  pub shown : new.shown ≡ old.shown

-- the files of others may have brought operations, and nothing else changes
pub record Hears (old new : Moment) : Type 0 where
  pub grows : AreHeldIn old.operations new.operations
  pub last : new.last ≡ old.last
  pub shown : new.shown ≡ old.shown

-- the operation is told, as the next one of the run
pub record Tells (r : Run) (o : Operation) (old new : Moment) : Type 0 where
  pub origin : o.0.origin ≡ r.origin
  pub number : o.0.number ≡ old.last + 1
  pub absent : IsNew old.operations o
  pub operations : new.operations ≡ map.insert old.operations o.0 o.1
  pub last : new.last ≡ old.last + 1
  pub shown : new.shown ≡ old.shown

-- the store is told of
pub record Shows (store : Store) (old new : Moment) : Type 0 where
  pub operations : new.operations ≡ old.operations
  pub last : new.last ≡ old.last
  pub shown : new.shown ≡ store

-- the id of the next operation, where a number is left for it
abbrev pub next_id : Run → Moment → OpId
next_id r m = record { origin = r.origin; number = min (m.last + 1) (2 ^ 64 - 1) }

-- the store is a normal form of what is held
abbrev pub IsStoreOf : Program → Operations → Store → Type 0
IsStoreOf p m store = IsNormalForm (Step (rules_of p)) (told_store m) store
