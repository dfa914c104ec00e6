-- The statements of the laws of replicas.
use Rattle.std.specs.Prelude.{◌≡◌, ℕ, List, Option}
use Rattle.chr_base.specs.declared.program.Program.{Program}
use Rattle.chr_base.specs.declared.derivation.Step.{Step as StepValue}
use Rattle.chr_base.specs.Stores.{Store}
use Rattle.chr_base.specs.Rules.{Step}
use Rattle.chr_base.specs.Programs.{rules_of}
use Rattle.chr_base.specs.Sameness.{AreSame}
use Rattle.chr_base.specs.Rewriting.{IsNormalForm}
use Rattle.chr_base.specs.Values.{HasValues}
use Rattle.chr_confluence.specs.Confluence.{Confluent}
use Rattle.chr_ops.specs.Operations.{Operation, told_store}
use Rattle.chr_replica.specs.Replicas.{Replica, first, IsSound, IsSettled}
use Rattle.chr_replica.specs.Replicas.{Tells, Merges, Steps, Takes, TakesParts, Puts, Recalls, Settles}
use Rattle.chr_replica.specs.Replicas.{TellsRested}

-- the replica that was told nothing is sound
abbrev pub FirstIsSound : Type 0
FirstIsSound = (p : Program) → IsSound p first

-- a relation between replicas leads from sound ones to sound ones
abbrev pub KeepsSound : Program → (Replica → Replica → Type 0) → Type 0
KeepsSound p R = (s t : Replica) → R s t → IsSound p s → IsSound p t

-- each event keeps replicas sound
abbrev pub TellKeeps : Type 0
TellKeeps = (p : Program) (op : Operation) → KeepsSound p (λ s t. Tells p s op t)

abbrev pub MergeKeeps : Type 0
MergeKeeps = (p : Program) (ops : List Operation) (n : ℕ) → KeepsSound p (λ s t. Merges p s ops n t)

abbrev pub StepKeeps : Type 0
StepKeeps = (p : Program) (step : StepValue) → KeepsSound p (λ s t. Steps p s step t)

abbrev pub TakeKeeps : Type 0
TakeKeeps = (p : Program) (part : Store) (number : ℕ) → KeepsSound p (λ s t. Takes s part number t)

abbrev pub TakePartsKeeps : Type 0
TakePartsKeeps = (p : Program) (n : ℕ) (parts : List Store) → KeepsSound p (λ s t. TakesParts s n parts t)

abbrev pub PutKeeps : Type 0
PutKeeps = (p : Program) (number : ℕ) (part result : Store) → KeepsSound p (λ s t. Puts p s number part result t)

abbrev pub RecallKeeps : Type 0
RecallKeeps = (p : Program) (number : ℕ) → KeepsSound p (λ s t. Recalls s number t)

abbrev pub SettleKeeps : Type 0
SettleKeeps = (p : Program) (n : ℕ) → KeepsSound p (λ s t. Settles p s n t)

abbrev pub TellRestedKeeps : Type 0
TellRestedKeeps =
    (p : Program) (carried : Option ℕ) (ops : List Operation) (rested : Store) (lease : Option ℕ)
    → KeepsSound p (λ s t. TellsRested p s carried ops rested lease t)

-- Two sound replicas, of one confluent program, that hold the same operations of 64-bit values and have settled, hold
-- the same pool: the one normal form of what was told.
abbrev pub OneAnswer : Type 0
OneAnswer =
    (p q : Program) (s t : Replica) → AreSame p q → Confluent (rules_of p) → HasValues (told_store s.operations)
    → s.operations ≡ t.operations → IsSound p s → IsSound q t → IsSettled p s → IsSettled q t
    → (s.pool ≡ t.pool) × IsNormalForm (Step (rules_of p)) (told_store s.operations) s.pool
    × ((u : Store) → IsNormalForm (Step (rules_of p)) (told_store s.operations) u → u ≡ s.pool)
