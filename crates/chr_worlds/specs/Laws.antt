-- The statements of the laws of worlds.
use Rattle.std.specs.Prelude.{◌≡◌, ℕ, List, Option, All}
use Rattle.std.specs.FinMap as map
use Rattle.chr_base.specs.declared.program.Program.{Program}
use Rattle.chr_base.specs.Stores.{Store}
use Rattle.chr_base.specs.Rules.{Step}
use Rattle.chr_base.specs.Programs.{rules_of}
use Rattle.chr_base.specs.Sameness.{AreSame}
use Rattle.chr_base.specs.Rewriting.{IsNormalForm}
use Rattle.chr_base.specs.Values.{HasValues}
use Rattle.chr_confluence.specs.Confluence.{Confluent}
use Rattle.chr_confluence.specs.laws.Parts.{whole, AreRested}
use Rattle.chr_join.specs.Parts.{IsOnlyNormalForm}
use Rattle.chr_ops.specs.Operations.{Operation, told_store}
use Rattle.chr_ops.specs.Joins.{union}
use Rattle.chr_ops.specs.Exchange.{HaveOneBag}
use Rattle.chr_acts.specs.declared.reply.Reply.TheVariants as reply
use Rattle.chr_replica.specs.declared.refusal.Refusal.TheVariants as refusal
use Rattle.chr_replica.specs.Replicas.{Replica, first, IsSound, IsSettled, TellsRested}
use Rattle.chr_worlds.specs.declared.event.Event.{Event}
use Rattle.chr_worlds.specs.declared.event.Event.TheVariants as event
use Rattle.chr_worlds.specs.declared.answer.Answer.{Answer}
use Rattle.chr_worlds.specs.declared.answer.Answer.TheVariants as answer
use Rattle.chr_worlds.specs.Worlds.{Replicas, IsAt, Changes, Happens, Runs}

-- along each run replicas stay sound
abbrev pub RunsKeep : Type 0
RunsKeep =
    (p : Program) (w : Replicas) (es : List Event) (xs : List Answer) (v : Replicas) → Runs p w es xs v
    → All (IsSound p) w → All (IsSound p) v

-- some run leads from the one world to the other
abbrev pub RunsTo : Program → Replicas → Replicas → Type 0
RunsTo p w v = (es : List Event) × (xs : List Answer) × Runs p w es xs v

-- where a replica is told operations that were rested before, some run does the same
abbrev pub RestedTellsRun : Type 0
RestedTellsRun =
    (p : Program) (w v : Replicas) (r : ℕ) (carried : Option ℕ) (ops : List Operation) (rested : Store)
    (lease : Option ℕ) → Changes w r (λ s t. TellsRested p s carried ops rested lease t) v → RunsTo p w v

-- some run, from a world in which no replica was told anything, leads to one that has the replica s
pub record ComesAbout (p : Program) (s : Replica) : Type 0 where
  pub start : Replicas
  pub untold : All (λ t. t ≡ first) start
  pub events : List Event
  pub answers : List Answer
  pub world : Replicas
  pub run : Runs p start events answers world
  pub number : ℕ
  pub there : IsAt world number s

-- Whatever events led to them, in one world or in two, any two replicas of one confluent program that hold the same
-- operations of 64-bit values and have settled hold the same store: the one normal form of what was told.
abbrev pub ReplicasAgree : Type 0
ReplicasAgree =
    (p q : Program) (s t : Replica) → AreSame p q → Confluent (rules_of p) → HasValues (told_store s.operations)
    → ComesAbout p s → ComesAbout q t → s.operations ≡ t.operations → IsSettled p s → IsSettled q t
    → (s.pool ≡ t.pool) × IsNormalForm (Step (rules_of p)) (told_store s.operations) s.pool
    × ((u : Store) → IsNormalForm (Step (rules_of p)) (told_store s.operations) u → u ≡ s.pool)

-- Two replicas of a world, by their numbers: where they hold the same operations and have settled they hold the same
-- store, the one normal form of what was told.
abbrev pub AgreeAt : Program → Replicas → ℕ → ℕ → Type 0
AgreeAt p w a b =
    (s t : Replica) → IsAt w a s → IsAt w b t → s.operations ≡ t.operations → IsSettled p s → IsSettled p t
    → (s.pool ≡ t.pool) × IsOnlyNormalForm (rules_of p) (told_store s.operations) s.pool

-- Where what was told is cut into parts, each part is rested, and what they come to is rested together, that gives the
-- store of a settled replica too.
abbrev pub PartsAgree : Type 0
PartsAgree =
    (p : Program) (s : Replica) (ss ts : List Store) (t : Store) → Confluent (rules_of p)
    → HasValues (told_store s.operations) → ComesAbout p s → IsSettled p s
    → whole (rules_of p) ss ≡ told_store s.operations → AreRested (rules_of p) ss ts
    → IsNormalForm (Step (rules_of p)) (whole (rules_of p) ts) t → t ≡ s.pool

-- after an exchange the replica that took in holds the union
abbrev pub SyncsUnite : Type 0
SyncsUnite =
    (p : Program) (w v : Replicas) (a b n : ℕ) (s t u : Replica)
    → Happens p w (event.Sync a b) (answer.Replied (reply.Merged n)) v → IsAt w a s → IsAt w b t → IsAt v b u
    → u.operations ≡ union t.operations (map.entries s.operations)

-- Where no id stands for two bags, an exchange and then the one in the other direction make both hold the same.
abbrev pub SyncsMeet : Type 0
SyncsMeet =
    (p : Program) (w v z : Replicas) (a b m n : ℕ) (s t s' t' : Replica) → IsAt w a s → IsAt w b t
    → HaveOneBag s.operations t.operations → Happens p w (event.Sync a b) (answer.Replied (reply.Merged n)) v
    → Happens p v (event.Sync b a) (answer.Replied (reply.Merged m)) z → IsAt z a s' → IsAt z b t'
    → s'.operations ≡ t'.operations

-- in a world of sound replicas no exchange is refused for an atom that the program does not declare
abbrev pub SyncsAreDeclared : Type 0
SyncsAreDeclared =
    (p : Program) (w v : Replicas) (a b : ℕ) → All (IsSound p) w
    → ¬ Happens p w (event.Sync a b) (answer.Replied (reply.Refused refusal.UnknownSymbol)) v
