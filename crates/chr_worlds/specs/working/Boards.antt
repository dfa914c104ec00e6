-- The boards of a world as a list.
use Rattle.std.specs.Prelude.{◌≡◌, ℕ, List, [], ◌∷◌, ◌++◌, map as each, All, Option, Some, None, slice_get, slice_set}
use Rattle.std.specs.Prelude.{Bool, true, false, Result, Ok, ⊤}
use Rattle.std.specs.FinMap as map
use Rattle.chr_base.specs.Programs.{rules_of}
use Rattle.chr_base.specs.declared.derivation.Step.{Step}
use Rattle.chr_weights.specs.WeighedPrograms.{program_of}
use Rattle.chr_join.specs.Parts.{Finished}
use Rattle.chr_join.specs.declared.accepted.Accepted.{Accepted}
use Rattle.chr_ops.specs.declared.fault.Added.{Added}
use Rattle.chr_ops.specs.declared.fault.Added.TheVariants as added
use Rattle.chr_ops.specs.declared.news.News.{News}
use Rattle.chr_ops.specs.declared.range.IdRange.{IdRange}
use Rattle.chr_ops.specs.News.{ids_of, GainsOnly, HoldsAll, IsTrueOfAll}
use Rattle.chr_ops.specs.Operations.{Operation, Operations}
use Rattle.chr_ops.specs.Summaries.{CoversJust, lacking}
use Rattle.chr_rewrite.specs.Derivations.{IsDerivation}
use Rattle.chr_replica.specs.Boards.{Held, program_on}
use Rattle.chr_replica.specs.Replicas.{Replica}
use Rattle.chr_replica.specs.RestedOps.{TellsThem}
use Rattle.chr_replica.specs.declared.rested.Placed.{Placed}
use Rattle.chr_replica.specs.declared.rested.RestedOps.{RestedOps}
use Rattle.chr_acts.specs.declared.act.Act.{Act}
use Rattle.chr_acts.specs.declared.act.Act.TheVariants as act
use Rattle.chr_acts.specs.declared.reply.Reply.{Reply}
use Rattle.chr_acts.specs.Events.{Does}
use Rattle.chr_base.specs.declared.program.Program.{Program}
use Rattle.chr_worlds.specs.declared.answer.Answer.{Answer}
use Rattle.chr_worlds.specs.declared.answer.Answer.TheVariants as answer
use Rattle.chr_worlds.specs.declared.event.Event.{Event}
use Rattle.chr_worlds.specs.declared.refusal.WorldRefusal.{WorldRefusal}
use Rattle.chr_worlds.specs.Worlds.{Replicas, TakesIn, Happens}

-- their replicas
abbrev pub replicas_on : List Held → Replicas
replicas_on bs = each (λ b. b.replica) bs

-- each of them is of this accepted program
abbrev pub AreOf : Accepted → List Held → Type 0
AreOf a bs = All (λ b. b.accepted ≡ a) bs

-- the replica of the board at a place changes as the relation says under its program, and nothing else does
pub record ChangesAt (bs : List Held) (place : ℕ) (R : Held → Replica → Type 0) (cs : List Held) : Type 0 where
  pub before : Held
  pub after : Held
  pub there : slice_get bs place ≡ Some before
  pub program : after.accepted ≡ before.accepted
  pub changed : R before after.replica
  pub boards : cs ≡ slice_set bs place after

-- d comes of the part that the replica s of the program p has out under a number, after just these steps under p
pub record IsWorked (p : Program) (s : Replica) (number : ℕ) (steps : List Step) (d : Finished) : Type 0 where
  pub program : program_of d.weighed ≡ p
  pub out : map.get s.out number ≡ Some d.part
  pub numbered : d.number ≡ number
  pub end : IsDerivation (rules_of p) steps d.part d.result

-- the operations are those of m that n lacks
pub record AreLacked (m n : Operations) (ops : List Operation) : Type 0 where
  pub summary : List IdRange
  pub covers : CoversJust summary n
  pub lacked : ops ≡ lacking m summary

-- the answer is a replica's reply, of which R holds
abbrev pub IsReplied : Answer → (Reply → Type 0) → Type 0
IsReplied (answer.Replied x) R = R x
IsReplied _ R = ⊥

-- the board at a place does the act, and its reply is the answer
abbrev pub RepliesAt : List Held → ℕ → Act → Answer → List Held → Type 0
RepliesAt bs place a x cs = ChangesAt bs place (λ b t. IsReplied x (λ y. Does (program_on b) b.replica a y t)) cs

-- the board at the second place takes in what the one at the first holds and it lacks, and its reply is the answer
pub record ExchangesAt (bs : List Held) (from to : ℕ) (x : Answer) (cs : List Held) : Type 0 where
  pub giver : Held
  pub there : slice_get bs from ≡ Some giver
  pub taken : ChangesAt bs to (λ b t. IsReplied x (λ y. TakesIn (program_on b) giver.replica b.replica y t)) cs

-- the event happens, and its answer joins the answers
pub record GainsAnswer (p : Program) (w : Replicas) (e : Event) (xs ys : List Answer) (v : Replicas) : Type 0 where
  pub answer : Answer
  pub happens : Happens p w e answer v
  pub answers : ys ≡ xs ++ answer ∷ []

-- the board at a place is told rested operations, where it is told where these went; else all boards stay as they are
abbrev pub MayTellAt : List Held → ℕ → RestedOps → Option Placed → List Held → Type 0
MayTellAt bs place r (Some x) cs = ChangesAt bs place (λ b t. TellsThem (program_on b) r x b.replica t) cs
MayTellAt bs place r None cs = cs ≡ bs

-- ---- what boards gained

-- the operations on each
abbrev pub sets_on : List Held → List Operations
sets_on bs = each (λ b. b.replica.operations) bs

-- what is kept of what they gained is true of their operations
abbrev pub IsTrueOn : News → List Held → Type 0
IsTrueOn w bs = IsTrueOfAll w (sets_on bs)

-- it brings a replica no operations
abbrev pub TellsNothing : Act → Type 0
TellsNothing (act.Tell op) = ⊥
TellsNothing (act.Merge ops) = ⊥
TellsNothing _ = ⊤

-- whether a told operation was new
abbrev pub is_told_new : Result Added WorldRefusal → Bool
is_told_new (Ok added.New) = true
is_told_new _ = false

-- the set k holds what m does, and nothing else but operations of the list
pub record Grows (m : Operations) (ops : List Operation) (k : Operations) : Type 0 where
  pub only : GainsOnly m k (ids_of ops)
  pub holds : HoldsAll k m

-- the operations are those of the board at the first place that the one at the second lacks
pub record AreLackedAt (bs : List Held) (from to : ℕ) (ops : List Operation) : Type 0 where
  pub giver : Held
  pub taker : Held
  pub at_from : slice_get bs from ≡ Some giver
  pub at_to : slice_get bs to ≡ Some taker
  pub lacked : AreLacked giver.replica.operations taker.replica.operations ops

-- the board at the second place holds each id that the one at the first does
pub record HoldsAllOf (bs : List Held) (from to : ℕ) : Type 0 where
  pub giver : Held
  pub taker : Held
  pub at_from : slice_get bs from ≡ Some giver
  pub at_to : slice_get bs to ≡ Some taker
  pub holds : HoldsAll taker.replica.operations giver.replica.operations
