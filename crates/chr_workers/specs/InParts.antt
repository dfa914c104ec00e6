-- A replica whose pool is leased out in parts, which come back rested or as they are.
use Rattle.std.specs.Prelude.{◌≡◌, ℕ, zero, suc, ◌+◌, ◌<◌, List}
use Rattle.chr_base.specs.declared.program.Program.{Program}
use Rattle.chr_base.specs.Stores.{Store}
use Rattle.chr_base.specs.Rules.{Step}
use Rattle.chr_base.specs.Programs.{rules_of}
use Rattle.chr_base.specs.Rewriting.{IsAtRest}
use Rattle.chr_replica.specs.declared.limits.TheConstants.{LAST_LEASE}
use Rattle.chr_replica.specs.Replicas.{Replica, TakesParts, Puts, Recalls}

-- a part that is out comes back as a store at rest that it reaches
pub record PutsRested (p : Program) (s t : Replica) : Type 0 where
  pub number : ℕ
  pub part : Store
  pub result : Store
  pub puts : Puts p s number part result t
  pub rests : IsAtRest (Step (rules_of p)) result

-- n parts come back as stores at rest that they reach, one after the other
abbrev pub PutsEach : Program → ℕ → Replica → Replica → Type 0
PutsEach p zero s t = t ≡ s
PutsEach p (suc n) s t = (u : Replica) × PutsEach p n s u × PutsRested p u t

-- n parts come back as they are, one after the other
abbrev pub RecallsEach : ℕ → Replica → Replica → Type 0
RecallsEach zero s t = t ≡ s
RecallsEach (suc n) s t = (u : Replica) × RecallsEach n s u × ((number : ℕ) × Recalls u number t)

-- the whole pool is leased out in `count` parts, of which n come back rested, and all others as they are
pub record RestsInParts (p : Program) (s : Replica) (count n : ℕ) (t : Replica) : Type 0 where
  pub parts : List Store
  pub taken : Replica
  pub takes : TakesParts s count parts taken
  pub put : Replica
  pub puts : PutsEach p n taken put
  pub others : ℕ
  pub recalls : RecallsEach others put t
  pub all : n + others ≡ count

-- fewer than `count` lease numbers are left, and nothing happens
pub record LacksNumbers (s : Replica) (count n : ℕ) (t : Replica) : Type 0 where
  pub few : LAST_LEASE + 1 < s.next + count
  pub none : n ≡ 0
  pub same : t ≡ s
