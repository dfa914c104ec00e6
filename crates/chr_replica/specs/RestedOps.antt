-- Operations whose atoms were rested before they are told.
use Rattle.std.specs.Prelude.{◌≡◌, ◌⊎◌, ℕ, ◌<◌, All, Option, Some, None, ⊤}
use Rattle.std.specs.FinMap as map
use Rattle.chr_base.specs.declared.program.Program.{Program}
use Rattle.chr_base.specs.FinBag as bag
use Rattle.chr_base.specs.FinBag.{◌⊕◌}
use Rattle.chr_base.specs.Programs.{rules_of}
use Rattle.chr_base.specs.Rewriting.{Reaches}
use Rattle.chr_base.specs.Rules.{Step}
use Rattle.chr_base.specs.Stores.{Store}
use Rattle.chr_ops.specs.Joins.{AreNew, IsOverLimit}
use Rattle.chr_ops.specs.Operations.{sum_of}
use Rattle.chr_replica.specs.declared.limits.TheConstants.{LAST_LEASE}
use Rattle.chr_replica.specs.declared.rested.Destination.{Destination}
use Rattle.chr_replica.specs.declared.rested.Destination.TheVariants as destination
use Rattle.chr_replica.specs.declared.rested.LeasedPart.{LeasedPart}
use Rattle.chr_replica.specs.declared.rested.Placed.{Placed}
use Rattle.chr_replica.specs.declared.rested.Placed.TheVariants as placed
use Rattle.chr_replica.specs.declared.rested.RestedOps.{RestedOps}
use Rattle.chr_replica.specs.Leases.{Leases}
use Rattle.chr_replica.specs.Replicas.{Replica, IsDeclared, TellsRested}

-- the atoms of the part that is carried, if there is one
abbrev pub carried_store : Option LeasedPart → Store
carried_store None = bag.empty
carried_store (Some c) = c.part.now

-- the number of the part that is carried, if there is one
abbrev pub carried_number : Option LeasedPart → Option ℕ
carried_number None = None
carried_number (Some c) = Some c.number

-- the part that is carried, if there is one, is out under its number
abbrev pub IsOut : Leases → Option LeasedPart → Type 0
IsOut out None = ⊤
IsOut out (Some c) = map.get out c.number ≡ Some c.part.now

-- The program declares the operations, and its steps lead from their atoms, together with the carried part, to what was
-- rested.
pub record AreRestedBy (p : Program) (r : RestedOps) : Type 0 where
  pub declared : All (IsDeclared p) r.ops.now
  pub reached : Reaches (Step (rules_of p)) (carried_store r.carried ⊕ sum_of r.ops.now) r.rested.now

-- the number under which what was rested is leased out, if it is
abbrev pub lease_number : Placed → Option ℕ
lease_number placed.InPool = None
lease_number (placed.Leased k) = Some k

-- what was rested went where it was to go
abbrev pub IsPlaced : Destination → Placed → Type 0
IsPlaced destination.Pool placed.InPool = ⊤
IsPlaced destination.Lease (placed.Leased k) = ⊤
IsPlaced _ _ = ⊥

-- the replica s is told the operations, and is t after it; what was rested went to the place x
abbrev pub TellsThem : Program → RestedOps → Placed → Replica → Replica → Type 0
TellsThem p r x s t = TellsRested p s (carried_number r.carried) r.ops.now r.rested.now (lease_number x) t

-- there is no lease number for what is to be leased out
abbrev pub LacksNumber : Replica → Destination → Type 0
LacksNumber s destination.Pool = ⊥
LacksNumber s destination.Lease = LAST_LEASE < s.next

-- The operations can't be told: the carried part is not out, there is no lease number, not all of them are new, or they
-- tell too many atoms.
abbrev pub RefusesThem : Replica → RestedOps → Destination → Type 0
RefusesThem s r into =
    (¬ IsOut s.out r.carried) ⊎ LacksNumber s into ⊎ (¬ AreNew s.operations r.ops.now)
    ⊎ IsOverLimit s.operations r.ops.now
