-- Operations that join a set together, and leases from which a part is taken off.
use Rattle.std.specs.Prelude.{◌≡◌, ◌⊎◌, ◌≤◌, List, Option, Some, None}
use Rattle.std.specs.FinMap as map
use Rattle.chr_ops.specs.declared.limits.TheConstants.{MAX_TOLD}
use Rattle.chr_ops.specs.Joins.{union, AreNew, IsOverLimit}
use Rattle.chr_ops.specs.Operations.{Operation, Operations, told_atoms}
use Rattle.chr_replica.specs.declared.rested.LeasedPart.{LeasedPart}
use Rattle.chr_replica.specs.Leases.{Leases}

-- the operations are all new to the set m, with them it is n, and n is within the limit
pub record JoinsNew (m : Operations) (ops : List Operation) (n : Operations) : Type 0 where
  pub new : AreNew m ops
  pub joined : n ≡ union m ops
  pub few : told_atoms n ≤ MAX_TOLD

-- not all of them are new, or the set would be over the limit
abbrev pub MayNotJoin : Operations → List Operation → Type 0
MayNotJoin m ops = (¬ AreNew m ops) ⊎ IsOverLimit m ops

-- the leases without the carried part, if there is one
abbrev pub left_out : Leases → Option LeasedPart → Leases
left_out out None = out
left_out out (Some c) = map.remove out c.number
