-- What may be asked of a replica.
use Rattle.std.specs.Prelude.{◌≤◌, ⊤}
use Rattle.chr_base.specs.declared.limits.TheConstants.{MAX_PARTS}
use Rattle.chr_acts.specs.declared.act.Act.{Act}
use Rattle.chr_acts.specs.declared.act.Act.TheVariants as act

-- the number of parts that the act asks for, if any, is within the limit
abbrev pub FitsAct : Act → Type 0
FitsAct (act.TakeParts n) = (1 ≤ n) × (n ≤ MAX_PARTS)
FitsAct _ = ⊤

-- the act does not take the pool in parts
abbrev pub TakesNoParts : Act → Type 0
TakesNoParts (act.TakeParts n) = ⊥
TakesNoParts _ = ⊤
