-- What sets come to when they exchange what they lack.
use Rattle.std.specs.Prelude.{◌≡◌, List, Some, None, if◌then◌else◌}
use Rattle.std.specs.FinMap as map
use Rattle.std.specs.FinMap.{find}
use Rattle.chr_base.specs.Stores.{Store}
use Rattle.chr_ops.specs.declared.id.OpId.{OpId}
use Rattle.chr_ops.specs.declared.range.IdRange.{IdRange}
use Rattle.chr_ops.specs.Ids.{id_cmp}
use Rattle.chr_ops.specs.Operations.{Operations}
use Rattle.chr_ops.specs.Joins.{union, HasNoClash}
use Rattle.chr_ops.specs.Summaries.{CoversJust, lacking}

-- no id stands for two bags in two sets
abbrev pub HaveOneBag : Operations → Operations → Type 0
HaveOneBag m n = (id : OpId) (s t : Store) → map.get m id ≡ Some s → map.get n id ≡ Some t → s ≡ t

-- what a set n holds beyond a summary of a set m is what n holds and m does not
abbrev pub LackedLaw : Type 0
LackedLaw = (m n : Operations) (summary : List IdRange) → CoversJust summary m
    → (id : OpId) → find id_cmp id (lacking n summary) ≡ (if map.contains_key m id then None else map.get n id)

-- none of what a set m lacks of n has an id that stands for another bag in m
abbrev pub NoClashLaw : Type 0
NoClashLaw = (m n : Operations) (summary : List IdRange) → CoversJust summary m → HasNoClash m (lacking n summary)

-- a set m with what it lacks of n is the union of both
abbrev pub ExchangeLaw : Type 0
ExchangeLaw = (m n : Operations) (summary : List IdRange) → CoversJust summary m
    → union m (lacking n summary) ≡ union m (map.entries n)

-- the union of two sets is one, whichever of them is joined to the other
abbrev pub OneUnionLaw : Type 0
OneUnionLaw = (m n : Operations) → HaveOneBag m n → union m (map.entries n) ≡ union n (map.entries m)
