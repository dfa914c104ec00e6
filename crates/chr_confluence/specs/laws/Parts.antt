-- What the law of parts says.
use Rattle.std.specs.Prelude.{◌≡◌, List}
use Rattle.chr_base.specs.declared.rule.Rule.{Rule}
use Rattle.chr_base.specs.FinBag as bag
use Rattle.chr_base.specs.FinBag.{◌⊕◌}
use Rattle.chr_base.specs.Stores.{Store}
use Rattle.chr_base.specs.Rules.{Step}
use Rattle.chr_base.specs.Rewriting.{IsNormalForm, sum_of, AreNormalForms}
use Rattle.chr_base.specs.Values.{HasValues}
use Rattle.chr_confluence.specs.Confluence.{Confluent}

-- the sum of stores
abbrev pub whole : List Rule → List Store → Store
whole rules ss = sum_of (Step rules) bag.empty ◌⊕◌ ss

-- each of ts is a normal form of the one of ss in its place
abbrev pub AreRested : List Rule → List Store → List Store → Type 0
AreRested rules ss ts = AreNormalForms (Step rules) bag.empty ◌⊕◌ ss ts

-- a normal form of the sum of the rested parts is one of the whole
abbrev pub PartsReach : Type 0
PartsReach =
    (rules : List Rule) (ss ts : List Store) (t : Store) → AreRested rules ss ts
    → IsNormalForm (Step rules) (whole rules ts) t → IsNormalForm (Step rules) (whole rules ss) t

-- for confluent rules a normal form of the sum of the rested parts is the only one of the whole
abbrev pub PartsDetermine : Type 0
PartsDetermine =
    (rules : List Rule) (ss ts : List Store) (t u : Store) → Confluent rules → HasValues (whole rules ss)
    → AreRested rules ss ts → IsNormalForm (Step rules) (whole rules ts) t
    → IsNormalForm (Step rules) (whole rules ss) u → t ≡ u
