-- What a call for one step tells.
use Rattle.std.specs.Prelude.{◌≡◌, List, Bool, true, false}
use Rattle.chr_base.specs.declared.rule.Rule.{Rule}
use Rattle.chr_base.specs.Rewriting.{IsAtRest}
use Rattle.chr_base.specs.Rules.{Step}
use Rattle.chr_base.specs.Stores.{Store}

-- one step of the rules was taken; or none, since there is none, and the store stays
abbrev pub StepsOrStays : List Rule → Store → Store → Bool → Type 0
StepsOrStays rules s t true = Step rules s t
StepsOrStays rules s t false = (t ≡ s) × IsAtRest (Step rules) s
