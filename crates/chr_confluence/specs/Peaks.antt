-- What two steps from one store can be to each other.
use Rattle.std.specs.Prelude.{ℕ, List}
use Rattle.chr_base.specs.declared.rule.Rule.{Rule}
use Rattle.chr_base.specs.FinBag.{IsWithin}
use Rattle.chr_base.specs.Stores.{Store}
use Rattle.chr_base.specs.Rules.{StepBy, Valuation}
use Rattle.chr_confluence.specs.Cases.{IsCase, case_store}

-- each instance is still a step after the other, and both ways end in one store
abbrev pub Commute : Rule → Rule → Valuation → Valuation → Store → Store → Type 0
Commute r1 r2 v1 v2 t u = (w : Store) × StepBy r2 v2 t w × StepBy r1 v1 u w

-- some matching makes a case of the two instances whose store is within s
abbrev pub HoldsCase : Rule → Rule → Valuation → Valuation → Store → Type 0
HoldsCase r1 r2 v1 v2 s = (m : List ℕ) × IsCase r1 r2 m v1 v2 × IsWithin (case_store r1 r2 m v1 v2) s
