-- Confluence in the usual sense.
use Rattle.std.specs.Prelude.{ℕ, List}
use Rattle.chr_base.specs.declared.atom.Atom.{Atom}
use Rattle.chr_base.specs.declared.rule.Rule.{Rule}
use Rattle.chr_base.specs.Stores.{Store}
use Rattle.chr_base.specs.Rules.{Step}
use Rattle.chr_base.specs.Rewriting.{Reaches, AreJoinable}
use Rattle.chr_base.specs.Values.{HasValues}
use Rattle.chr_confluence.specs.Confluence.{Confluent}
use Rattle.chr_confluence.specs.Lowering.{RulesLower}

-- any two stores that one store of 64-bit values reaches are joinable
abbrev pub ReachedAreJoinable : List Rule → Type 0
ReachedAreJoinable rules =
    (s t u : Store) → HasValues s → Reaches (Step rules) s t → Reaches (Step rules) s u → AreJoinable (Step rules) t u

-- where rules that lower a weight give each store one normal form, the stores that it reaches are joinable
abbrev pub ConfluentAreJoinable : Type 0
ConfluentAreJoinable =
    (rules : List Rule) (w : Atom → ℕ) → RulesLower w rules → Confluent rules → ReachedAreJoinable rules

-- where the stores that one store reaches are joinable, it has one normal form, whether the rules lower a weight or not
abbrev pub JoinableAreConfluent : Type 0
JoinableAreConfluent = (rules : List Rule) → ReachedAreJoinable rules → Confluent rules
