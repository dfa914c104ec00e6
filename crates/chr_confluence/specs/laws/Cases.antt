-- What the law of confluence by cases says.
use Rattle.std.specs.Prelude.{◌≡◌, ℕ, List, Some, slice_get}
use Rattle.chr_base.specs.declared.atom.Atom.{Atom}
use Rattle.chr_base.specs.declared.rule.Rule.{Rule}
use Rattle.chr_base.specs.Stores.{Store}
use Rattle.chr_base.specs.Rules.{Step, Valuation}
use Rattle.chr_base.specs.Rewriting.{IsLocallyConfluent, IsNormalForm, Stays}
use Rattle.chr_base.specs.Values.{is_value, args_in, HasValues}
use Rattle.chr_confluence.specs.Cases.{side, IsCase, case_store, CasesAreJoinable}
use Rattle.chr_confluence.specs.Confluence.{Confluent}
use Rattle.chr_confluence.specs.Lowering.{RulesLower}
use Rattle.std.specs.Prelude.{◌≢◌}

-- steps keep 64-bit values, since the constants of rules are 64-bit values
abbrev pub StepsKeepValues : Type 0
StepsKeepValues = (rules : List Rule) → Stays (Step rules) HasValues

-- rules that lower a weight are confluent where the ends of any two steps from one store of 64-bit values are joinable
abbrev pub LocallyConfluentAreConfluent : Type 0
LocallyConfluentAreConfluent =
    (rules : List Rule) (w : Atom → ℕ) → RulesLower w rules
    → IsLocallyConfluent (Step rules) HasValues → Confluent rules

-- where the sides of each case are joinable, the ends of any two steps from one store are
abbrev pub CasesMakeLocallyConfluent : Type 0
CasesMakeLocallyConfluent =
    (rules : List Rule) → CasesAreJoinable (args_in is_value) rules → IsLocallyConfluent (Step rules) HasValues

abbrev pub CasesMakeConfluent : Type 0
CasesMakeConfluent =
    (rules : List Rule) (w : Atom → ℕ) → RulesLower w rules → CasesAreJoinable (args_in is_value) rules
    → Confluent rules

-- two normal forms that differ, of the ends of two steps from one store of 64-bit values, refute confluence
abbrev pub DifferentEndsRefute : Type 0
DifferentEndsRefute =
    (rules : List Rule) (s t u a b : Store) → HasValues s → Step rules s t → Step rules s u
    → IsNormalForm (Step rules) t a → IsNormalForm (Step rules) u b → a ≢ b → ¬ Confluent rules

-- a case of 64-bit values whose sides have normal forms that differ refutes confluence
abbrev pub FailingCaseRefutes : Type 0
FailingCaseRefutes =
    (rules : List Rule) (i j : ℕ) (r1 r2 : Rule) (m : List ℕ) (v1 v2 : Valuation) (a b : Store)
    → slice_get rules i ≡ Some r1 → slice_get rules j ≡ Some r2 → IsCase r1 r2 m v1 v2
    → HasValues (case_store r1 r2 m v1 v2)
    → IsNormalForm (Step rules) (side r1 v1 (case_store r1 r2 m v1 v2)) a
    → IsNormalForm (Step rules) (side r2 v2 (case_store r1 r2 m v1 v2)) b → a ≢ b → ¬ Confluent rules
