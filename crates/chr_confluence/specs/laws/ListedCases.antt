-- What the laws of listed cases say.
use Rattle.std.specs.Prelude.{◌≡◌, ℕ, ℤ, true, List, Some, slice_get}
use Rattle.chr_base.specs.declared.atom.Atom.{Atom}
use Rattle.chr_base.specs.declared.rule.Rule.{Rule}
use Rattle.chr_base.specs.Stores.{Store}
use Rattle.chr_base.specs.Rules.{Step, Valuation}
use Rattle.chr_base.specs.Rewriting.{IsNormalForm}
use Rattle.chr_types.specs.OrderTypes.{In}
use Rattle.chr_base.specs.Values.{Each, HasValues, args_in, is_value}
use Rattle.chr_confluence.specs.Cases.{IsCase, case_store, CasesAreJoinable}
use Rattle.chr_confluence.specs.Confluence.{Confluent}
use Rattle.chr_confluence.specs.Unifiers.{Substitution, IsMostGeneralUnifier}
use Rattle.chr_confluence.specs.Overlaps.{IsMatching, equations_of}
use Rattle.chr_confluence.specs.Representatives.{AreRepresentatives, left_at, right_at, guards_hold}
use Rattle.chr_confluence.specs.Lowering.{RulesLower}
use Rattle.chr_confluence.specs.Listed.{ListedAreJoinable, IsImageOfListed, listed_store, left_side, right_side}
use Rattle.std.specs.Prelude.{◌≢◌}

-- where the listed cases are joinable, every case of 64-bit values is
abbrev pub ListedSuffice : Type 0
ListedSuffice = (rules : List Rule) → ListedAreJoinable rules → CasesAreJoinable (args_in is_value) rules

-- every case of 64-bit values is the image of a listed one
abbrev pub EveryCaseIsListed : Type 0
EveryCaseIsListed =
    (rules : List Rule) (i j : ℕ) (r1 r2 : Rule) → slice_get rules i ≡ Some r1 → slice_get rules j ≡ Some r2
    → (m : List ℕ) (v1 v2 : Valuation) → IsCase r1 r2 m v1 v2
    → Each (args_in is_value) (case_store r1 r2 m v1 v2)
    → (σ : Substitution) (rs : List (List ℤ)) → IsMostGeneralUnifier σ (equations_of r1 r2 m)
    → AreRepresentatives rules r1 r2 σ rs → IsImageOfListed rules r1 r2 m σ rs v1 v2

-- what is listed is a case
abbrev pub ListedAreCases : Type 0
ListedAreCases =
    (r1 r2 : Rule) (m : List ℕ) → IsMatching r1 r2 m
    → (σ : Substitution) → IsMostGeneralUnifier σ (equations_of r1 r2 m)
    → (zs : List ℤ) → guards_hold σ r1 r2 zs ≡ true → IsCase r1 r2 m (left_at σ r1 r2 zs) (right_at σ r1 r2 zs)

-- the values of a listed case are 64-bit values
abbrev pub ListedHaveValues : Type 0
ListedHaveValues =
    (rules : List Rule) (i j : ℕ) (r1 r2 : Rule) → slice_get rules i ≡ Some r1 → slice_get rules j ≡ Some r2
    → (m : List ℕ) (σ : Substitution) (rs : List (List ℤ)) → IsMostGeneralUnifier σ (equations_of r1 r2 m)
    → AreRepresentatives rules r1 r2 σ rs → (zs : List ℤ) → In zs rs → HasValues (listed_store σ r1 r2 m zs)

-- rules that lower a weight are confluent where the listed cases are joinable
abbrev pub ListedMakeConfluent : Type 0
ListedMakeConfluent =
    (rules : List Rule) (w : Atom → ℕ) → RulesLower w rules → ListedAreJoinable rules → Confluent rules

-- a listed case whose sides have normal forms that differ refutes confluence
abbrev pub FailingListedRefutes : Type 0
FailingListedRefutes =
    (rules : List Rule) (i j : ℕ) (r1 r2 : Rule) → slice_get rules i ≡ Some r1 → slice_get rules j ≡ Some r2
    → (m : List ℕ) → IsMatching r1 r2 m
    → (σ : Substitution) (rs : List (List ℤ)) → IsMostGeneralUnifier σ (equations_of r1 r2 m)
    → AreRepresentatives rules r1 r2 σ rs → (zs : List ℤ) → In zs rs → guards_hold σ r1 r2 zs ≡ true
    → (a b : Store) → IsNormalForm (Step rules) (left_side σ r1 r2 m zs) a
    → IsNormalForm (Step rules) (right_side σ r1 r2 m zs) b → a ≢ b → ¬ Confluent rules
