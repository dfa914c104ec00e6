-- The listed cases of an overlap: one at each representative at which both guards hold.
use Rattle.std.specs.Prelude.{◌≡◌, ℕ, ◌≤◌, ℤ, Bool, true, List, ◌⊎◌, map, Some, slice_get}
use Rattle.chr_base.specs.declared.rule.Rule.{Rule}
use Rattle.chr_base.specs.Stores.{Store}
use Rattle.chr_base.specs.Rules.{Step, Valuation}
use Rattle.chr_base.specs.Rewriting.{AreJoinable}
use Rattle.chr_types.specs.OrderTypes.{In}
use Rattle.chr_base.specs.Values.{Each, args_in}
use Rattle.chr_confluence.specs.Cases.{IsCase, both_heads, case_store, side}
use Rattle.chr_confluence.specs.Unifiers.{Substitution, IsMostGeneralUnifier, HasNoUnifier}
use Rattle.chr_confluence.specs.Overlaps.{IsMatching, equations_of}
use Rattle.chr_confluence.specs.Representatives.{AreRepresentatives, left_at, right_at, guards_hold}
use Rattle.chr_confluence.specs.Rising.{KeepsOrder, FixesRule, rename, rename_atom}

-- the store of the case at these values, and what a step by each instance makes of it
abbrev pub listed_store : Substitution → Rule → Rule → List ℕ → List ℤ → Store
listed_store σ r1 r2 m zs = case_store r1 r2 m (left_at σ r1 r2 zs) (right_at σ r1 r2 zs)

abbrev pub left_side : Substitution → Rule → Rule → List ℕ → List ℤ → Store
left_side σ r1 r2 m zs = side r1 (left_at σ r1 r2 zs) (listed_store σ r1 r2 m zs)

abbrev pub right_side : Substitution → Rule → Rule → List ℕ → List ℤ → Store
right_side σ r1 r2 m zs = side r2 (right_at σ r1 r2 zs) (listed_store σ r1 r2 m zs)

abbrev pub ListedCaseIsJoinable : List Rule → Rule → Rule → List ℕ → Substitution → List ℤ → Type 0
ListedCaseIsJoinable rules r1 r2 m σ zs = AreJoinable (Step rules) (left_side σ r1 r2 m zs) (right_side σ r1 r2 m zs)

-- the overlap's equations have no unifier, or each listed case is joinable
abbrev pub OverlapIsJoinable : List Rule → Rule → Rule → List ℕ → Type 0
OverlapIsJoinable rules r1 r2 m =
    HasNoUnifier (equations_of r1 r2 m)
    ⊎ ((σ : Substitution) × (rs : List (List ℤ)) × IsMostGeneralUnifier σ (equations_of r1 r2 m)
    × AreRepresentatives rules r1 r2 σ rs
    × ((zs : List ℤ) → In zs rs → guards_hold σ r1 r2 zs ≡ true → ListedCaseIsJoinable rules r1 r2 m σ zs))

-- each overlap of the rules is joinable; each rule is overlapped with those from itself on
abbrev pub ListedAreJoinable : List Rule → Type 0
ListedAreJoinable rules =
    (i j : ℕ) (r1 r2 : Rule) → slice_get rules i ≡ Some r1 → slice_get rules j ≡ Some r2 → i ≤ j
    → (m : List ℕ) → IsMatching r1 r2 m → OverlapIsJoinable rules r1 r2 m

-- the case at v1 and v2 is made of the listed one at zs, by a map that keeps the order of its values and fixes the
-- rules' constants
pub record IsImageOfListed (rules : List Rule) (r1 r2 : Rule) (m : List ℕ) (σ : Substitution) (rs : List (List ℤ))
    (v1 v2 : Valuation) : Type 0 where
  pub zs : List ℤ
  pub listed : In zs rs
  pub guards : guards_hold σ r1 r2 zs ≡ true
  pub case : IsCase r1 r2 m (left_at σ r1 r2 zs) (right_at σ r1 r2 zs)
  pub values : ℤ → Bool
  pub there : Each (args_in values) (listed_store σ r1 r2 m zs)
  pub to : ℤ → ℤ
  pub keeps : KeepsOrder to values
  pub fixes : (i : ℕ) (r : Rule) → slice_get rules i ≡ Some r → FixesRule to values r
  pub left_heads : map (rename_atom to) (both_heads r1 (left_at σ r1 r2 zs)) ≡ both_heads r1 v1
  pub right_heads : map (rename_atom to) (both_heads r2 (right_at σ r1 r2 zs)) ≡ both_heads r2 v2
  pub store : rename to (listed_store σ r1 r2 m zs) ≡ case_store r1 r2 m v1 v2
  pub left : rename to (left_side σ r1 r2 m zs) ≡ side r1 v1 (case_store r1 r2 m v1 v2)
  pub right : rename to (right_side σ r1 r2 m zs) ≡ side r2 v2 (case_store r1 r2 m v1 v2)
