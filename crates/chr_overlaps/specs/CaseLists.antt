-- The list of all cases of an overlap.
use Rattle.std.specs.Prelude.{◌≡◌, ℕ, ℤ, ◌-◌, ◌≤◌, ◌⊎◌, List, [], map, length, Some, slice_get}
use Rattle.std.specs.List.{filter}
use Rattle.chr_base.specs.declared.rule.Rule.{Rule}
use Rattle.chr_base.specs.Rules.{heads_at}
use Rattle.chr_types.specs.OrderTypes.{MoreTypesThan}
use Rattle.chr_confluence.specs.Unifiers.{Substitution, IsMostGeneralUnifier, HasNoUnifier}
use Rattle.chr_confluence.specs.Cases.{case_store}
use Rattle.chr_confluence.specs.Overlaps.{equations_of}
use Rattle.chr_confluence.specs.Constants.{AreConstants}
use Rattle.chr_confluence.specs.Representatives.{AreRepresentatives, free_variables, left_at, right_at, guards_hold}
use Rattle.chr_overlaps.specs.declared.overlap.Overlap.{Overlap}
use Rattle.chr_overlaps.specs.declared.cases.Case.{Case}
use Rattle.chr_overlaps.specs.declared.cases.TheConstants.{MAX_TYPES}

-- The case at a representative. Its store has the heads of both instances, the matched ones once: the critical ancestor
-- state of a critical pair, to which the two steps lead.
abbrev pub case_at : Overlap → Rule → Rule → Substitution → List ℤ → Case
case_at o r1 r2 σ zs = record {
  store = case_store r1 r2 o.matching.items (left_at σ r1 r2 zs) (right_at σ r1 r2 zs);
  left = record { rule = o.first; heads = record { items = heads_at (left_at σ r1 r2 zs) r1 } };
  right = record { rule = o.second; heads = record { items = heads_at (right_at σ r1 r2 zs) r2 } };
}

-- under a most general unifier of the matched heads: the cases at the representatives at which both guards hold, in
-- order
pub record AreListed (rules : List Rule) (o : Overlap) (r1 r2 : Rule) (cs : List Case) : Type 0 where
  pub classes : Substitution
  pub representatives : List (List ℤ)
  pub solves : IsMostGeneralUnifier classes (equations_of r1 r2 o.matching.items)
  pub types : AreRepresentatives rules r1 r2 classes representatives
  pub within : length representatives ≤ MAX_TYPES
  pub cases_are : cs ≡ map (case_at o r1 r2 classes) (filter (guards_hold classes r1 r2) representatives)

-- the cases of the overlap: none where the matched heads have no unifier, and else those at its representatives
pub record AreCases (rules : List Rule) (o : Overlap) (cs : List Case) : Type 0 where
  pub rule1 : Rule
  pub rule2 : Rule
  pub first : slice_get rules (o.first - 1) ≡ Some rule1
  pub second : slice_get rules (o.second - 1) ≡ Some rule2
  pub listed : (HasNoUnifier (equations_of rule1 rule2 o.matching.items) × (cs ≡ [])) ⊎ AreListed rules o rule1 rule2 cs

-- under a most general unifier of the matched heads: n classes are bound to no constant, and these have too many order
-- types
pub record IsTooMany (rules : List Rule) (o : Overlap) (n : ℕ) : Type 0 where
  pub rule1 : Rule
  pub rule2 : Rule
  pub first : slice_get rules (o.first - 1) ≡ Some rule1
  pub second : slice_get rules (o.second - 1) ≡ Some rule2
  pub classes : Substitution
  pub solves : IsMostGeneralUnifier classes (equations_of rule1 rule2 o.matching.items)
  pub number : n ≡ length (free_variables classes rule1 rule2)
  pub constants : List ℤ
  pub are_constants : AreConstants rules constants
  pub more : MoreTypesThan MAX_TYPES n constants
