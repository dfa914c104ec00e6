-- Overlaps whose matched heads are made one.
use Rattle.std.specs.Prelude.{◌≡◌, ◌-◌, List, Some, slice_get}
use Rattle.chr_base.specs.declared.rule.Rule.{Rule}
use Rattle.chr_confluence.specs.Unifiers.{IsMostGeneralUnifier, HasNoUnifier}
use Rattle.chr_confluence.specs.Overlaps.{equations_of}
use Rattle.chr_confluence.specs.SortedCases.{all_equations}
use Rattle.chr_overlaps.specs.declared.overlap.Overlap.{Overlap}
use Rattle.chr_overlaps.specs.declared.unify.Unified.{Unified}
use Rattle.chr_overlaps.specs.working.Unifiers.{classes_of, IsUnified}

-- these are the two rules of the overlap
abbrev pub AreRulesOf : List Rule → Overlap → Rule → Rule → Type 0
AreRulesOf rules o r1 r2 = (slice_get rules (o.first - 1) ≡ Some r1) × (slice_get rules (o.second - 1) ≡ Some r2)

-- the classes of u are the most general unifier of the overlap's equations, and its heads and guards are in them
pub record IsUnifiedAt (rules : List Rule) (o : Overlap) (u : Unified) : Type 0 where
  pub rule1 : Rule
  pub rule2 : Rule
  pub are_rules : AreRulesOf rules o rule1 rule2
  pub solves : IsMostGeneralUnifier (classes_of u) (equations_of rule1 rule2 o.matching.items)
  pub unified : IsUnified rule1 rule2 u

-- the classes of u are the most general unifier of the overlap's equations and of those of both guards, and its heads
-- and guards are in them
pub record IsSortedUnifiedAt (rules : List Rule) (o : Overlap) (u : Unified) : Type 0 where
  pub rule1 : Rule
  pub rule2 : Rule
  pub are_rules : AreRulesOf rules o rule1 rule2
  pub solves : IsMostGeneralUnifier (classes_of u) (all_equations rule1 rule2 o.matching.items)
  pub unified : IsUnified rule1 rule2 u

-- the overlap's equations, with those of both guards, have no unifier
pub record HasNoSortedUnifier (rules : List Rule) (o : Overlap) : Type 0 where
  pub rule1 : Rule
  pub rule2 : Rule
  pub are_rules : AreRulesOf rules o rule1 rule2
  pub none : HasNoUnifier (all_equations rule1 rule2 o.matching.items)

-- the heads, guards and free classes of u are those of the overlap's rules, in its classes
pub record HasUnified (rules : List Rule) (o : Overlap) (u : Unified) : Type 0 where
  pub rule1 : Rule
  pub rule2 : Rule
  pub are_rules : AreRulesOf rules o rule1 rule2
  pub unified : IsUnified rule1 rule2 u
