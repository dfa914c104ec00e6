-- Two rules' heads made one at matched places.
use Rattle.std.specs.Prelude.{◌≡◌, ◌+◌, ◌++◌, length, map}
use Rattle.chr_base.specs.declared.rule.Rule.{Rule}
use Rattle.chr_base.specs.Rules.{heads_of}
use Rattle.chr_confluence.specs.Unifiers.{Substitution}
use Rattle.chr_confluence.specs.Overlaps.{variables_of}
use Rattle.chr_confluence.specs.Representatives.{free_variables}
use Rattle.chr_overlaps.specs.declared.unify.Unified.{Unified}
use Rattle.chr_overlaps.specs.working.Tables.{class_in, class_pattern, class_comparison}

-- the classes of the joint variables
abbrev pub classes_of : Unified → Substitution
classes_of u = class_in u.classes.terms.items

-- the heads and guards of both rules with each term's class, the classes that are bound to no constant, and an entry
-- for
-- each variable
pub record IsUnified (r1 r2 : Rule) (u : Unified) : Type 0 where
  pub first : u.first.items ≡ map (class_pattern (classes_of u) 0) (heads_of r1)
  pub second : u.second.items ≡ map (class_pattern (classes_of u) (variables_of r1)) (heads_of r2)
  pub guards : u.guards.items ≡ map (class_comparison (classes_of u) 0) r1.guard.items
      ++ map (class_comparison (classes_of u) (variables_of r1)) r2.guard.items
  pub free : u.free.items ≡ free_variables (classes_of u) r1 r2
  pub table : length u.classes.terms.items ≡ variables_of r1 + variables_of r2 + 1
