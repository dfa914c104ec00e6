-- When two rules, and two programs, are the same.
use Rattle.std.specs.Prelude.{◌≡◌, ℕ, List, Option, option_map, map}
use Rattle.chr_base.specs.declared.term.Comparison.{Comparison}
use Rattle.chr_base.specs.declared.term.Pattern.{Pattern}
use Rattle.chr_base.specs.declared.rule.Rule.{Rule}
use Rattle.chr_base.specs.declared.program.Program.{Program}
use Rattle.chr_base.specs.Programs.{declarations, rules_of}

-- what a rule says: the bytes of its name, where it has one, its heads, guard and body
pub record Parts : Type 0 where
  pub name : Option (List ℕ)
  pub kept : List Pattern
  pub removed : List Pattern
  pub guard : List Comparison
  pub body : List Pattern

abbrev pub parts_of : Rule → Parts
parts_of r = record {
  name = option_map (λ n. n.bytes) r.name;
  kept = r.kept.items;
  removed = r.removed.items;
  guard = r.guard.items;
  body = r.body.items;
}

-- two programs have the same declarations and the same rules, each in the same order
abbrev pub AreSame : Program → Program → Type 0
AreSame p q = (declarations p ≡ declarations q) × (map parts_of (rules_of p) ≡ map parts_of (rules_of q))
