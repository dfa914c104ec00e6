-- Rules which, applied together, give back at least what they take. Of a Petri net, whose places are the symbols and
-- whose transitions are the rules, this is a repetitive vector (Murata 1989).
use Rattle.std.specs.Prelude.{◌≡◌, ◌<◌, ◌≤◌, ◌+◌, ◌*◌, ℕ, nat_eq, List, [], ◌∷◌, length, sum, count_by}
use Rattle.chr_base.specs.declared.term.Pattern.{Pattern}
use Rattle.chr_base.specs.declared.rule.Rule.{Rule}
use Rattle.chr_base.specs.declared.program.Program.{Program}
use Rattle.chr_base.specs.Programs.{declarations, rules_of}
use Rattle.chr_weighing.specs.declared.cycle.Side.{Side}
use Rattle.chr_weighing.specs.declared.cycle.Side.TheVariants.{Removed, Body}

-- the removed heads of the rule, or its body
abbrev pub side_of : Side → Rule → List Pattern
side_of Removed r = r.removed.items
side_of Body r = r.body.items

-- how often the symbol stands among the patterns
abbrev pub count_of : ℕ → List Pattern → ℕ
count_of s ps = count_by (λ p. nat_eq p.symbol.0 s) ps

-- how often the symbol stands on that side of the rules, each rule taken its number of times
abbrev pub total_of : Side → ℕ → List Rule → List ℕ → ℕ
total_of side s [] times = 0
total_of side s (r ∷ rs) [] = 0
total_of side s (r ∷ rs) (n ∷ times) = n * count_of s (side_of side r) + total_of side s rs times

-- each rule has a number of times, not all are 0, and rules that are applied that often give back of each symbol at
-- least as many atoms as they take
pub record IsCycle (p : Program) (times : List ℕ) : Type 0 where
  pub each : length times ≡ length (rules_of p)
  pub some : 0 < sum times
  pub back : (s : ℕ) → s < length (declarations p)
      → total_of Removed s (rules_of p) times ≤ total_of Body s (rules_of p) times
