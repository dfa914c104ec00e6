use Rattle.std.proofs.Common.{List}
use Rattle.chr_base.specs.declared.rule.Rule.{Rule}
use Rattle.chr_join.specs.working.Ends.{AreEnds}
use Rattle.chr_join.proofs.ends.Ends.keep.Given as goal

abbrev pub invariant-loop : goal.invariant-loop
invariant-loop l = (rules : List Rule) → AreEnds rules l.initial.self.entries.items → AreEnds rules l.self.entries.items
