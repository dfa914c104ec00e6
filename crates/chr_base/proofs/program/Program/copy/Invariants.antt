use Rattle.std.proofs.Common.{◌≡◌, take}
use Rattle.chr_base.proofs.program.Program.copy.Given as goal

abbrev pub invariant-loop-rule : goal.invariant-loop-rule
invariant-loop-rule l = l.rules.items ≡ take l.rule-index l.rule-items
