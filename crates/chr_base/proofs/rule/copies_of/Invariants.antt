use Rattle.std.proofs.Common.{◌≡◌, take}
use Rattle.chr_base.proofs.rule.copies_of.Given as goal

abbrev pub invariant-loop-pattern : goal.invariant-loop-pattern
invariant-loop-pattern g l = l.copies.items ≡ take l.pattern-index l.pattern-items
