use Rattle.std.proofs.Common.{◌≡◌, take}
use Rattle.chr_base.specs.Rules.{atoms_at}
use Rattle.chr_base.specs.Rules.{valued}
use Rattle.chr_base.proofs.rule.Rule.body_of.Given as goal

abbrev pub invariant-loop-pattern : goal.invariant-loop-pattern
invariant-loop-pattern l = l.body.items ≡ atoms_at (valued l.values.items) (take l.pattern-index l.pattern-items)
