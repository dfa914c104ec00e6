use Rattle.std.proofs.Common.{◌≡◌, map, take}
use Rattle.chr_base.specs.Rules.{term_value}
use Rattle.chr_confluence.specs.Representatives.{assignment}
use Rattle.chr_overlaps.proofs.instances.instance.Given as goal

abbrev pub invariant-loop-term : goal.invariant-loop-term
invariant-loop-term l = l.args.items ≡ map (term_value (assignment l.classes l.values)) (take l.term-index l.term-items)
