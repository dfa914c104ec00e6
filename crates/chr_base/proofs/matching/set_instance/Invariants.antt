use Rattle.std.proofs.Common.{◌≡◌, take, map}
use Rattle.chr_base.specs.Rules.{term_value}
use Rattle.chr_base.specs.Rules.{valued}
use Rattle.chr_base.proofs.matching.set_instance.Given as goal

abbrev pub invariant-loop-term : goal.invariant-loop-term
invariant-loop-term l = (l.atom.symbol ≡ l.pattern.symbol)
    × (l.atom.args.items ≡ map (term_value (valued l.values)) (take l.term-index l.term-items))
