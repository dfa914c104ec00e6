use Rattle.std.proofs.Common.{◌≡◌, take}
use Rattle.chr_base.proofs.atom.Atom.set.Given as goal

abbrev pub invariant-loop-value : goal.invariant-loop-value
invariant-loop-value l = (l.self.symbol ≡ l.fn.symbol) × (l.self.args.items ≡ take l.value-index l.values)
