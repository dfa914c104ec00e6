use Rattle.std.proofs.Common.{All, take}
use Rattle.chr_replica.specs.Replicas.{IsDeclared}
use Rattle.chr_replica.proofs.declared.declares_all.Given as goal

abbrev pub invariant-loop-op : goal.invariant-loop-op
invariant-loop-op l = All (IsDeclared l.program) (take l.op-index l.ops)
