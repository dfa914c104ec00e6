use Rattle.std.proofs.Common.{◌≡◌, take}
use Rattle.std.specs.FinMap as map
use Rattle.chr_base.specs.Stores.{store_of}
use Rattle.chr_ops.specs.declared.id.OpId.{OpId}
use Rattle.chr_ops.specs.Operations.{sum_of}
use Rattle.chr_ops.specs.Joins.{union, fresh}
use Rattle.chr_ops.specs.working.Joining.{is_held_or_seen}
use Rattle.chr_ops.proofs.fresh.noted_atoms.Given as goal

abbrev pub invariant-loop-op : goal.invariant-loop-op
invariant-loop-op l =
    let m = l.held in
    record {
      atoms : store_of l.atoms.items ≡ sum_of (fresh m (take l.op-index l.ops));
      known : (q : OpId) → map.contains_key (union m (take l.op-index l.ops)) q ≡ is_held_or_seen m l.seen q;
    }
