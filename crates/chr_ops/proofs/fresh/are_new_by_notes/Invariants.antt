use Rattle.std.proofs.Common.{◌≡◌, take}
use Rattle.std.specs.FinMap as map
use Rattle.chr_ops.specs.declared.id.OpId.{OpId}
use Rattle.chr_ops.specs.Joins.{union, AreNew}
use Rattle.chr_ops.specs.working.Joining.{is_held_or_seen}
use Rattle.chr_ops.proofs.fresh.are_new_by_notes.Given as goal

abbrev pub invariant-loop-op : goal.invariant-loop-op
invariant-loop-op l =
    let m = l.held in
    record {
      new : AreNew m (take l.op-index l.ops);
      known : (q : OpId) → map.contains_key (union m (take l.op-index l.ops)) q ≡ is_held_or_seen m l.seen q;
    }
