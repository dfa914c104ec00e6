use Rattle.std.proofs.Common.{◌≡◌, ℕ, ◌+◌, ◌-◌, ◌^◌, ◌<◌, take, min, vec_len}
use Rattle.std.specs.FinMap as map
use Rattle.chr_base.specs.Stores.{size}
use Rattle.chr_ops.specs.declared.id.OpId.{OpId}
use Rattle.chr_ops.specs.Operations.{Operations, told_store}
use Rattle.chr_ops.specs.working.Kept.{AreOperationBags}
use Rattle.chr_ops.specs.Joins.{union, ClashesAt}
use Rattle.chr_ops.specs.working.Joining.{AddsIds, IsWithout}
use Rattle.chr_ops.proofs.joining.take_all_in.Given as goal

abbrev pub invariant-loop-op : goal.invariant-loop-op
invariant-loop-op l =
    let before = l.fn.held in
    let now = l.held in
    record {
      taken : now ≡ union before (take l.op-index l.ops);
      told : l.told ≡ min (size (told_store now)) (2 ^ 64 - 1);
      count : map.len now + vec_len l.fn.fresh ≡ map.len before + vec_len l.fresh;
      no_clash : (j : ℕ) (id : OpId) → j < l.op-index → ¬ (ClashesAt before l.ops j id);
      sized : AreOperationBags before → AreOperationBags now;
      ids : (m : Operations) → AddsIds m l.fn.fresh.items before → AddsIds m l.fresh.items now;
      back : (m : Operations) → IsWithout m l.fn.fresh.items before → IsWithout m l.fresh.items now;
    }
