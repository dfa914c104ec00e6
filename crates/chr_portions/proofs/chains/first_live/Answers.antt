use Rattle.std.proofs.Common.{◌-◌, length, arith, ◌∙◌}
use Rattle.std.proofs.lemmas.List.{length-set}
use Rattle.chr_portions.proofs.Kept.{past_dead, heads_set}
use Rattle.chr_portions.proofs.chains.first_live.Goals as goal

pub loop-at-preserved : goal.loop-at-preserved
loop-at-preserved c =
    let i = c.loop-at.invariant in
    let some = c.loop-at-test.true in
    let w = i.newest.within in
    let s = c.requires.slot in
    let size = i.size in
    let newest = past_dead (length c.args.heads.now) c.args.records.now (length c.args.records.now) c.args.slot
    c.loop-at.at _ i.newest some c.if-met.false (c.requires.next (c.loop-at.at - 1) (omega (arith, some, w))) in
    record {
      size = length-set c.loop-at.heads c.args.slot _ ∙ size;
      heads = heads_set c.args.records.now c.loop-at.heads (length c.args.records.now) c.args.slot _
          (omega (arith, s, size)) i.heads (rw size newest);
      newest = newest;
    }
