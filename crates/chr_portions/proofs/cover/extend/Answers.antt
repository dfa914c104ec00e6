use Rattle.std.proofs.Common.{◌≡◌, ◌+◌, [], ◌∷◌, ◌++◌, length, arith, length-append}
use Rattle.chr_portions.proofs.Kept.{skips_more}
use Rattle.chr_portions.proofs.cover.extend.Goals as goal

pub loop-block-preserved : goal.loop-block-preserved
loop-block-preserved c =
    let i = c.loop-block.invariant in
    let s = i.size in
    let x = c.skip_for-skip.result in
    let longer : length (c.loop-block.skips.items ++ x ∷ []) ≡ length c.loop-block.skips.items + 1 =
    length-append c.loop-block.skips.items (x ∷ []) in
    rw c.in_ok-push.ensures.items (record {
      size = omega (arith, longer, s);
      linked = skips_more c.args.records.now c.loop-block.skips.items c.loop-block.block x i.size i.linked
          c.skip_for-skip.ensures;
    })
