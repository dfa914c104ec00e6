use Rattle.std.proofs.Common.{◌-◌, arith}
use Rattle.chr_portions.specs.working.Skips.{skip_at}
use Rattle.chr_portions.proofs.Trees.{node}
use Rattle.chr_portions.proofs.skips.skip_for.Goals as goal

pub returns-then-left-right : goal.returns-then-left-right
returns-then-left-right c =
    let some = c.if-block-gt0.true in
    let more = c.if-left-gt0.true in
    let left = skip_at c.args.skips.now (c.args.block - 1) in
    let right = skip_at c.args.skips.now (left.jump - 1) in
    let a = c.requires.linked (c.args.block - 1) (omega (arith, some)) in
    let jump = a.jump in
    let b = c.requires.linked (left.jump - 1) (omega (arith, some, more, jump)) in
    let last = b.jump in record {
      jump = omega (arith, some, more, jump, last);
      own = c.own_hull-own.ensures;
      all = node c.args.records.now c.args.block c.own_hull-own.result c.with-then-left-right.result left right some
          more a b c.own_hull-own.ensures
          (λ r i. c.with-then-left-right.ensures.left r (c.with.ensures.left r i))
          (λ r i. c.with-then-left-right.ensures.left r (c.with.ensures.right r i))
          c.with-then-left-right.ensures.right;
    }
