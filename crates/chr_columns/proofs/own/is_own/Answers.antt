use Rattle.chr_columns.proofs.own.is_own.Goals as goal
use Rattle.std.proofs.Common.{length, refl}
use Rattle.std.proofs.lemmas.Option.{slice_get_read}

pub returns-then-is_same : goal.returns-then-is_same
returns-then-is_same c = (
  c.loop-own.own-index,
  c.own-item.result,
  slice_get_read c.args.rules.now (length c.args.rules.now) c.loop-own.own-index c.own-item.result refl
      c.loop-own-test.true c.own-item.is,
  c.is_same.ensures.0 c.if-is_same.true,
)
