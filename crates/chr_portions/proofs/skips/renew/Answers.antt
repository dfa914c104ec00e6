use Rattle.std.proofs.Common.{length, arith}
use Rattle.chr_portions.proofs.Kept.{skips_set}
use Rattle.chr_portions.proofs.skips.renew.Goals as goal

pub skip_for-requires-clause-linked : goal.skip_for-requires-clause-linked
skip_for-requires-clause-linked c = λ b l. (let m = c.requires.block in c.requires.linked b (omega (arith, l, m)))

pub returns-then-has_dead-clause-linked : goal.returns-then-has_dead-clause-linked
returns-then-has_dead-clause-linked c =
    skips_set c.args.records.now c.args.skips.now (length c.args.skips.now) c.args.block c.skip_for.result
    c.requires.block c.requires.linked c.skip_for.ensures
