use Rattle.std.proofs.Common.{ap, sym, ◌∙◌}
use Rattle.std.specs.Ordering.{is_gt}
use Rattle.chr_base.specs.Programs.{declarations}
use Rattle.chr_base.proofs.InRuns.{alike_order}
use Rattle.chr_base.proofs.text.is_printed_after.Goals as goal

pub returns-then-are_alike : goal.returns-then-are_alike
returns-then-are_alike c =
    c.is_after.ensures
    ∙ sym (ap is_gt (alike_order (declarations c.args.program.now) c.args.left.now c.args.right.now
    (sym c.are_alike.ensures ∙ c.if-are_alike.true)))
