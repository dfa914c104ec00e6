use Rattle.std.proofs.Common.{◌∙◌, ap, arith, length}
use Rattle.chr_base.specs.Programs.{rules_of}
use Rattle.chr_join.proofs.accepting.check_joint.Goals as goal

pub count_joint-requires-after_bounds : goal.count_joint-requires-after_bounds
count_joint-requires-after_bounds g c κs within =
    let number = ap length (c.rules.ensures ∙ ap rules_of c.program.ensures) in
    let all = c.if-joining-rules.true in
    c.in_ok-joining.ensures (omega (arith, number, all))
