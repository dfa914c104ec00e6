use Rattle.std.proofs.Common.{◌<◌, ◌∙◌, ap, sym, arith}
use Rattle.chr_base.specs.Programs.{rules_of}
use Rattle.chr_weights.specs.WeighedPrograms.{program_of}
use Rattle.chr_rewrite.proofs.StepCounts.{exact_count, many_more, none_taken, rests_so, some_lower}
use Rattle.chr_rewrite.proofs.resting.rest.Goals as goal

pub loop-more-smaller : goal.loop-more-smaller
loop-more-smaller g c =
    let some : 0 < c.in-Ok.more = (let most = c.if-more-lt18446744073709551615.false in omega (arith, most)) in
    some_lower (program_of c.args.weighed.now) c.rules-rules.result.now c.in-Ok.more _ _ c.args.weighed.now.lowers
    (c.rules-rules.ensures ∙ ap rules_of c.program.ensures) some c.in-Ok.ensures.ok

pub loop-more-preserved : goal.loop-more-preserved
loop-more-preserved g c =
    many_more (program_of c.args.weighed.now) c.rules-rules.result.now c.loop-more.steps c.in-Ok.more _ _ _ _
    c.args.weighed.now.lowers (c.rules-rules.ensures ∙ ap rules_of c.program.ensures) c.loop-more.invariant
    c.in-Ok.ensures.ok c.saturating_add-steps.ensures

pub returns-then-more-lt18446744073709551615-clause-ok : goal.returns-then-more-lt18446744073709551615-clause-ok
returns-then-more-lt18446744073709551615-clause-ok g c =
    many_more (program_of c.args.weighed.now) c.rules-rules.result.now c.loop-more.steps c.in-Ok.more _ _ _ _
    c.args.weighed.now.lowers (c.rules-rules.ensures ∙ ap rules_of c.program.ensures) c.loop-more.invariant
    c.in-Ok.ensures.ok c.saturating_add-steps.ensures

pub returns-then-more-lt18446744073709551615-clause-exact : goal.returns-then-more-lt18446744073709551615-clause-exact
returns-then-more-lt18446744073709551615-clause-exact g c fits =
    exact_count (program_of c.args.weighed.now) c.saturating_add-steps.result _ _
    (many_more (program_of c.args.weighed.now) c.rules-rules.result.now c.loop-more.steps c.in-Ok.more _ _ _ _
    c.args.weighed.now.lowers (c.rules-rules.ensures ∙ ap rules_of c.program.ensures) c.loop-more.invariant
    c.in-Ok.ensures.ok c.saturating_add-steps.ensures)
    fits

pub returns-then-more-lt18446744073709551615-clause-rests : goal.returns-then-more-lt18446744073709551615-clause-rests
returns-then-more-lt18446744073709551615-clause-rests g c =
    rests_so (program_of c.args.weighed.now) c.rules-rules.result.now _
    (c.rules-rules.ensures ∙ ap rules_of c.program.ensures)
    (c.in-Ok.ensures.rests c.if-more-lt18446744073709551615.true)

pub returns-then-more-lt18446744073709551615-clause-resting :
    goal.returns-then-more-lt18446744073709551615-clause-resting
returns-then-more-lt18446744073709551615-clause-resting g c rest =
    let none = none_taken (program_of c.args.weighed.now) c.saturating_add-steps.result _ _
    (many_more (program_of c.args.weighed.now) c.rules-rules.result.now c.loop-more.steps c.in-Ok.more _ _ _ _
    c.args.weighed.now.lowers (c.rules-rules.ensures ∙ ap rules_of c.program.ensures) c.loop-more.invariant
    c.in-Ok.ensures.ok c.saturating_add-steps.ensures)
    rest in
    (sym none.1, none.0, tt)

pub returns-in-Err-clause-stopped : goal.returns-in-Err-clause-stopped
returns-in-Err-clause-stopped g c =
    many_more (program_of c.args.weighed.now) c.rules-rules.result.now c.loop-more.steps c.in-Err.stopped.steps _ _ _ _
    c.args.weighed.now.lowers (c.rules-rules.ensures ∙ ap rules_of c.program.ensures) c.loop-more.invariant
    c.in-Err.ensures.stopped c.saturating_add-steps-in-Err.ensures

pub returns-in-Err-clause-resting : goal.returns-in-Err-clause-resting
returns-in-Err-clause-resting g c rest =
    let none = none_taken (program_of c.args.weighed.now) c.saturating_add-steps-in-Err.result _ _
    (many_more (program_of c.args.weighed.now) c.rules-rules.result.now c.loop-more.steps c.in-Err.stopped.steps _ _ _ _
    c.args.weighed.now.lowers (c.rules-rules.ensures ∙ ap rules_of c.program.ensures) c.loop-more.invariant
    c.in-Err.ensures.stopped c.saturating_add-steps-in-Err.ensures)
    rest in
    (sym none.1, tt, none.0)
