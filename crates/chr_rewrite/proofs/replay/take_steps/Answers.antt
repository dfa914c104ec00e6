use Rattle.std.proofs.Common.{ap, ◌∙◌, ◌≡◌, subst, take}
use Rattle.chr_base.specs.Programs.{rules_of}
use Rattle.chr_weights.specs.WeighedPrograms.{program_of}
use Rattle.chr_rewrite.specs.Derivations.{IsFirstInapplicable}
use Rattle.chr_rewrite.proofs.DerivationLemmas.{replays_reaches}
use Rattle.chr_rewrite.proofs.Deriving.{IsDerivation-next, stops_here}
use Rattle.chr_rewrite.proofs.replay.take_steps.Goals as goal

pub loop-i-preserved : goal.loop-i-preserved
loop-i-preserved g c =
    IsDerivation-next (rules_of (program_of c.args.weighed.now)) c.rules-rules.result.now c.args.steps.now c.loop-i.i
    c.index-steps-i.result _ _ _ c.in_ok-take_step.field-0 (c.rules-rules.ensures ∙ ap rules_of c.program.ensures)
    c.loop-i-test.true c.index-steps-i.is c.loop-i.invariant c.if-not-branch.false c.in_ok-take_step.ensures.taken

pub returns-then-not-branch-clause-not_there : goal.returns-then-not-branch-clause-not_there
returns-then-not-branch-clause-not_there g c n e =
    let same : c.loop-i.i ≡ n = cc in
    subst (IsFirstInapplicable (rules_of (program_of c.args.weighed.now)) c.args.steps.now
    (g.P.Pool.contents c.args.pool.now)) same
    (stops_here (rules_of (program_of c.args.weighed.now)) c.rules-rules.result.now c.args.steps.now c.loop-i.i
    c.index-steps-i.result _ _ c.in_ok-take_step.field-0 (c.rules-rules.ensures ∙ ap rules_of c.program.ensures)
    c.loop-i-test.true c.index-steps-i.is c.loop-i.invariant c.if-not-branch.true c.in_ok-take_step.ensures.none)

pub returns-in_err-take_step-clause-reached : goal.returns-in_err-take_step-clause-reached
returns-in_err-take_step-clause-reached g c =
    rw c.in_err-take_step.ensures.err (replays_reaches (rules_of (program_of c.args.weighed.now))
    (take c.loop-i.i c.args.steps.now) _ _ c.loop-i.invariant)

pub returns-then-not-branch-clause-reached : goal.returns-then-not-branch-clause-reached
returns-then-not-branch-clause-reached g c =
    rw (rw c.if-not-branch.true at c.in_ok-take_step.ensures.same)
    (replays_reaches (rules_of (program_of c.args.weighed.now)) (take c.loop-i.i c.args.steps.now) _ _
    c.loop-i.invariant)

pub returns-clause-reached : goal.returns-clause-reached
returns-clause-reached g c = replays_reaches (rules_of (program_of c.args.weighed.now))
    (take c.loop-i.i c.args.steps.now) _ _ c.loop-i.invariant
