use Rattle.std.proofs.Common.{ap, subst, ◌∙◌}
use Rattle.chr_base.specs.Programs.{rules_of}
use Rattle.chr_base.specs.Rules.{Step}
use Rattle.chr_base.specs.Rewriting.{IsAtRest}
use Rattle.chr_weights.specs.WeighedPrograms.{program_of}
use Rattle.chr_rewrite.specs.Derivations.{LeadsTo, IsLeastStep}
use Rattle.chr_rewrite.proofs.Deriving.{LeadsTo-lowers, IsPlainDerivation-push}
use Rattle.chr_rewrite.proofs.plain.plain_rest.Goals as goal

pub loop-steps-smaller : goal.loop-steps-smaller
loop-steps-smaller c =
    LeadsTo-lowers (program_of c.args.weighed.now) c.rules-rules.result.now c.in-Some.step c.loop-steps.now
    c.take_least.new.bag c.args.weighed.now.lowers (c.rules-rules.ensures ∙ ap rules_of c.program.ensures)
    (rw c.in-Some.is at c.in_ok-step.ensures.taken)

pub loop-steps-preserved : goal.loop-steps-preserved
loop-steps-preserved c =
    let same = c.rules-rules.ensures ∙ ap rules_of c.program.ensures in
    rw c.in_ok-push.ensures.items (IsPlainDerivation-push (rules_of (program_of c.args.weighed.now))
    c.loop-steps.steps.items c.in-Some.step c.args.bag.now c.loop-steps.now c.take_least.new.bag
    c.loop-steps.invariant
    (subst (λ rs. IsLeastStep rs c.loop-steps.now c.in-Some.step) same (rw c.in-Some.is at c.in_ok-step.ensures.least))
    (subst (λ rs. LeadsTo rs c.in-Some.step c.loop-steps.now c.take_least.new.bag) same
    (rw c.in-Some.is at c.in_ok-step.ensures.taken)))

pub returns-clause-plain : goal.returns-clause-plain
returns-clause-plain c =
    let same = c.rules-rules.ensures ∙ ap rules_of c.program.ensures in (
      c.loop-steps.now,
      (
        c.loop-steps.invariant,
        subst (λ rs. IsAtRest (Step rs) c.loop-steps.now) same
            (rw c.in_default.is at c.in_ok-step.ensures.rests),
      ),
    )
