use Rattle.std.proofs.Common.{◌∙◌, ap, sym, refl, ◌≡◌, arith, length}
use Rattle.chr_base.specs.Programs.{rules_of}
use Rattle.chr_weights.specs.WeighedPrograms.{program_of}
use Rattle.chr_base.proofs.Steps.{rests, found_step}
use Rattle.chr_rewrite.proofs.resting.at_rest.Goals as goal

pub returns-then-is_some : goal.returns-then-is_some
returns-then-is_some g c =
    rw (← ap rules_of c.program.ensures, ← c.rules-rule-items.ensures)
    (found_step (λ v. v.items) c.rules-rule-items.result.now c.loop-rule.rule-index c.rule-item.result c.find.result _
    c.loop-rule-test.true c.rule-item.is c.find.ensures.instance c.find.ensures.there
    (sym c.is_some.ensures ∙ c.if-is_some.true))

pub returns : goal.returns
returns g c =
    let same : length c.rules-rule-items.result.now ≡ length (rules_of (program_of c.args.weighed.now)) =
    ap length (c.rules-rule-items.ensures ∙ ap rules_of c.program.ensures) in (
      λ _. rests (rules_of (program_of c.args.weighed.now)) _
          (λ k d h. c.loop-rule.invariant k d (omega (arith, same, h, c.loop-rule-test.false))),
      λ _. refl,
    )
