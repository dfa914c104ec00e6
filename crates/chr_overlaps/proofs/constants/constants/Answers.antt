use Rattle.std.proofs.Common.{List, subst}
use Rattle.std.proofs.lemmas.List.{take_all}
use Rattle.chr_base.specs.declared.rule.Rule.{Rule}
use Rattle.chr_overlaps.specs.working.Gathering.{AreConstantsIn, Gathers, all_terms}
use Rattle.chr_confluence.specs.Constants.{rule_terms}
use Rattle.chr_overlaps.proofs.Gathered.{rules_gathered, all_gathered}
use Rattle.chr_overlaps.proofs.constants.constants.Goals as goal

pub loop-rule-preserved : goal.loop-rule-preserved
loop-rule-preserved c =
    rules_gathered c.args.rules.now c.loop-rule.rule-index c.rule-item.result c.loop-rule.found.items
    c.add_rule.new.found.items c.loop-rule-test.true c.loop-rule.invariant
    (subst (λ (r : Rule). Gathers (rule_terms r) c.loop-rule.found.items c.add_rule.new.found.items) c.rule-item.is
    c.in_ok-add_rule.ensures)

pub returns-clause-constants : goal.returns-clause-constants
returns-clause-constants c = all_gathered c.args.rules.now c.loop-rule.found.items
    (subst (λ (rs : List Rule). AreConstantsIn (all_terms rs) c.loop-rule.found.items)
    (take_all c.loop-rule.rule-index c.args.rules.now c.loop-rule-test.false) c.loop-rule.invariant)
