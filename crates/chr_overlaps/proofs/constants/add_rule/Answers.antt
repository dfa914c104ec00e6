use Rattle.std.proofs.Common.{List, subst}
use Rattle.chr_base.specs.declared.term.Pattern.{Pattern}
use Rattle.chr_base.specs.declared.term.Comparison.{Comparison}
use Rattle.chr_base.specs.RuleTests.{terms_of}
use Rattle.chr_confluence.specs.Constants.{guard_terms}
use Rattle.chr_overlaps.specs.working.Gathering.{Gathers}
use Rattle.chr_overlaps.proofs.Gathered.{rule_gathered}
use Rattle.chr_overlaps.proofs.constants.add_rule.Goals as goal

pub returns : goal.returns
returns c =
    let as' = c.args.found.now.items in
    let bs = c.add_patterns.new.found.items in
    let cs = c.add_patterns-2.new.found.items in
    let ds = c.add_guard.new.found.items in
    let es = c.add_patterns-3.new.found.items in
    rule_gathered c.args.rule.now as' bs cs ds es
    (subst (λ (ps : List Pattern). Gathers (terms_of ps) as' bs) c.deref.ensures.0 c.in_ok-add_patterns.ensures)
    (subst (λ (ps : List Pattern). Gathers (terms_of ps) bs cs) c.deref-2.ensures.0 c.in_ok-add_patterns-2.ensures)
    (subst (λ (gs : List Comparison). Gathers (guard_terms gs) cs ds) c.deref-3.ensures.0 c.in_ok-add_guard.ensures)
    (subst (λ (ps : List Pattern). Gathers (terms_of ps) ds es) c.deref-4.ensures.0 c.in_ok-add_patterns-3.ensures)
