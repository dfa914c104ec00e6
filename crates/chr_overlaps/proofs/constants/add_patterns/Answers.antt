use Rattle.std.proofs.Common.{List, subst, ap, ◌∙◌}
use Rattle.std.proofs.lemmas.List.{take_all}
use Rattle.chr_base.specs.declared.term.Term.{Term}
use Rattle.chr_base.specs.declared.term.Pattern.{Pattern}
use Rattle.chr_base.specs.RuleTests.{terms_of}
use Rattle.chr_overlaps.specs.working.Gathering.{Gathers}
use Rattle.chr_overlaps.proofs.Gathered.{pattern_gathered}
use Rattle.chr_overlaps.proofs.constants.add_patterns.Goals as goal

pub loop-pattern-preserved : goal.loop-pattern-preserved
loop-pattern-preserved c =
    pattern_gathered c.args.patterns.now c.loop-pattern.pattern-index c.pattern-item.result c.args.found.now.items
    c.loop-pattern.found.items c.add_terms.new.found.items c.loop-pattern-test.true c.loop-pattern.invariant
    (subst (λ (ts : List Term). Gathers ts c.loop-pattern.found.items c.add_terms.new.found.items)
    (c.deref.ensures.0 ∙ ap (λ p. p.args.items) c.pattern-item.is) c.in_ok-add_terms.ensures)

pub returns : goal.returns
returns c = subst (λ (ps : List Pattern). Gathers (terms_of ps) c.args.found.now.items c.loop-pattern.found.items)
    (take_all c.loop-pattern.pattern-index c.args.patterns.now c.loop-pattern-test.false) c.loop-pattern.invariant
