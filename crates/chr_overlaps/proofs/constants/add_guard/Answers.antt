use Rattle.std.proofs.Common.{List, subst}
use Rattle.std.proofs.lemmas.List.{take_all}
use Rattle.chr_base.specs.declared.term.Comparison.{Comparison}
use Rattle.chr_confluence.specs.Constants.{guard_terms}
use Rattle.chr_overlaps.specs.working.Gathering.{Gathers}
use Rattle.chr_overlaps.proofs.Gathered.{comparison_gathered}
use Rattle.chr_overlaps.proofs.constants.add_guard.Goals as goal

pub loop-comparison-preserved : goal.loop-comparison-preserved
loop-comparison-preserved c = comparison_gathered c.args.guard.now c.loop-comparison.comparison-index _
    c.args.found.now.items c.loop-comparison.found.items c.add_terms.new.found.items c.loop-comparison-test.true
    c.loop-comparison.invariant c.in_ok-add_terms.ensures

pub returns : goal.returns
returns c = subst (λ (cs : List Comparison). Gathers (guard_terms cs) c.args.found.now.items
    c.loop-comparison.found.items) (take_all c.loop-comparison.comparison-index c.args.guard.now
    c.loop-comparison-test.false) c.loop-comparison.invariant
