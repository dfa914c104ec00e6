use Rattle.std.proofs.Common.{sym, ◌∙◌}
use mathlib.Core.Bool.{true≢false}
use Rattle.chr_ops.specs.working.Walks.{first_id}
use Rattle.chr_ops.proofs.RangeLookups.{in_last, in_none, up_to}
use Rattle.chr_ops.proofs.RunsCovered.{gains_none, whole_run}
use Rattle.chr_ops.proofs.covered.cover_run.Goals as goal

pub returns-in_default-clause-covers : goal.returns-in_default-clause-covers
returns-in_default-clause-covers c =
    let none = in_none c.args.ends.now c.requires.longest.disjoint (first_id c.args.run)
    (rw c.first.ensures at c.in_default.ensures.none) in
    absurd (true≢false (sym c.requires.first ∙ none))

pub loop-last-init : goal.loop-last-init
loop-last-init c =
    let m = c.args.ends.now in
    let k = c.in-Some.first in
    let id = first_id c.args.run in
    let begins = rw c.first.ensures at c.in-Some.ensures.up_to in
    let has = in_last m c.requires.longest.disjoint id k c.in-Some.end c.in-Some.ensures.there begins
    (rw c.first.ensures at c.in-Some.ensures.last) c.requires.first in
    record {
      gains = gains_none m c.args.run c.requires.longest;
      there = c.in-Some.ensures.there;
      along = has.0;
      from = (up_to k id begins).1 has.0;
      within = has.1;
    }

pub returns-clause-covers : goal.returns-clause-covers
returns-clause-covers c =
    let reached = c.loop-last.invariant in
    whole_run c.args.ends.now c.loop-last.ends c.args.run c.in-Some.first c.loop-last.last reached.gains reached.there
    reached.along reached.from c.loop-last-test.false
