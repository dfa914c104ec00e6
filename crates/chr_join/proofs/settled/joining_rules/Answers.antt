use Rattle.std.proofs.Common.{sym, subst}
use Rattle.std.specs.List.{All}
use Rattle.std.proofs.lemmas.Bool.{OnTrue_at}
use Rattle.chr_weights.proofs.Ranks.{lowers_rank, rank_in}
use Rattle.chr_weights.specs.WeighedPrograms.{program_of, rules_in}
use Rattle.chr_overlaps.specs.OverlapLists.{IsOverlapOf}
use Rattle.chr_join.specs.declared.coverage.Coverage.TheVariants.{Sorted}
use Rattle.chr_join.specs.working.Portions.{IsSettled}
use Rattle.chr_join.proofs.CopiedRules.{all_settled}
use Rattle.chr_join.proofs.OverlapPortions.{portion_overlaps, portion_settled}
use Rattle.chr_join.proofs.settled.joining_rules.Goals as goal

pub few_types-requires-clause-overlaps : goal.few_types-requires-clause-overlaps
few_types-requires-clause-overlaps g c =
    let rules = rules_in c.args.weighed.now in
    subst (All (IsOverlapOf rules)) (sym c.deref-in-loop-place.ensures.value)
    (portion_overlaps rules c.loop-place.place c.in_ok-portion.portion c.in_ok-portion.ensures)

pub are_settled-requires-clause-overlaps : goal.are_settled-requires-clause-overlaps
are_settled-requires-clause-overlaps g c κs within =
    let rules = rules_in c.args.weighed.now in
    subst (All (IsOverlapOf rules)) (sym c.deref-in-loop-place-3.ensures.value)
    (portion_overlaps rules c.loop-place.place c.in_ok-portion.portion c.in_ok-portion.ensures)

pub loop-place-preserved : goal.loop-place-preserved
loop-place-preserved g c =
    let rules = rules_in c.args.weighed.now in
    portion_settled rules c.loop-place.place c.in_ok-portion.portion c.loop-place.invariant c.in_ok-portion.ensures
    (subst (All (IsSettled rules)) c.deref-in-loop-place-3.ensures.value
    (OnTrue_at c.if-not-are_settled.false c.are_settled.ensures))

pub returns : goal.returns
returns g c = λ most.
    let p = program_of c.args.weighed.now in
    let all = all_settled (rules_in c.args.weighed.now) c.loop-place.place most c.loop-place.invariant in
    c.accepted_are_confluent.ensures Sorted (rules_in c.args.weighed.now) (rank_in p) all.0
    (lowers_rank p c.args.weighed.now.lowers) all.1
