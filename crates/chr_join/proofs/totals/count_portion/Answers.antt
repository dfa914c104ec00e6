use Rattle.std.proofs.Common.{◌+◌, ◌^◌, ◌<◌, length, sym, subst, rules}
use Rattle.std.specs.List.{All}
use Rattle.std.proofs.lemmas.List.Elements.{All-drop, All-take}
use Rattle.chr_weights.specs.WeighedPrograms.{rules_in}
use Rattle.chr_overlaps.specs.OverlapLists.{IsOverlapOf}
use Rattle.chr_join.specs.declared.coverage.Coverage.TheVariants.{Joint}
use Rattle.chr_join.proofs.Verdicts.{total_fits, joinable_more}
use Rattle.chr_join.proofs.OverlapPortions.{refuses_in}
use Rattle.chr_join.proofs.totals.count_portion.Goals as goal
use Rattle.chr_join.proofs.totals.count_portion.Goals.{then-place-eq0+in_ok-count_ahead, else-place-eq0}

pub count_ahead-requires-clause-overlaps : goal.count_ahead-requires-clause-overlaps
count_ahead-requires-clause-overlaps g c κs within =
    let of = IsOverlapOf (rules_in c.args.weighed.now) in
    subst (All of) (sym c.batch_from-batch.ensures) (All-take of (length c.batch_from-batch.result.now) _
    (All-drop of c.loop-place.place c.args.overlaps.now c.requires.overlaps))

pub count_overlap-requires-clause-overlap : goal.count_overlap-requires-clause-overlap
count_overlap-requires-clause-overlap g c = subst (IsOverlapOf (rules_in c.args.weighed.now))
    (sym c.index-overlaps-place.is) (c.requires.overlaps c.loop-place.place c.index-overlaps-place.result
    c.loop-place-test.true)

pub count_overlap-requires-clause-few : goal.count_overlap-requires-clause-few
count_overlap-requires-clause-few g c = elim c.if-place-eq0.branch [
  | then-place-eq0+in_ok-count_ahead w ↦ rw w.known-is w.in_ok-count_ahead.ensures.few
  | else-place-eq0 w ↦ rw w.known-is c.loop-place.invariant.few
]

pub count_overlap-requires-clause-counts : goal.count_overlap-requires-clause-counts
count_overlap-requires-clause-counts g c = elim c.if-place-eq0.branch [
  | then-place-eq0+in_ok-count_ahead w ↦ rw w.known-is w.in_ok-count_ahead.ensures.counts
  | else-place-eq0 w ↦ rw w.known-is c.loop-place.invariant.counts
]

pub overflow_add-total : goal.overflow_add-total
overflow_add-total g c =
    let fits : c.loop-place.total + c.in-Ok.cases < 2 ^ 64 =
    total_fits Joint (rules_in c.args.weighed.now) c.args.overlaps.now c.loop-place.place
    c.index-overlaps-place.result c.loop-place.total c.in-Ok.cases c.requires.number c.loop-place-test.true
    c.loop-place.invariant.joinable c.in-Ok.ensures.ok in
    search rules

pub returns-in-Err-clause-err : goal.returns-in-Err-clause-err
returns-in-Err-clause-err g c =
    refuses_in Joint (rules_in c.args.weighed.now) c.args.overlaps.now c.loop-place.place c.index-overlaps-place.result
    c.loop-place.total _ c.loop-place.invariant.joinable c.loop-place-test.true c.index-overlaps-place.is
    c.in-Err.ensures.err

pub loop-place-preserved : goal.loop-place-preserved
loop-place-preserved g c = record {
  joinable = joinable_more Joint (rules_in c.args.weighed.now) c.args.overlaps.now c.loop-place.place
      c.index-overlaps-place.result c.loop-place.total c.in-Ok.cases
      c.loop-place-test.true c.index-overlaps-place.is c.loop-place.invariant.joinable c.in-Ok.ensures.ok;
  few = c.in-Ok.ensures.few;
  counts = c.in-Ok.ensures.counts;
}
