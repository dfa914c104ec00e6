use Rattle.std.proofs.Common.{length, sym, subst, ◌∙◌}
use Rattle.std.specs.List.{All}
use Rattle.std.proofs.lemmas.List.{take_all}
use Rattle.std.proofs.lemmas.List.Elements.{All-drop, All-take}
use Rattle.chr_weights.specs.WeighedPrograms.{rules_in}
use Rattle.chr_overlaps.specs.OverlapLists.{IsOverlapOf}
use Rattle.chr_join.specs.working.Checking.{HaveFewTypes}
use Rattle.chr_join.specs.working.Counting.{AreCounts}
use Rattle.chr_join.proofs.CaseNumbers.{numbered_more}
use Rattle.chr_join.proofs.numbers.case_numbers.Given.{Over}
use Rattle.chr_join.proofs.numbers.case_numbers.Goals as goal
use Rattle.chr_join.proofs.numbers.case_numbers.Goals.{then-place-eq0+in_ok-count_ahead, else-place-eq0}

pub count_ahead-requires-clause-overlaps : goal.count_ahead-requires-clause-overlaps
count_ahead-requires-clause-overlaps g c κs within =
    let of = IsOverlapOf (rules_in c.weighed-weighed.result.now) in
    let all = subst (λ w. All (IsOverlapOf (rules_in w)) c.args.overlaps.now) (sym c.weighed-weighed.ensures.weighed)
    c.requires in
    subst (All of) (sym c.batch_from-batch.ensures) (All-take of (length c.batch_from-batch.result.now) _
    (All-drop of c.loop-place.place c.args.overlaps.now all))

pub count_ahead-requires-clause-few : goal.count_ahead-requires-clause-few
count_ahead-requires-clause-few g c κs within = subst (λ cs. HaveFewTypes cs c.loop-place.known.few.items)
    (sym c.deref.ensures.value) c.loop-place.invariant.few

pub count_ahead-requires-clause-counts : goal.count_ahead-requires-clause-counts
count_ahead-requires-clause-counts g c κs within = subst (λ cs. AreCounts cs c.loop-place.known.counts.entries.items)
    (sym c.deref.ensures.value) c.loop-place.invariant.counts

pub case_number-requires-clause-overlap : goal.case_number-requires-clause-overlap
case_number-requires-clause-overlap g c =
    let all = subst (λ w. All (IsOverlapOf (rules_in w)) c.args.overlaps.now) (sym c.weighed-weighed.ensures.weighed)
    c.requires in
    subst (IsOverlapOf (rules_in c.weighed-weighed.result.now)) (sym c.index-overlaps-place.is)
    (all c.loop-place.place c.index-overlaps-place.result c.loop-place-test.true)

pub case_number-requires-clause-few : goal.case_number-requires-clause-few
case_number-requires-clause-few g c = elim c.if-place-eq0.branch [
  | then-place-eq0+in_ok-count_ahead w ↦
      rw w.known-is (subst (λ cs. HaveFewTypes cs w.count_ahead.new.known.few.items)
      (w.deref.ensures.value ∙ sym c.deref-in-loop-place.ensures.value) w.in_ok-count_ahead.ensures.few)
  | else-place-eq0 w ↦
      rw w.known-is (subst (λ cs. HaveFewTypes cs c.loop-place.known.few.items)
      (sym c.deref-in-loop-place.ensures.value) c.loop-place.invariant.few)
]

pub case_number-requires-clause-counts : goal.case_number-requires-clause-counts
case_number-requires-clause-counts g c = elim c.if-place-eq0.branch [
  | then-place-eq0+in_ok-count_ahead w ↦
      rw w.known-is (subst (λ cs. AreCounts cs w.count_ahead.new.known.counts.entries.items)
      (w.deref.ensures.value ∙ sym c.deref-in-loop-place.ensures.value) w.in_ok-count_ahead.ensures.counts)
  | else-place-eq0 w ↦
      rw w.known-is (subst (λ cs. AreCounts cs c.loop-place.known.counts.entries.items)
      (sym c.deref-in-loop-place.ensures.value) c.loop-place.invariant.counts)
]

pub loop-place-preserved : goal.loop-place-preserved
loop-place-preserved g c = record {
  few = subst (λ cs. HaveFewTypes cs c.case_number.new.known.few.items) c.deref-in-loop-place.ensures.value
      c.in_ok-case_number.ensures.few;
  counts = subst (λ cs. AreCounts cs c.case_number.new.known.counts.entries.items) c.deref-in-loop-place.ensures.value
      c.in_ok-case_number.ensures.counts;
  numbered = numbered_more (rules_in c.weighed-weighed.result.now) c.args.overlaps.now c.loop-place.place
      c.index-overlaps-place.result c.loop-place.numbers.items c.push.new.self.items c.in_ok-case_number.field-0
      c.loop-place-test.true c.index-overlaps-place.is c.loop-place.invariant.numbered
      c.in_ok-case_number.ensures.number c.in_ok-push.ensures.items;
}
