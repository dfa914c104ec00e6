use Rattle.std.proofs.Common.{sym, ap, subst, ◌∙◌}
use Rattle.std.specs.List.{All}
use Rattle.chr_base.specs.Programs.{rules_of}
use Rattle.chr_weights.specs.WeighedPrograms.{rules_in}
use Rattle.chr_overlaps.specs.OverlapLists.{AreOverlaps, IsOverlapOf}
use Rattle.chr_join.specs.AcceptedPrograms.{program_in}
use Rattle.chr_join.proofs.Lists.{from_each}
use Rattle.chr_diagnosis.specs.working.Numbers.{AreNumbersBy, number_at}
use Rattle.chr_diagnosis.proofs.Counting.{counted_at_place, one_more}
use Rattle.chr_diagnosis.proofs.diagnosis.all_counted.Goals as goal

pub joint_numbers-requires : goal.joint_numbers-requires
joint_numbers-requires g c =
    let are = subst (AreOverlaps (rules_in c.weighed.result.now)) (sym c.deref.ensures.value)
    c.in_ok-overlaps.ensures.overlaps in (
      c.type_bounds.sync-typeof-rt,
      subst (λ w. All (IsOverlapOf (rules_in w)) c.deref.result.now) c.weighed.ensures.weighed
          (from_each (IsOverlapOf (rules_in c.weighed.result.now)) c.deref.result.now are.each),
    )

pub loop-place-preserved : goal.loop-place-preserved
loop-place-preserved g c =
    let rules = rules_of (program_in c.args.accepted.now) in
    let numbers = subst (λ os. AreNumbersBy c.args.coverage rules os c.in_ok-numbers.numbers.items)
    (c.deref.ensures.value ∙ sym c.deref-overlap-items.ensures.value) c.in_ok-numbers.ensures in
    let number = c.counted_at.ensures.cases
    ∙ ap (λ ns. number_at ns c.loop-place.place) c.deref-in-loop-place.ensures.value in
    one_more c.args.coverage rules c.loop-place.place c.deref-overlap-items.result.now c.overlap-item.result
    c.loop-place.counts.items c.push.new.self.items c.counted_at.result c.loop-place-test.true c.overlap-item.is
    c.counted_at.ensures.overlap
    (counted_at_place c.args.coverage rules c.deref-overlap-items.result.now c.in_ok-numbers.numbers.items
    c.loop-place.place c.overlap-item.result c.counted_at.result numbers c.loop-place-test.true c.overlap-item.is
    c.counted_at.ensures.overlap number)
    c.in_ok-push.ensures.items c.loop-place.invariant
