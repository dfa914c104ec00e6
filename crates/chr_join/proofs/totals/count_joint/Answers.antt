use Rattle.std.proofs.Common.{◌+◌, ◌^◌, ◌<◌, ◌∙◌, ap, arith, length, rules, sym, subst}
use Rattle.std.specs.List.{All}
use Rattle.chr_base.specs.Programs.{rules_of}
use Rattle.chr_weights.specs.WeighedPrograms.{program_of, rules_in}
use Rattle.chr_overlaps.specs.OverlapLists.{IsOverlapOf}
use Rattle.chr_overlaps.proofs.Few.{few_rules}
use Rattle.chr_join.specs.declared.coverage.Coverage.TheVariants.{Joint}
use Rattle.chr_join.specs.Verdicts.{HaveJoinableCasesBy}
use Rattle.chr_join.specs.working.Portions.{RefusesIn}
use Rattle.chr_join.proofs.OverlapPortions.{portion_overlaps, portion_fits, portion_joined, portion_refuses, all_joined}
use Rattle.chr_join.specs.working.Checking.{HaveFewTypes}
use Rattle.chr_join.specs.working.Counting.{AreCounts}
use Rattle.chr_join.proofs.totals.count_joint.Given.{Over}
use Rattle.chr_join.proofs.totals.count_joint.Goals as goal

pub count_portion-requires-clause-overlaps : goal.count_portion-requires-clause-overlaps
count_portion-requires-clause-overlaps g c κs within =
    let rules = rules_in c.args.weighed.now in
    subst (All (IsOverlapOf rules)) (sym c.deref.ensures.value)
    (portion_overlaps rules c.loop-place.place c.in_ok-portion.portion c.in_ok-portion.ensures)

pub count_portion-requires-clause-few : goal.count_portion-requires-clause-few
count_portion-requires-clause-few g c κs within = subst (λ cs. HaveFewTypes cs c.loop-place.known.few.items)
    (sym c.deref-in-loop-place.ensures.value) c.loop-place.invariant.few

pub count_portion-requires-clause-counts : goal.count_portion-requires-clause-counts
count_portion-requires-clause-counts g c κs within = subst (λ cs. AreCounts cs c.loop-place.known.counts.entries.items)
    (sym c.deref-in-loop-place.ensures.value) c.loop-place.invariant.counts

joins : (g : Over) (c : goal.In-Ok g) → HaveJoinableCasesBy Joint
    (rules_in c.args.weighed.now) c.in_ok-portion.portion.overlaps.items c.in-Ok.cases
joins g c = subst (λ os. HaveJoinableCasesBy Joint (rules_in c.args.weighed.now) os c.in-Ok.cases) c.deref.ensures.value
    c.in-Ok.ensures.ok

pub overflow_add-total : goal.overflow_add-total
overflow_add-total g c =
    let p = c.in_ok-portion.portion in
    let fits : c.loop-place.total + c.in-Ok.cases < 2 ^ 64 =
    portion_fits Joint (rules_in c.args.weighed.now) c.loop-place.place c.loop-place.total c.in-Ok.cases p
    (few_rules (program_of c.args.weighed.now)) c.loop-place.invariant.joined c.in_ok-portion.ensures (joins g c) in
    search rules

pub returns-in-Err-clause-err : goal.returns-in-Err-clause-err
returns-in-Err-clause-err g c =
    let rules = rules_in c.args.weighed.now in
    portion_refuses Joint rules c.loop-place.place c.loop-place.total c.in_ok-portion.portion c.in-Err.cause
    c.loop-place.invariant.joined c.in_ok-portion.ensures
    (subst (λ os. RefusesIn Joint rules os c.in-Err.cause) c.deref.ensures.value c.in-Err.ensures.err)

pub loop-place-preserved : goal.loop-place-preserved
loop-place-preserved g c = record {
  joined = portion_joined Joint (rules_in c.args.weighed.now) c.loop-place.place c.loop-place.total c.in-Ok.cases
      c.in_ok-portion.portion c.loop-place.invariant.joined c.in_ok-portion.ensures
      (subst (λ os. HaveJoinableCasesBy Joint (rules_in c.args.weighed.now) os c.in-Ok.cases) c.deref.ensures.value
      c.in-Ok.ensures.ok);
  few = subst (λ cs. HaveFewTypes cs c.count_portion.new.known.few.items) c.deref-in-loop-place.ensures.value
      c.in-Ok.ensures.few;
  counts = subst (λ cs. AreCounts cs c.count_portion.new.known.counts.entries.items) c.deref-in-loop-place.ensures.value
      c.in-Ok.ensures.counts;
}

pub returns-clause-ok : goal.returns-clause-ok
returns-clause-ok g c =
    let number = ap length (c.rules-rules.ensures ∙ ap rules_of c.program-2.ensures) in
    let ended = c.loop-place-test.false in
    all_joined Joint (rules_in c.args.weighed.now) c.loop-place.place c.loop-place.total
    (omega (arith, number, ended)) c.loop-place.invariant.joined
