use Rattle.std.proofs.Common.{◌+◌, ◌^◌, ◌<◌, sym, subst, rules}
use Rattle.std.proofs.lemmas.Option.{IfSome_then}
use Rattle.chr_weights.specs.WeighedPrograms.{rules_in}
use Rattle.chr_overlaps.specs.OverlapLists.{IsOverlapOf}
use Rattle.chr_join.proofs.Verdicts.{total_fits, joinable_more}
use Rattle.chr_join.proofs.OverlapPortions.{refuses_in}
use Rattle.chr_join.specs.working.Checking.{AreAhead}
use Rattle.chr_join.proofs.checking.check_portion.Goals as goal
use Rattle.chr_join.proofs.checking.check_portion.Goals.{then-start-place+then-place-end+then-ends_before+in_ok-ahead}
use Rattle.chr_join.proofs.checking.check_portion.Goals.{else-start-place}

pub checked-requires-clause-overlap : goal.checked-requires-clause-overlap
checked-requires-clause-overlap g c =
    subst (IsOverlapOf (rules_in c.args.weighed.now)) (sym c.index-overlaps-place.is)
    (c.requires.overlaps c.loop-place.place c.index-overlaps-place.result c.loop-place-test.true)

pub checked-requires-clause-known : goal.checked-requires-clause-known
checked-requires-clause-known g c =
    let coverage = c.args.lister.now.coverage in
    let rules = rules_in c.args.weighed.now in
    let os = c.args.overlaps.now in
    let are : AreAhead coverage rules os c.if-start-place.ahead = elim c.if-start-place.branch [
      | then-start-place+then-place-end+then-ends_before+in_ok-ahead w ↦ rw w.ahead-is w.in_ok-ahead.ensures
      | else-start-place w ↦ rw w.ahead-is c.loop-place.invariant.ahead
    ] in
    IfSome_then c.number_at.result c.number_at.ensures
    (λ n joins. joins coverage rules os c.index-overlaps-place.result are c.index-overlaps-place.is)

pub overflow_add-total : goal.overflow_add-total
overflow_add-total g c =
    let fits : c.loop-place.total + c.in-Ok.cases < 2 ^ 64 =
    total_fits c.args.lister.now.coverage (rules_in c.args.weighed.now) c.args.overlaps.now c.loop-place.place
    c.index-overlaps-place.result c.loop-place.total c.in-Ok.cases c.requires.few c.loop-place-test.true
    c.loop-place.invariant.joinable c.in-Ok.ensures.ok
    in
    search rules

pub returns-in-Err-clause-err : goal.returns-in-Err-clause-err
returns-in-Err-clause-err g c =
    refuses_in c.args.lister.now.coverage (rules_in c.args.weighed.now) c.args.overlaps.now c.loop-place.place
    c.index-overlaps-place.result c.loop-place.total _ c.loop-place.invariant.joinable c.loop-place-test.true
    c.index-overlaps-place.is c.in-Err.ensures.err

pub loop-place-preserved : goal.loop-place-preserved
loop-place-preserved g c = record {
  joinable =
      joinable_more c.args.lister.now.coverage (rules_in c.args.weighed.now) c.args.overlaps.now c.loop-place.place
      c.index-overlaps-place.result c.loop-place.total c.in-Ok.cases c.loop-place-test.true c.index-overlaps-place.is
      c.loop-place.invariant.joinable c.in-Ok.ensures.ok;
  ahead = elim c.if-start-place.branch [
    | then-start-place+then-place-end+then-ends_before+in_ok-ahead w ↦ rw w.ahead-is w.in_ok-ahead.ensures
    | else-start-place w ↦ rw w.ahead-is c.loop-place.invariant.ahead
  ];
}
