use Rattle.std.proofs.Common.{◌+◌, ◌^◌, ◌<◌, ◌∙◌, ap, arith, length, rules, sym, subst}
use Rattle.std.specs.List.{All}
use Rattle.chr_base.specs.Programs.{rules_of}
use Rattle.chr_weights.specs.WeighedPrograms.{program_of, rules_in}
use Rattle.chr_overlaps.specs.OverlapLists.{IsOverlapOf}
use Rattle.chr_overlaps.proofs.Few.{few_rules}
use Rattle.chr_join.specs.Verdicts.{HaveJoinableCasesBy}
use Rattle.chr_join.specs.working.Portions.{RefusesIn}
use Rattle.chr_join.proofs.OverlapPortions.{portion_overlaps, portion_fits, portion_joined, portion_refuses, all_joined}
use Rattle.chr_join.proofs.checking.check_rules.Given.{Over}
use Rattle.chr_join.proofs.checking.check_rules.Goals as goal

pub shared_out-shared-requires-clause-overlaps : goal.shared_out-shared-requires-clause-overlaps
shared_out-shared-requires-clause-overlaps g c = portion_overlaps (rules_in c.args.weighed.now) c.loop-place.place
    c.in_ok-portion.portion c.in_ok-portion.ensures

pub check_portion-requires-clause-overlaps : goal.check_portion-requires-clause-overlaps
check_portion-requires-clause-overlaps g c κs within =
    let rules = rules_in c.args.weighed.now in
    subst (All (IsOverlapOf rules)) (sym c.deref.ensures.value)
    (portion_overlaps rules c.loop-place.place c.in_ok-portion.portion c.in_ok-portion.ensures)

joins : (g : Over) (c : goal.In-Ok g) → HaveJoinableCasesBy c.args.lister.now.coverage
    (rules_in c.args.weighed.now) c.in_ok-portion.portion.overlaps.items c.in-Ok.cases
joins g c = subst (λ os. HaveJoinableCasesBy c.args.lister.now.coverage (rules_in c.args.weighed.now) os c.in-Ok.cases)
    c.deref.ensures.value c.in-Ok.ensures.ok

pub overflow_add-total : goal.overflow_add-total
overflow_add-total g c =
    let p = c.in_ok-portion.portion in
    let fits : c.loop-place.total + c.in-Ok.cases < 2 ^ 64 =
    portion_fits c.args.lister.now.coverage (rules_in c.args.weighed.now) c.loop-place.place c.loop-place.total
    c.in-Ok.cases p (few_rules (program_of c.args.weighed.now)) c.loop-place.invariant.joined
    c.in_ok-portion.ensures (joins g c) in
    search rules

pub returns-in-Err-clause-err : goal.returns-in-Err-clause-err
returns-in-Err-clause-err g c =
    let rules = rules_in c.args.weighed.now in
    portion_refuses c.args.lister.now.coverage rules c.loop-place.place c.loop-place.total c.in_ok-portion.portion
    c.in-Err.cause c.loop-place.invariant.joined c.in_ok-portion.ensures
    (subst (λ os. RefusesIn c.args.lister.now.coverage rules os c.in-Err.cause) c.deref.ensures.value
    c.in-Err.ensures.err)

pub loop-place-preserved : goal.loop-place-preserved
loop-place-preserved g c = record {
  joined = portion_joined c.args.lister.now.coverage (rules_in c.args.weighed.now) c.loop-place.place c.loop-place.total
      c.in-Ok.cases c.in_ok-portion.portion c.loop-place.invariant.joined c.in_ok-portion.ensures
      (subst (λ os. HaveJoinableCasesBy c.args.lister.now.coverage (rules_in c.args.weighed.now) os c.in-Ok.cases)
      c.deref.ensures.value c.in-Ok.ensures.ok);
}

pub returns-clause-ok : goal.returns-clause-ok
returns-clause-ok g c =
    let number = ap length (c.rules-rules.ensures ∙ ap rules_of c.program.ensures) in
    let ended = c.loop-place-test.false in
    all_joined c.args.lister.now.coverage (rules_in c.args.weighed.now) c.loop-place.place c.loop-place.total
    (omega (arith, number, ended)) c.loop-place.invariant.joined
