use Rattle.std.proofs.Common.{refl, sym, ◌∙◌, arith}
use mathlib.Core.Bool.{true≢false}
use Rattle.chr_join.specs.working.Visits.{setting_of}
use Rattle.std.proofs.lemmas.Bool.{OnTrue_at}
use Rattle.std.proofs.lemmas.Bool.Decides.{nat_tests}
use Rattle.chr_join.proofs.EqualSides.{passes_none, passes_one}
use Rattle.chr_join.proofs.Lists.{from_none}
use Rattle.chr_join.proofs.Visits.{no_case, applicable, joins, fails}
use Rattle.chr_join.proofs.checker.CheckerVisit.visit.Goals as goal

pub returns-then-guards_hold-clause-visited : goal.returns-then-guards_hold-clause-visited
returns-then-guards_hold-clause-visited c = record {
  same = refl;
  goes_on = λ _. passes_one (setting_of c.args.self.now) c.args.values.now c.requires.overlap c.requires.unified
      c.peak.ensures.left c.peak.ensures.right c.requires.cases
      (λ r1 r2 are. OnTrue_at c.if-self.true (c.requires.equal r1 r2 are)) c.args.self.now.passed
      c.saturating_add-self.result (sym c.if-guards_hold.true ∙ c.guards_hold.ensures)
      (λ l. (let e = c.saturating_add-self.ensures in grind (arith, nat_tests)));
  finds = λ e. absurd (true≢false (sym e));
}

pub returns-else-guards_hold-clause-visited : goal.returns-else-guards_hold-clause-visited
returns-else-guards_hold-clause-visited c = record {
  same = refl;
  goes_on = λ _. passes_none (setting_of c.args.self.now) c.args.values.now c.requires.overlap c.requires.unified
      c.args.self.now.passed (sym c.if-guards_hold.false ∙ c.guards_hold.ensures);
  finds = λ e. absurd (true≢false (sym e));
}

pub returns-in_default-clause-visited : goal.returns-in_default-clause-visited
returns-in_default-clause-visited c = record {
  same = refl;
  goes_on = λ _. no_case (setting_of c.args.self.now) c.args.values.now c.args.self.now.passed c.in_ok-case.field-0
      c.in_default.not-Some (λ r1 r2 are. c.in_ok-case.ensures r1 r2 are);
  finds = λ e. absurd (true≢false (sym e));
}

pub different_ends-requires-clause-left : goal.different_ends-requires-clause-left
different_ends-requires-clause-left c =
    (applicable c.peak.ensures.left c.peak.ensures.right (setting_of c.args.self.now) c.args.values.now c.in-Some.case
    c.requires.overlap c.requires.unified c.requires.cases
    (λ r1 r2 are. sym c.in-Some.is ∙ c.in_ok-case.ensures r1 r2 are)).0

pub different_ends-requires-clause-right : goal.different_ends-requires-clause-right
different_ends-requires-clause-right c =
    (applicable c.peak.ensures.left c.peak.ensures.right (setting_of c.args.self.now) c.args.values.now c.in-Some.case
    c.requires.overlap c.requires.unified c.requires.cases
    (λ r1 r2 are. sym c.in-Some.is ∙ c.in_ok-case.ensures r1 r2 are)).1

pub returns-in_default-2-clause-visited : goal.returns-in_default-2-clause-visited
returns-in_default-2-clause-visited c = record {
  same = refl;
  goes_on = λ _. joins (setting_of c.args.self.now) c.args.values.now c.in-Some.case c.args.self.now.passed
      c.saturating_add-self-in_default-2.result (λ r1 r2 are. sym c.in-Some.is ∙ c.in_ok-case.ensures r1 r2 are)
      (from_none c.in_ok-ends.field-0 _ c.in_default-2.not-Some c.in_ok-ends.ensures.joinable)
      (λ l. (let e = c.saturating_add-self-in_default-2.ensures in grind (arith, nat_tests)));
  finds = λ e. absurd (true≢false (sym e));
}

pub returns-clause-visited : goal.returns-clause-visited
returns-clause-visited c = record {
  same = refl;
  goes_on = λ e. absurd (true≢false e);
  finds = λ _. fails (setting_of c.args.self.now) c.args.values.now c.in-Some.case c.in_ok-failure.failure _
      (λ r1 r2 are. sym c.in-Some.is ∙ c.in_ok-case.ensures r1 r2 are) refl c.in_ok-failure.ensures.overlap
      c.in_ok-failure.ensures.explains;
}
