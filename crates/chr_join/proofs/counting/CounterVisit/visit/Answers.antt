use Rattle.std.proofs.Common.{refl, sym, ◌∙◌, arith}
use mathlib.Core.Bool.{true≢false}
use Rattle.std.proofs.lemmas.Bool.Decides.{nat_tests}
use Rattle.chr_join.proofs.counting.CounterVisit.visit.Goals as goal

pub returns-then-not-guards_hold-clause-visited : goal.returns-then-not-guards_hold-clause-visited
returns-then-not-guards_hold-clause-visited c = record {
  same = refl;
  goes_on = refl;
  holds = λ e l. absurd (true≢false (sym e ∙ sym c.guards_hold.ensures ∙ c.if-not-guards_hold.true));
  fails = λ e. refl;
}

pub returns-clause-visited : goal.returns-clause-visited
returns-clause-visited c = record {
  same = refl;
  goes_on = refl;
  holds = λ e l. (let a = c.saturating_add-self.ensures in grind (arith, nat_tests));
  fails = λ e. absurd (true≢false (sym c.if-not-guards_hold.false ∙ c.guards_hold.ensures ∙ e));
}
