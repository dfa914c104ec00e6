use Rattle.std.proofs.Common.{◌≡◌}
use Rattle.chr_base.specs.FinBag.{◌⊕◌}
use Rattle.chr_base.specs.Rewriting.{Runs}
use Rattle.chr_base.specs.Rules.{Step}
use Rattle.chr_base.specs.Stores.{store_of}
use Rattle.chr_columns.specs.working.Resting.{stored, IsRested, Stands}
use Rattle.chr_columns.proofs.stepping.advance_own.Given as goal

abbrev pub invariant-loop-steps : goal.invariant-loop-steps
invariant-loop-steps l = record {
  rested : IsRested l.rested;
  rules : l.rested.rules ≡ l.fn.rested.rules;
  standing : Stands l.rested l.fresh.items l.standing;
  run : Runs (Step l.fn.rested.rules.items) l.steps (stored l.fn.rested ⊕ store_of l.fn.fresh.items)
      (stored l.rested ⊕ store_of l.fresh.items);
}
