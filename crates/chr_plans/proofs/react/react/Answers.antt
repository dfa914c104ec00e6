use Rattle.std.proofs.Common.{refl, ◌∙◌}
use Rattle.chr_plans.proofs.Reactions.{reacts, none_more, row_passed, resumes, before_first, fits_here}
use Rattle.chr_plans.proofs.react.react.Goals as goal

pub returns-then-find_partners-clause-found : goal.returns-then-find_partners-clause-found
returns-then-find_partners-clause-found g c =
    reacts c.args.rules.now _ (g.R.Rows.columns c.args.rows.now) c.args.active.now c.args.plans.now c.loop-j.j
    c.index-plans-j.result c.index-rules-plan.result
    c.loop-j-test.true c.index-plans-j.is c.index-rules-plan.is (c.requires.fits c.loop-j.j c.loop-j-test.true)
    _ _ _ (rw c.loop-j.invariant.rows at c.if-find_partners.ensures.found) c.if-find_partners.ensures.active
    c.if-find_partners.ensures.seats c.if-find_partners.ensures.values

pub loop-j-preserved : goal.loop-j-preserved
loop-j-preserved g c = record {
  rows = c.find_partners.ensures.rows ∙ c.loop-j.invariant.rows;
  columns = c.find_partners.ensures.columns ∙ c.loop-j.invariant.columns;
  tables = c.find_partners.ensures.tables ∙ c.loop-j.invariant.tables;
  rank = c.find_partners.ensures.rank ∙ c.loop-j.invariant.rank;
  none = none_more c.args.rules.now _ (g.R.Rows.columns c.args.rows.now) c.args.active.now c.args.plans.now c.loop-j.j
      c.index-plans-j.result c.index-rules-plan.result
      c.loop-j-test.true c.index-plans-j.is c.index-rules-plan.is (c.requires.fits c.loop-j.j c.loop-j-test.true)
      c.loop-j.invariant.none (rw c.loop-j.invariant.rows at c.if-find_partners.ensures.none);
}

pub loop-j-init : goal.loop-j-init
loop-j-init g c = record {
  rows = refl;
  columns = refl;
  tables = refl;
  rank = refl;
  none = before_first c.args.rules.now _ (g.R.Rows.rank c.args.rows.now) c.args.active.now c.args.plans.now
      c.args.from c.first_plan-j.result c.requires.passed c.first_plan-j.ensures.some c.first_plan-j.ensures.none;
}

pub find_partners-requires-clause-passed : goal.find_partners-requires-clause-passed
find_partners-requires-clause-passed g c =
    rw (c.loop-j.invariant.rows, c.loop-j.invariant.rank, c.deref.ensures.0)
    (row_passed c.args.rules.now _ (g.R.Rows.columns c.args.rows.now) c.args.active.now c.args.plans.now
    c.loop-j.j c.index-plans-j.result c.index-rules-plan.result c.loop-j-test.true c.index-plans-j.is
    c.index-rules-plan.is (c.requires.fits c.loop-j.j c.loop-j-test.true)
    (g.R.Rows.rank c.args.rows.now) c.args.from c.row_in-row.result c.requires.passed c.row_in-row.ensures)

pub returns-then-find_partners-clause-standing : goal.returns-then-find_partners-clause-standing
returns-then-find_partners-clause-standing g c =
    resumes c.args.rules.now _ (g.R.Rows.columns c.args.rows.now) c.args.active.now c.args.plans.now c.loop-j.j
    c.index-plans-j.result c.index-rules-plan.result
    c.loop-j-test.true c.index-plans-j.is c.index-rules-plan.is (c.requires.fits c.loop-j.j c.loop-j-test.true)
    (g.R.Rows.rank c.args.rows.now) _ c.loop-j.invariant.none
    (rw (c.loop-j.invariant.rows, c.loop-j.invariant.rank, c.deref.ensures.0) at c.if-find_partners.ensures.passed)

pub find_partners-requires-clause-place : goal.find_partners-requires-clause-place
find_partners-requires-clause-place g c =
    (fits_here c.args.rules.now _ (g.R.Rows.columns c.args.rows.now) c.args.active.now c.args.plans.now c.loop-j.j
    c.index-plans-j.result c.index-rules-plan.result c.loop-j-test.true c.index-plans-j.is c.index-rules-plan.is
    (c.requires.fits c.loop-j.j c.loop-j-test.true)).0

pub find_partners-requires-clause-plan : goal.find_partners-requires-clause-plan
find_partners-requires-clause-plan g c =
    rw c.deref.ensures.0 (fits_here c.args.rules.now _ (g.R.Rows.columns c.args.rows.now) c.args.active.now
    c.args.plans.now c.loop-j.j
    c.index-plans-j.result c.index-rules-plan.result c.loop-j-test.true c.index-plans-j.is c.index-rules-plan.is
    (c.requires.fits c.loop-j.j c.loop-j-test.true)).1

pub find_partners-requires-clause-fits : goal.find_partners-requires-clause-fits
find_partners-requires-clause-fits g c =
    rw (c.loop-j.invariant.rows, c.loop-j.invariant.columns, c.deref.ensures.0) (fits_here
    c.args.rules.now _ (g.R.Rows.columns c.args.rows.now) c.args.active.now c.args.plans.now c.loop-j.j
    c.index-plans-j.result c.index-rules-plan.result c.loop-j-test.true c.index-plans-j.is c.index-rules-plan.is
    (c.requires.fits c.loop-j.j c.loop-j-test.true)).2

pub loop-j-preserved-then-is_ruled_out : goal.loop-j-preserved-then-is_ruled_out
loop-j-preserved-then-is_ruled_out g c = record {
  rows = c.loop-j.invariant.rows;
  columns = c.loop-j.invariant.columns;
  tables = c.loop-j.invariant.tables;
  rank = c.loop-j.invariant.rank;
  none = none_more c.args.rules.now _ (g.R.Rows.columns c.args.rows.now) c.args.active.now c.args.plans.now c.loop-j.j
      c.index-plans-j.result c.index-rules-plan.result
      c.loop-j-test.true c.index-plans-j.is c.index-rules-plan.is (c.requires.fits c.loop-j.j c.loop-j-test.true)
      c.loop-j.invariant.none (c.if-is_ruled_out.ensures _);
}
