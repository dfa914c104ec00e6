use Rattle.std.proofs.Common.{arith, ◌+◌, sym, ◌∙◌}
use Rattle.chr_tables.specs.LaneRows.{lent_columns, NonePasses, HaveValues}
use Rattle.chr_tables.proofs.LaneRuns.{joined, least_joined, none_joined, not_found}
use Rattle.chr_tables.proofs.lanes.rows.first_row.Goals as goal
use Rattle.chr_tables.proofs.lanes.rows.first_row.Goals.{then-may_pass+else-is_some, else-may_pass}

pub returns-then-is_some-clause-least : goal.returns-then-is_some-clause-least
returns-then-is_some-clause-least c = λ values.
    least_joined (lent_columns c.args.columns.now) c.args.tests.now c.args.from c.loop-at.at
    (c.loop-at.invariant.none values) c.first_among-found.result c.first_among-found.ensures.least

pub loop-at-preserved : goal.loop-at-preserved
loop-at-preserved c = record {
  from_on = omega arith;
  within = omega arith;
  none = λ values. joined (lent_columns c.args.columns.now) c.args.tests.now c.args.from c.loop-at.at
      (c.loop-at.invariant.none values) (c.loop-at.at + 8) (here values);
}
  where
    here : HaveValues (lent_columns c.args.columns.now)
        → NonePasses (lent_columns c.args.columns.now) c.args.tests.now c.loop-at.at (c.loop-at.at + 8)
    here values = elim c.if-may_pass.branch as (λ _. NonePasses (lent_columns c.args.columns.now) c.args.tests.now
        c.loop-at.at (c.loop-at.at + 8)) [
          | then-may_pass+else-is_some w ↦ not_found w.first_among-found.result
              (sym w.is_some.ensures ∙ w.if-is_some.false)
              w.first_among-found.ensures.none
          | else-may_pass w ↦ c.may_pass.ensures w.if-may_pass.false values
        ]

pub returns-clause-least : goal.returns-clause-least
returns-clause-least c = λ values.
    least_joined (lent_columns c.args.columns.now) c.args.tests.now c.args.from c.loop-at.at
    (c.loop-at.invariant.none values) c.first_among.result c.first_among.ensures.least

pub returns-clause-none : goal.returns-clause-none
returns-clause-none c = λ values.
    none_joined (lent_columns c.args.columns.now) c.args.tests.now c.args.from c.loop-at.at
    (c.loop-at.invariant.none values) c.first_among.result c.args.rows c.first_among.ensures.none
