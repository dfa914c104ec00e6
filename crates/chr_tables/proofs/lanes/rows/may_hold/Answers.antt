use Rattle.std.proofs.Common.{◌≡◌, ℕ, ◌+◌, ◌<◌, get_or, pos, sym, subst, ap, ◌∙◌, w64, rules}
use mir.Val.{SFits}
use Rattle.std.specs.Ordering.{int_cmp}
use Rattle.chr_base.specs.Rules.{compares}
use Rattle.std.proofs.lemmas.Int.{to_z-of_z}
use Rattle.chr_tables.specs.LaneRows.{lent_columns, value_at, against_at, IsThere}
use Rattle.chr_tables.specs.working.Lanes.{FailsAgainst}
use Rattle.chr_tables.proofs.LaneBlocks.{fails_in_block, value_in, fits_lanes}
use Rattle.chr_tables.proofs.lanes.rows.may_hold.Goals as goal

pub returns-in-Value : goal.returns-in-Value
returns-in-Value c = λ e.
    let fits : SFits w64 c.in-Value.value = search rules in
    fails_in_block (lent_columns c.args.columns.now) c.args.test.now c.args.at c.block_of-left.result.now
    (λ lane l. c.block_of-left.ensures.lanes lane l ∙ value_in c.args.columns.now c.args.test.now.column
    (c.args.at + lane) _ c.requires.test.column)
    (λ lane l. subst (λ a. FailsAgainst c.block_of-left.result.now c.args.test.now.cmp
    (against_at (lent_columns c.args.columns.now) (c.args.at + lane) a) lane) (sym c.in-Value.is)
    (let none : FailsAgainst c.block_of-left.result.now c.args.test.now.cmp c.in-Value.value lane =
    rw (← to_z-of_z w64 c.in-Value.value fits) (c.holds_against.ensures e lane l) in none))

pub returns-in-Column : goal.returns-in-Column
returns-in-Column c = λ e values.
    let there : c.in-Column.column < _ = subst (IsThere _) c.in-Column.is c.requires.test.against in
    let y : (lane : ℕ) → lane < 8 → get_or c.block_of.result.now lane (pos 0)
    ≡ value_at (lent_columns c.args.columns.now) (c.args.at + lane) c.in-Column.column =
    λ lane l. c.block_of.ensures.lanes lane l ∙ value_in c.args.columns.now c.in-Column.column
    (c.args.at + lane) _ there in
    fails_in_block (lent_columns c.args.columns.now) c.args.test.now c.args.at c.block_of-left.result.now
    (λ lane l. c.block_of-left.ensures.lanes lane l ∙ value_in c.args.columns.now c.args.test.now.column
    (c.args.at + lane) _ c.requires.test.column)
    (λ lane l. subst (λ a. FailsAgainst c.block_of-left.result.now c.args.test.now.cmp
    (against_at (lent_columns c.args.columns.now) (c.args.at + lane) a) lane) (sym c.in-Column.is)
    (λ x. ap (λ b. compares c.args.test.now.cmp (int_cmp (get_or c.block_of-left.result.now lane (pos 0)) b))
    (sym (y lane l))
    ∙ c.holds_somewhere.ensures e lane l x (subst (SFits w64) (sym (y lane l))
    (fits_lanes _ (values c.in-Column.column (c.args.at + lane))))))
    values
