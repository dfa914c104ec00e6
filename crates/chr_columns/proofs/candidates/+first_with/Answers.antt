use Rattle.std.proofs.Common.{rules, ◌≡◌, length, subst, sym, ◌∙◌, ap, arith}
use mir.Val.{SFits}
use mir.Syntax.{w64}
use Rattle.std.specs.Prelude.{Some}
use Rattle.std.specs.Option.{unwrap_or}
use Rattle.std.proofs.lemmas.Int.{to_z-of_z}
use Rattle.chr_columns.specs.working.Listing.{rows_in_turn}
use Rattle.chr_columns.proofs.Passing.{Pass, searched, first_passed, others_passed}
use Rattle.chr_columns.proofs.candidates.+first_with.Goals as goal

pub returns-then-from-rows-clause-passed : goal.returns-then-from-rows-clause-passed
returns-then-from-rows-clause-passed t c =
    let rows = c.table-item.result.rows in
    let n : c.len-rows.result ≡ length rows = c.len-rows.ensures.rows in
    let to : unwrap_or c.first_with.result (length rows) ≡ c.unwrap_or.result =
    ap (unwrap_or c.first_with.result) (sym n) ∙ sym c.unwrap_or.ensures in
    let fits : SFits w64 c.args.known.value = search rules in
    let value = to_z-of_z w64 c.args.known.value fits in
    let w = searched c.args.known rows c.args.from c.first_with.result (rw value at c.first_with.ensures.has)
    (rw value at c.first_with.ensures.least) (rw value at c.first_with.ensures.none) in
    subst (λ k. Pass (Some c.args.known) (rows_in_turn c.args.tables.now c.args.fresh.now) c.args.from k) to
    (first_passed (Some c.args.known) c.args.tables.now c.args.fresh.now c.table-item.result c.args.from
    (unwrap_or c.first_with.result (length rows)) c.in-len1-up.len_at_least c.table-item.is w.0 w.1)

pub returns-else-from-rows-clause-passed : goal.returns-else-from-rows-clause-passed
returns-else-from-rows-clause-passed t c =
    let n = c.len-rows.ensures.rows in
    let test = c.if-from-rows.false in
    rw n (others_passed (Some c.args.known) c.args.tables.now c.args.fresh.now c.table-item.result c.args.from
    c.first_with-else-from-rows.result c.in-len1-up.len_at_least c.table-item.is
    (omega (arith, n, test)) (rw n at c.first_with-else-from-rows.ensures.passed))
