use Rattle.std.proofs.Common.{◌+◌, cond, false, sym, ap, ◌∙◌}
use Rattle.std.proofs.lemmas.List.{get_or_default}
use Rattle.chr_tables.specs.working.Indexes.{dead_in}
use Rattle.chr_tables.proofs.Lives.{dead_one}
use Rattle.chr_tables.proofs.table.mark_dead.Goals as goal

pub returns-then-lived-clause-count : goal.returns-then-lived-clause-count
returns-then-lived-clause-count c =
    let flags = c.args.alive.now.items in
    let is = get_or_default flags c.args.row false c.index-lived.result.now c.requires ∙ sym c.index-lived.ensures in
    dead_one flags c.args.row c.requires ∙ ap (λ b. dead_in flags + cond b 1 0) (is ∙ c.if-lived.true)

pub returns-else-lived-clause-count : goal.returns-else-lived-clause-count
returns-else-lived-clause-count c =
    let flags = c.args.alive.now.items in
    let is = get_or_default flags c.args.row false c.index-lived.result.now c.requires ∙ sym c.index-lived.ensures in
    dead_one flags c.args.row c.requires ∙ ap (λ b. dead_in flags + cond b 1 0) (is ∙ c.if-lived.false)
