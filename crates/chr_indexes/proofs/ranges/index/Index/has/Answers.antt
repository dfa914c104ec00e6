use Rattle.std.proofs.Common.{ap, ◌∙◌, subst}
use Rattle.std.proofs.lemmas.Bool.{OnTrue_from}
use Rattle.chr_indexes.specs.RangedRows.{HasEntryHash}
use Rattle.chr_indexes.proofs.EntriesBelow.{lives_hash, read_row}
use Rattle.chr_indexes.proofs.ranges.index.Index.has.Goals as goal

pub returns-then-is_at : goal.returns-then-is_at
returns-then-is_at c = OnTrue_from c.index.result.now.alive _ (λ lives.
    let at = rw c.deref.ensures.value at c.if-is_at.ensures in
    let row = read_row c.self.inside.rows.items c.args.row c.index.result.now at.0 c.index.ensures in
    subst (λ x. HasEntryHash x.rows c.args.hash c.args.row) c.self.view_is
    (lives_hash c.self.inside.rows.items c.args.hash c.args.row (ap (λ x. x.alive) row ∙ lives) at.1))
