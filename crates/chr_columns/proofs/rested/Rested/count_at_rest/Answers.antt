use Rattle.std.proofs.Common.{sym, ◌∙◌}
use Rattle.chr_columns.proofs.Removals.{counted_here}
use Rattle.chr_columns.proofs.rested.Rested.count_at_rest.Goals as goal

pub returns : goal.returns
returns c =
    let t = c.table_for.ensures in
    c.count_rows.ensures
    ∙ sym (counted_here c.args.self.now.tables.tables.items c.table_for.result c.index.result.now t.there
    c.index.ensures
    c.args.self.now.rules.items c.args.self.now.directory.groups.items c.args.atom.now t.number c.requires.set_up)
