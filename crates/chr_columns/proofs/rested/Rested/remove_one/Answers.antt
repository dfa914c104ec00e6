use Rattle.std.specs.Prelude.{is_some}
use Rattle.std.proofs.Common.{ap, ◌∙◌}
use Rattle.chr_columns.proofs.Removals.{counted_here, row_at}
use Rattle.chr_columns.proofs.rested.Rested.remove_one.Goals as goal

pub returns-in_default-clause-none : goal.returns-in_default-clause-none
returns-in_default-clause-none c =
    counted_here c.args.self.now.tables.tables.items c.table_for-table.result c.index.result.now
    c.table_for-table.ensures.there c.index.ensures
    c.args.self.now.rules.items c.args.self.now.directory.groups.items c.args.atom.now c.table_for-table.ensures.number
    c.requires.set_up
    ∙ c.in_default.ensures.none

pub kill_one-requires-clause-lives : goal.kill_one-requires-clause-lives
kill_one-requires-clause-lives c =
    ap is_some (row_at c.args.self.now.tables.tables.items c.table_for-table.result c.index.result.now
    c.table_for-table.ensures.there c.index.ensures c.in-Some.row c.args.atom.now c.in-Some.ensures.found)

pub returns-clause-taken : goal.returns-clause-taken
returns-clause-taken c =
    c.kill_one.ensures.taken c.args.atom.now
    (row_at c.args.self.now.tables.tables.items c.table_for-table.result c.index.result.now
    c.table_for-table.ensures.there c.index.ensures c.in-Some.row c.args.atom.now c.in-Some.ensures.found)
