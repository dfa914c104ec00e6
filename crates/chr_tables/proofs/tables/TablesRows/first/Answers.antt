use Rattle.chr_tables.proofs.Reading.{table_is, index_there}
use Rattle.chr_tables.proofs.tables.TablesRows.first.Goals as goal

pub first-requires : goal.first-requires
first-requires c = index_there c.args.self.now.tables.items c.args.table c.args.index c.index_mut.result.now c.requires
    c.index_mut.ensures.value

pub returns-clause-greatest : goal.returns-clause-greatest
returns-clause-greatest c =
    rw (← table_is c.args.self.now.tables.items c.args.table c.args.index c.index_mut.result.now c.requires
    c.index_mut.ensures.value) c.first.ensures.newest

pub returns-clause-none : goal.returns-clause-none
returns-clause-none c =
    rw (← table_is c.args.self.now.tables.items c.args.table c.args.index c.index_mut.result.now c.requires
    c.index_mut.ensures.value) c.first.ensures.none
