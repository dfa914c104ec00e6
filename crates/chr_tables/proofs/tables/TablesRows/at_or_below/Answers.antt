use Rattle.chr_tables.proofs.Reading.{table_is, index_there}
use Rattle.chr_tables.proofs.tables.TablesRows.at_or_below.Goals as goal

pub at_or_below-requires : goal.at_or_below-requires
at_or_below-requires c = index_there c.args.self.now.tables.items c.args.table c.args.index c.index_mut.result.now
    c.requires c.index_mut.ensures.value

pub returns-clause-greatest : goal.returns-clause-greatest
returns-clause-greatest c =
    rw (← table_is c.args.self.now.tables.items c.args.table c.args.index c.index_mut.result.now c.requires
    c.index_mut.ensures.value) c.at_or_below.ensures.newest

pub returns-clause-none : goal.returns-clause-none
returns-clause-none c =
    rw (← table_is c.args.self.now.tables.items c.args.table c.args.index c.index_mut.result.now c.requires
    c.index_mut.ensures.value) c.at_or_below.ensures.none
