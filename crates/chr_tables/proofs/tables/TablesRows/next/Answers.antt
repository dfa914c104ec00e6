use Rattle.chr_tables.proofs.Reading.{table_is, index_there}
use Rattle.chr_tables.proofs.tables.TablesRows.next.Goals as goal

pub next-requires : goal.next-requires
next-requires c = index_there c.args.self.now.tables.items c.args.table c.args.index c.index_mut.result.now c.requires
    c.index_mut.ensures.value

pub returns-clause-greatest : goal.returns-clause-greatest
returns-clause-greatest c =
    rw (← table_is c.args.self.now.tables.items c.args.table c.args.index c.index_mut.result.now c.requires
    c.index_mut.ensures.value) c.next.ensures.newest

pub returns-clause-none : goal.returns-clause-none
returns-clause-none c =
    rw (← table_is c.args.self.now.tables.items c.args.table c.args.index c.index_mut.result.now c.requires
    c.index_mut.ensures.value) c.next.ensures.none

pub returns-clause-own_ranks : goal.returns-clause-own_ranks
returns-clause-own_ranks c = λ n m live lives same. same
