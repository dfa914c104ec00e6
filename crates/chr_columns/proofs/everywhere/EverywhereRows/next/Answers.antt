use Rattle.chr_columns.specs.working.Finding.{rows_but}
use Rattle.chr_columns.proofs.Turns.{lives_in_table}
use Rattle.chr_columns.proofs.everywhere.EverywhereRows.next.Goals as goal

pub returns-clause-lives : goal.returns-clause-lives
returns-clause-lives c =
    let s = c.args.self.now in
    lives_in_table (rows_but s.tables.now s.fresh.now s.active) c.args._table c.args._index c.below.result c.requires
    c.below.ensures.lives

pub returns-clause-own_ranks : goal.returns-clause-own_ranks
returns-clause-own_ranks c = λ n m live lives same. same
