use Rattle.std.proofs.Common.{ap, ◌∙◌, arith}
use Rattle.std.specs.Prelude.{Some, option_map}
use Rattle.std.proofs.lemmas.Option.{slice_get-map}
use Rattle.chr_columns.specs.working.Making.{made_ways}
use Rattle.chr_columns.proofs.Finding.{table_of_most}
use Rattle.chr_columns.proofs.Makings.{grows_at, index_at}
use Rattle.chr_columns.proofs.making.look_up.Goals as goal

pub index_mut-requires : goal.index_mut-requires
index_mut-requires c =
    let m = table_of_most c.args.groups.now c.head_at-pattern.result.now.symbol c.len.result in
    let t = c.table_of-table.ensures in
    let n = c.requires.tables in
    omega (arith, m, t, n, c.args.keys.now.ok.0)

pub returns-in_err-index-clause-grows : goal.returns-in_err-index-clause-grows
returns-in_err-index-clause-grows c =
    grows_at c.args.keys.now.items c.table_of-table.result c.index_mut.result.now c.index_for.new.keys
    (let m = table_of_most c.args.groups.now c.head_at-pattern.result.now.symbol c.len.result in let t =
    c.table_of-table.ensures in let n = c.requires.tables in omega (arith, m, t, n))
    c.index_mut.ensures.value c.index_for.ensures.stay

pub returns-clause-grows : goal.returns-clause-grows
returns-clause-grows c =
    grows_at c.args.keys.now.items c.table_of-table.result c.index_mut.result.now c.index_for.new.keys
    (let m = table_of_most c.args.groups.now c.head_at-pattern.result.now.symbol c.len.result in let t =
    c.table_of-table.ensures in let n = c.requires.tables in omega (arith, m, t, n))
    c.index_mut.ensures.value c.index_for.ensures.stay

pub returns-clause-index : goal.returns-clause-index
returns-clause-index c =
    index_at c.args.keys.now.items c.table_of-table.result c.index_for.new.keys c.in_ok-index.index _
    (let m = table_of_most c.args.groups.now c.head_at-pattern.result.now.symbol c.len.result in let t =
    c.table_of-table.ensures in let n = c.requires.tables in omega (arith, m, t, n))
    (slice_get-map (λ w. w.0) (made_ways c.index_for.new.keys) c.in_ok-index.index
    ∙ ap (option_map (λ w. w.0)) c.in_ok-index.ensures.index ∙ ap Some c.columns.ensures)
