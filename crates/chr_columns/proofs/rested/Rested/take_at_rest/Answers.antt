use Rattle.std.specs.Prelude.{is_some}
use Rattle.std.proofs.Common.{◌<◌, length, sym, ap, ◌∙◌, arith, Some}
use Rattle.std.proofs.lemmas.Bool.Decides.{nat_tests}
use Rattle.chr_base.proofs.Atoms.{same_is}
use Rattle.chr_columns.proofs.Removals.{row_at}
use Rattle.chr_columns.proofs.rested.Rested.take_at_rest.Goals as goal

pub kill_one-requires-clause-lives : goal.kill_one-requires-clause-lives
kill_one-requires-clause-lives c =
    let test = c.in-Some.ensures.lookup.0 in
    let within : c.args.seat.table < length c.deref.result.now = grind (arith, nat_tests) in
    ap is_some (row_at c.args.self.now.tables.tables.items c.args.seat.table c.in-Some.table.now
    (rw c.deref.ensures.value at within) (rw c.deref.ensures.value at c.in-Some.ensures.lookup.1) c.args.seat.row
    c.in-Some-get.other (sym c.in-Some-get.ensures))

pub returns-clause-taken : goal.returns-clause-taken
returns-clause-taken c =
    let test = c.in-Some.ensures.lookup.0 in
    let within : c.args.seat.table < length c.deref.result.now = grind (arith, nat_tests) in
    let same = same_is c.args.atom.now c.in-Some-get.other (sym c.is_same.ensures ∙ c.if-not-is_same.false) in
    c.kill_one.ensures.taken c.args.atom.now
    (row_at c.args.self.now.tables.tables.items c.args.seat.table c.in-Some.table.now
    (rw c.deref.ensures.value at within) (rw c.deref.ensures.value at c.in-Some.ensures.lookup.1) c.args.seat.row
    c.args.atom.now (sym c.in-Some-get.ensures ∙ ap Some (sym same)))
