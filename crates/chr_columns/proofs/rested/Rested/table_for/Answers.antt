use Rattle.std.proofs.Common.{◌≡◌, ◌∙◌, ap, arith}
use Rattle.chr_columns.specs.working.Groups.{table_of, table_of_atom}
use Rattle.chr_columns.proofs.Putting.{has_table}
use Rattle.chr_columns.proofs.rested.Rested.table_for.Goals as goal

pub returns : goal.returns
returns c =
    let t : c.table_of.result ≡ table_of_atom c.args.self.now.directory.groups.items c.args.atom.now =
    c.table_of.ensures ∙ ap (table_of c.args.self.now.directory.groups.items c.args.atom.now.symbol)
    c.len.ensures.value in
    let w = has_table _ _ _ c.args.atom.now c.requires.set_up in
    record { number = t; there = omega (arith, t, w) }
