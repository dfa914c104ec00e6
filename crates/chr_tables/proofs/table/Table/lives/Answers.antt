use Rattle.std.proofs.Common.{◌<◌, ◌≤◌, length, get_or, sym, ap, ◌∙◌, arith}
use Rattle.std.specs.Prelude.{None, is_some}
use Rattle.std.proofs.lemmas.Bool.{le-ltb}
use Rattle.std.proofs.lemmas.List.{get_or_past}
use Rattle.chr_base.specs.Atoms.{no_atom}
use Rattle.chr_tables.specs.working.Indexes.{live}
use Rattle.chr_tables.proofs.Lives.{live_at, length_live, some_by}
use Rattle.chr_tables.proofs.table.Table.lives.Goals as goal

pub returns-then-row-len : goal.returns-then-row-len
returns-then-row-len c =
    let l : c.args.row < length c.self.inside.atoms = (let t = c.if-row-len.true in let e = c.len.ensures in
    omega (arith, t, e)) in
    let at = live_at c.self.inside.atoms c.self.inside.alive.items c.args.row no_atom c.index.result.now
    c.self.invariant.as_alive l in
    sym (ap is_some at ∙ some_by _ (get_or c.self.inside.atoms c.args.row no_atom) ∙ sym c.index.ensures)
    ∙ ap (λ t. is_some (get_or t.rows c.args.row None)) c.self.view_is

pub returns-else-row-len : goal.returns-else-row-len
returns-else-row-len c =
    let n = length_live c.self.inside.atoms c.self.inside.alive.items c.self.invariant.as_alive in
    let l : length (live c.self.inside.atoms c.self.inside.alive.items) ≤ c.args.row =
    (let t = c.if-row-len.false in let e = c.len.ensures in omega (arith, n, t, e)) in
    le-ltb _ _ c.if-row-len.false
    ∙ sym (ap is_some (get_or_past (live c.self.inside.atoms c.self.inside.alive.items) c.args.row None l))
    ∙ ap (λ t. is_some (get_or t.rows c.args.row None)) c.self.view_is
