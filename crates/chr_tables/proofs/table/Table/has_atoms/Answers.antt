use Rattle.std.proofs.Common.{length, ap, arith}
use Rattle.std.specs.Prelude.{filter, is_some}
use Rattle.std.proofs.lemmas.Bool.{ltb-true, lt-ltb}
use Rattle.chr_tables.proofs.Lives.{live_or_dead}
use Rattle.chr_tables.proofs.table.Table.has_atoms.Goals as goal

pub returns : goal.returns
returns c =
    let rows = live_or_dead c.self.inside.atoms c.self.inside.alive.items c.self.invariant.as_alive in
    let dead = c.self.invariant.counted in
    let v = ap (λ t. length (filter is_some t.rows)) c.self.view_is in
    let len = c.len.ensures in (
      λ t. (let l = ltb-true _ _ t in omega (arith, rows, dead, v, len, l)),
      λ l. lt-ltb _ _ (omega (arith, rows, dead, v, len, l)),
    )
