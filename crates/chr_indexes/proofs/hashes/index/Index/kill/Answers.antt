use Rattle.std.proofs.Common.{ap, ◌∙◌, arith, length, refl, set}
use Rattle.std.specs.Prelude.{None}
use Rattle.chr_indexes.specs.declared.hashes.row.Row.{Row}
use Rattle.chr_indexes.proofs.HashRows.{length_rows, rows_kill, index_kill}
use Rattle.chr_indexes.proofs.hashes.index.Index.kill.Goals as goal

pub index_mut-requires : goal.index_mut-requires
index_mut-requires c =
    let l = length_rows c.self.inside.rows.items in
    let v = ap (λ x. length x.rows) c.self.view_is in
    let r = c.requires in
    omega (arith, l, v, r, c.self.inside.rows.ok.0)

pub invariant_of-self : goal.invariant_of-self
invariant_of-self c = index_kill c.self.inside.rows.items c.self.inside.heads.items c.args.row _
    c.index_mut.result.now c.self.invariant (ap (λ (r : Row). r.hash) c.index_mut.ensures.value)
    (ap (λ (r : Row). r.next) c.index_mut.ensures.value) refl

pub returns-clause-rows : goal.returns-clause-rows
returns-clause-rows c = rows_kill c.self.inside.rows.items c.args.row _ c.index_mut.result.now
    (ap (λ (r : Row). r.hash) c.index_mut.ensures.value) refl ∙ ap (λ x. set x.rows c.args.row None) c.self.view_is
