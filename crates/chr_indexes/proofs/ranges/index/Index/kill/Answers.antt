use Rattle.std.proofs.Common.{length, set, arith, refl, ap, ◌∙◌}
use Rattle.std.specs.Prelude.{None}
use Rattle.chr_indexes.proofs.EntriesBelow.{index_kill, entries_kill, length_entries}
use Rattle.chr_indexes.proofs.ranges.index.Index.kill.Goals as goal

pub invariant_of-self : goal.invariant_of-self
invariant_of-self c =
    let v = ap (λ x. length x.rows) c.self.view_is in
    let size = length_entries c.self.inside.rows.items in
    let r = c.requires in
    index_kill _ _ _ c.args.row c.index_mut.result.now _ c.self.invariant
    (omega (arith, v, size, r)) c.index_mut.ensures.value refl refl refl

pub returns-clause-rows : goal.returns-clause-rows
returns-clause-rows c = entries_kill c.self.inside.rows.items c.args.row _ refl
    ∙ ap (λ x. set x.rows c.args.row None) c.self.view_is
