use Rattle.std.proofs.Common.{◌≡◌, length, set, sym, ap, ◌∙◌, arith}
use Rattle.std.specs.Prelude.{None}
use Rattle.std.proofs.lemmas.List.{length-set}
use Rattle.chr_tables.specs.working.Indexes.{live, ways_of}
use Rattle.chr_tables.proofs.Lives.{live_kill, length_live, dead_most, table_kill, length_ways}
use Rattle.chr_tables.proofs.Walks.{put_back}
use Rattle.chr_tables.proofs.table.Table.kill.Goals as goal

pub mark_dead-requires : goal.mark_dead-requires
mark_dead-requires c =
    let n = length_live c.self.inside.atoms c.self.inside.alive.items c.self.invariant.as_alive in
    let e = ap (λ t. length t.rows) c.self.view_is in
    let a = c.self.invariant.as_alive in
    let r = c.requires in
    omega (arith, n, e, r, a, c.self.inside.alive.ok.0)

pub overflow_add-self : goal.overflow_add-self
overflow_add-self c =
    let died = c.mark_dead.ensures.count in
    let dead = c.self.invariant.counted in
    let most = dead_most c.mark_dead.new.alive.items in
    let len = ap length c.mark_dead.ensures.flags ∙ length-set c.self.inside.alive.items _ _ in
    let a = c.self.invariant.as_alive in
    let few = c.self.invariant.few in
    omega (arith, died, dead, most, len, a, few)

pub invariant_of-self : goal.invariant_of-self
invariant_of-self c =
    let ways : ways_of c.kill_in.new.indexes ≡ ways_of c.self.inside.indexes.items = c.kill_in.ensures.ways
    ∙ ap ways_of c.deref_mut.ensures.value in
    let len : length c.kill_in.new.indexes ≡ length c.self.inside.indexes.items =
    sym (length_ways c.kill_in.new.indexes) ∙ ap length ways ∙ length_ways c.self.inside.indexes.items in
    let whole = put_back c.kill_in.new.indexes c.self.inside.indexes.items c.self.inside.indexes.len len
    (omega (arith, c.self.inside.indexes.ok.0)) in
    rw (whole, c.mark_dead.ensures.flags) (table_kill _ _ _ _ c.self.inside.indexes.items _ c.args.row c.self.invariant
    ways (rw c.deref_mut.ensures.value at c.kill_in.ensures.rows)
    (length-set c.self.inside.alive.items _ _) (rw c.mark_dead.ensures.flags at c.mark_dead.ensures.count))

pub returns-clause-rows : goal.returns-clause-rows
returns-clause-rows c = ap (live c.self.inside.atoms) c.mark_dead.ensures.flags
    ∙ live_kill _ _ c.args.row c.self.invariant.as_alive
    ∙ ap (λ t. set t.rows c.args.row None) c.self.view_is

pub overflow_cast-row : goal.overflow_cast-row
overflow_cast-row c =
    let n = length_live c.self.inside.atoms c.self.inside.alive.items c.self.invariant.as_alive in
    let e = ap (λ t. length t.rows) c.self.view_is in
    let f = c.self.invariant.few in
    let r = c.requires in
    omega (arith, n, e, f, r)
