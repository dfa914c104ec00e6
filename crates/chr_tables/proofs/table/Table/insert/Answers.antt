use Rattle.std.proofs.Common.{◌≡◌, ◌+◌, ◌<◌, ◌^◌, [], ◌∷◌, ◌++◌, length, sym, ap, ◌∙◌, arith}
use Rattle.std.specs.Prelude.{Some}
use Rattle.chr_tables.specs.working.Indexes.{keyed_entries, ways_of}
use Rattle.chr_tables.proofs.Lives.{live_push, table_same, table_push, length_ways, each_few}
use Rattle.chr_tables.proofs.Walks.{put_back}
use Rattle.chr_tables.proofs.table.Table.insert.Goals as goal

pub invariant_of-self-2 : goal.invariant_of-self-2
invariant_of-self-2 c =
    let ways : ways_of c.reserve_in.new.indexes ≡ ways_of c.self.inside.indexes.items = c.in_ok-reserve_in.ensures.ways
    ∙ ap ways_of c.deref_mut.ensures.value in
    let rows : keyed_entries c.reserve_in.new.indexes ≡ keyed_entries c.self.inside.indexes.items =
    c.in_ok-reserve_in.ensures.rows ∙ ap keyed_entries c.deref_mut.ensures.value in
    let len : length c.reserve_in.new.indexes ≡ length c.self.inside.indexes.items =
    sym (length_ways c.reserve_in.new.indexes) ∙ ap length ways ∙ length_ways c.self.inside.indexes.items in
    let cap : c.self.inside.indexes.len ≡ length c.self.inside.indexes.items =
    omega (arith, c.self.inside.indexes.ok.0) in
    let whole = put_back c.reserve_in.new.indexes c.self.inside.indexes.items c.self.inside.indexes.len len cap in
    let now : c.deref_mut-2.result.now ≡ c.reserve_in.new.indexes = c.deref_mut-2.ensures.value ∙ whole in
    let ways2 : ways_of c.push_in.new.indexes ≡ ways_of c.reserve_in.new.indexes = c.push_in.ensures.ways
    ∙ ap ways_of now in
    let len2 : length c.push_in.new.indexes ≡ length c.reserve_in.new.indexes = sym (length_ways c.push_in.new.indexes)
    ∙ ap length ways2 ∙ length_ways c.reserve_in.new.indexes in
    let whole2 = put_back c.push_in.new.indexes c.reserve_in.new.indexes c.self.inside.indexes.len len2
    (cap ∙ sym len) in
    let more : length c.self.inside.atoms + 1 < 2 ^ 32 =
    (let t = c.if-len-ge-MAX_ROWS.false in let e = c.len.ensures in omega (arith, t, e)) in
    rw (whole, whole2, c.in_ok-push.ensures.ok, c.push_reserved.ensures.items, c.in_ok-reserve.ensures.items)
    (table_push _ _ _ c.reserve_in.new.indexes _ c.args.atom.now (table_same _ _ _ _ _ c.self.invariant ways rows) more
    ways2 (λ j l. (rw now at (c.push_in.ensures.rows j (let a = ap length now in omega (arith, a, l))))))

pub reserve_in-requires : goal.reserve_in-requires
reserve_in-requires c =
    let more : length c.self.inside.atoms + 1 < 2 ^ 32 =
    (let t = c.if-len-ge-MAX_ROWS.false in let e = c.len.ensures in omega (arith, t, e)) in
    rw c.deref_mut.ensures.value (each_few _ _ _ c.self.inside.indexes.items c.self.invariant more)

pub push_in-requires-clause-room : goal.push_in-requires-clause-room
push_in-requires-clause-room c =
    let rows : keyed_entries c.reserve_in.new.indexes ≡ keyed_entries c.self.inside.indexes.items =
    c.in_ok-reserve_in.ensures.rows ∙ ap keyed_entries c.deref_mut.ensures.value in
    let ways : ways_of c.reserve_in.new.indexes ≡ ways_of c.self.inside.indexes.items = c.in_ok-reserve_in.ensures.ways
    ∙ ap ways_of c.deref_mut.ensures.value in
    let len : length c.reserve_in.new.indexes ≡ length c.self.inside.indexes.items =
    sym (length_ways c.reserve_in.new.indexes) ∙ ap length ways ∙ length_ways c.self.inside.indexes.items in
    let now = c.deref_mut-2.ensures.value ∙ put_back c.reserve_in.new.indexes c.self.inside.indexes.items
    c.self.inside.indexes.len len (omega (arith, c.self.inside.indexes.ok.0)) in
    rw (now, rows) (λ j l. (rw c.deref_mut.ensures.value at
    (c.in_ok-reserve_in.ensures.ok j (let e = ap length c.deref_mut.ensures.value in omega (arith, e, len, l)))))

pub push_in-requires-clause-few : goal.push_in-requires-clause-few
push_in-requires-clause-few c =
    let rows : keyed_entries c.reserve_in.new.indexes ≡ keyed_entries c.self.inside.indexes.items =
    c.in_ok-reserve_in.ensures.rows ∙ ap keyed_entries c.deref_mut.ensures.value in
    let ways : ways_of c.reserve_in.new.indexes ≡ ways_of c.self.inside.indexes.items = c.in_ok-reserve_in.ensures.ways
    ∙ ap ways_of c.deref_mut.ensures.value in
    let len : length c.reserve_in.new.indexes ≡ length c.self.inside.indexes.items =
    sym (length_ways c.reserve_in.new.indexes) ∙ ap length ways ∙ length_ways c.self.inside.indexes.items in
    let now = c.deref_mut-2.ensures.value ∙ put_back c.reserve_in.new.indexes c.self.inside.indexes.items
    c.self.inside.indexes.len len (omega (arith, c.self.inside.indexes.ok.0)) in
    let more : length c.self.inside.atoms + 1 < 2 ^ 32 =
    (let t = c.if-len-ge-MAX_ROWS.false in let e = c.len.ensures in omega (arith, t, e)) in
    rw (now, rows) (λ j l. each_few _ _ _ c.self.inside.indexes.items c.self.invariant more j (omega (arith, len, l)))

pub returns-clause-ok : goal.returns-clause-ok
returns-clause-ok c =
    rw (c.in_ok-push.ensures.ok, c.push_reserved.ensures.items, c.in_ok-reserve.ensures.items)
    (live_push _ _ c.args.atom.now c.self.invariant.as_alive
    ∙ ap (λ t. t.rows ++ Some c.args.atom.now ∷ []) c.self.view_is)
