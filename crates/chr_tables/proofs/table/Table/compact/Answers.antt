use Rattle.std.proofs.Common.{◌≡◌, ℕ, List, Bool, true, map, length, get_or, replicate, sym, ap, ◌∙◌, arith}
use Rattle.std.specs.Prelude.{Some, filter, is_some, vec_len}
use Rattle.std.proofs.lemmas.List.{length-replicate, get_or-replicate}
use Rattle.chr_base.specs.declared.atom.Atom.{Atom}
use Rattle.chr_tables.specs.working.Indexes.{live, chosen, dead_in, ways_of, keyed_entries}
use Rattle.chr_tables.proofs.Lives.{length_live, length_ways, as_many, none_dead}
use Rattle.chr_tables.proofs.Walks.{put_back}
use Rattle.chr_tables.proofs.Compacting.{chosen_most, chosen_rows, all_live}
use Rattle.chr_tables.proofs.table.Table.compact.Goals as goal

pub enter_all-requires-clause-few : goal.enter_all-requires-clause-few
enter_all-requires-clause-few c =
    let kept = ap length (c.keep_live.ensures ∙ ap (chosen c.self.inside.atoms) c.deref.ensures.value) in
    let most = chosen_most c.self.inside.atoms c.self.inside.alive.items in
    let a = c.self.invariant.as_alive in
    let f = c.self.invariant.few in
    omega (arith, kept, most, a, f)

pub enter_all-requires-clause-room : goal.enter_all-requires-clause-room
enter_all-requires-clause-room c =
    let ways : ways_of c.clear_in.new.indexes ≡ ways_of c.self.inside.indexes.items = c.clear_in.ensures.ways
    ∙ ap ways_of c.deref_mut.ensures.value in
    let len : length c.clear_in.new.indexes ≡ length c.self.inside.indexes.items =
    sym (length_ways c.clear_in.new.indexes) ∙ ap length ways ∙ length_ways c.self.inside.indexes.items in
    let now = c.deref_mut-2.ensures.value ∙ put_back c.clear_in.new.indexes c.self.inside.indexes.items
    c.self.inside.indexes.len len (omega (arith, c.self.inside.indexes.ok.0)) in
    let kept = ap length (c.keep_live.ensures ∙ ap (chosen c.self.inside.atoms) c.deref.ensures.value) in
    let most = chosen_most c.self.inside.atoms c.self.inside.alive.items in
    let a = c.self.invariant.as_alive in
    let rows = length_live c.self.inside.atoms c.self.inside.alive.items a in
    let n = length_ways c.self.inside.indexes.items in
    rw now (λ j l. (let f = (rw c.deref_mut.ensures.value at
    (c.clear_in.ensures.fits j (let e = ap length c.deref_mut.ensures.value in omega (arith, e, len, l)))) in
    let m = as_many (live c.self.inside.atoms c.self.inside.alive.items) (ways_of c.self.inside.indexes.items)
    (keyed_entries c.self.inside.indexes.items) c.self.invariant.indexed j (omega (arith, n, len, l)) in
    omega (arith, f, m, kept, most, a, rows)))

-- the flags of the rows that are left
flags : (as' : List Atom) (xs : List Bool) (n : ℕ) → xs ≡ replicate n true → n ≡ length as' → live as' xs
    ≡ map (λ a. Some a) as'
flags as' xs n e len =
    let m = ap length e ∙ length-replicate n true in
    all_live as' xs (m ∙ len) (λ i l. (ap (λ ys. get_or ys i true) e
    ∙ get_or-replicate n i true true (omega (arith, l, m))))

pub returns-clause-rows : goal.returns-clause-rows
returns-clause-rows c =
    let is : c.keep_live.new.atoms ≡ chosen c.self.inside.atoms c.self.inside.alive.items = c.keep_live.ensures
    ∙ ap (chosen c.self.inside.atoms) c.deref.ensures.value in
    let most = chosen_most c.self.inside.atoms c.self.inside.alive.items in
    let n = ap length is in
    let cut = c.truncate.ensures.len in
    let len = c.len.ensures in
    flags c.keep_live.new.atoms c.fill.new.self.items _ (c.fill.ensures.items (λ y e. e))
    (omega (arith, n, most, cut, len, c.self.inside.alive.ok.0))
    ∙ ap (map (λ a. Some a)) is ∙ sym (chosen_rows c.self.inside.atoms c.self.inside.alive.items)
    ∙ ap (λ t. filter is_some t.rows) c.self.view_is

pub invariant_of-self : goal.invariant_of-self
invariant_of-self c =
    let ways : ways_of c.clear_in.new.indexes ≡ ways_of c.self.inside.indexes.items = c.clear_in.ensures.ways
    ∙ ap ways_of c.deref_mut.ensures.value in
    let len : length c.clear_in.new.indexes ≡ length c.self.inside.indexes.items =
    sym (length_ways c.clear_in.new.indexes) ∙ ap length ways ∙ length_ways c.self.inside.indexes.items in
    let cap : c.self.inside.indexes.len ≡ length c.self.inside.indexes.items =
    omega (arith, c.self.inside.indexes.ok.0) in
    let whole = put_back c.clear_in.new.indexes c.self.inside.indexes.items c.self.inside.indexes.len len cap in
    let now : c.deref_mut-2.result.now ≡ c.clear_in.new.indexes = c.deref_mut-2.ensures.value ∙ whole in
    let ways2 : ways_of c.enter_all.new.indexes ≡ ways_of c.clear_in.new.indexes = c.enter_all.ensures.ways
    ∙ ap ways_of now in
    let len2 : length c.enter_all.new.indexes ≡ length c.clear_in.new.indexes =
    sym (length_ways c.enter_all.new.indexes) ∙ ap length ways2 ∙ length_ways c.clear_in.new.indexes in
    let whole2 = put_back c.enter_all.new.indexes c.clear_in.new.indexes c.self.inside.indexes.len len2
    (cap ∙ sym len) in
    let is : c.keep_live.new.atoms ≡ chosen c.self.inside.atoms c.self.inside.alive.items = c.keep_live.ensures
    ∙ ap (chosen c.self.inside.atoms) c.deref.ensures.value in
    let most = chosen_most c.self.inside.atoms c.self.inside.alive.items in
    let n = ap length is in
    let cut = c.truncate.ensures.len in
    let count = c.len.ensures in
    let items = c.fill.ensures.items (λ y e. e) in
    let many : vec_len c.truncate.new.self ≡ length c.keep_live.new.atoms =
    omega (arith, n, most, cut, count, c.self.inside.alive.ok.0) in
    let a = c.self.invariant.as_alive in
    let f = c.self.invariant.few in
    rw (whole, whole2) (record {
      counted = sym (ap dead_in items ∙ none_dead (vec_len c.truncate.new.self));
      as_alive = ap length items ∙ length-replicate _ true ∙ many;
      few = omega (arith, n, most, a, f);
      indexed = rw (flags c.keep_live.new.atoms c.fill.new.self.items _ items many, c.enter_all.ensures.ways)
          c.enter_all.ensures.rows;
    })
