use Rattle.std.proofs.Common.{◌≡◌, ℕ, ◌<◌, ◌≤◌, [], length, get_or, slice_get, refl, sym, ap, ◌∙◌, arith}
use Rattle.std.specs.Prelude.{None, IsTrue, is_some}
use Rattle.chr_plans.specs.Rows.{HasKey, LiesIn}
use Rattle.chr_tables.specs.Contents.{LiesBy}
use Rattle.chr_tables.specs.declared.indexes.Keyed.{Keyed}
use Rattle.chr_tables.specs.working.Finders.{finder_rows, IsFinderRow}
use Rattle.chr_tables.specs.working.Indexes.{orders_of, no_way, way_of, key_columns, ways_of, keyed_entries, live}
use Rattle.chr_tables.proofs.Choices.{if_some, if_none}
use Rattle.chr_tables.proofs.Keys.{lies, met, sought}
use Rattle.chr_tables.proofs.Lives.{entries_at, way_at, length_ways, length_columns, few_rows}
use Rattle.chr_tables.proofs.table.Table.at_or_below.Goals as goal

pub returns-clause-lives : goal.returns-clause-lives
returns-clause-lives c =
    let n = length_ways c.self.inside.indexes.items in
    let m = length_columns c.self.inside.indexes.items in
    let k = ap (λ t. length t.keys) c.self.view_is in
    let b : c.args.index < length c.self.inside.indexes.items = (let r = c.requires in omega (arith, r, k, m)) in
    let l : c.args.index < length (ways_of c.self.inside.indexes.items) = omega (arith, n, b) in
    let here : finder_rows c.index_mut-keyed.result.now.index
    ≡ get_or (keyed_entries c.self.inside.indexes.items) c.args.index [] =
    sym (entries_at c.self.inside.indexes.items c.args.index c.index_mut-keyed.result.now b
    ∙ ap (λ (x : Keyed). finder_rows x.index) (sym c.index_mut-keyed.ensures.value)) in
    let this : get_or (ways_of c.self.inside.indexes.items) c.args.index no_way ≡ way_of c.index_mut-keyed.result.now =
    way_at c.self.inside.indexes.items c.args.index c.index_mut-keyed.result.now b
    ∙ ap way_of (sym c.index_mut-keyed.ensures.value) in
    rw (c.row_of.ensures, ← c.self.view_is) (if_some (λ row. IsFinderRow c.index_mut-keyed.result.now.index
    c.key_hash-hash.result c.args.span.now row) (λ row. IsTrue
    (is_some (get_or (live c.self.inside.atoms c.self.inside.alive.items) row None))) c.at_or_below.result
    (λ row s. met _ _ _ c.args.index c.index_mut-keyed.result.now.index (way_of c.index_mut-keyed.result.now)
    c.args.key.now c.key_hash-hash.result c.self.invariant.indexed l here this c.key_hash-hash.ensures row
    (s.0, s.1, s.2)) c.at_or_below.ensures.met)

pub returns-clause-within : goal.returns-clause-within
returns-clause-within c =
    let n = length_ways c.self.inside.indexes.items in
    let m = length_columns c.self.inside.indexes.items in
    let k = ap (λ t. length t.keys) c.self.view_is in
    let b : c.args.index < length c.self.inside.indexes.items = (let r = c.requires in omega (arith, r, k, m)) in
    let l : c.args.index < length (ways_of c.self.inside.indexes.items) = omega (arith, n, b) in
    let here : finder_rows c.index_mut-keyed.result.now.index
    ≡ get_or (keyed_entries c.self.inside.indexes.items) c.args.index [] =
    sym (entries_at c.self.inside.indexes.items c.args.index c.index_mut-keyed.result.now b
    ∙ ap (λ (x : Keyed). finder_rows x.index) (sym c.index_mut-keyed.ensures.value)) in
    let this : get_or (ways_of c.self.inside.indexes.items) c.args.index no_way ≡ way_of c.index_mut-keyed.result.now =
    way_at c.self.inside.indexes.items c.args.index c.index_mut-keyed.result.now b
    ∙ ap way_of (sym c.index_mut-keyed.ensures.value) in
    rw (c.row_of.ensures, ← c.self.view_is) (if_some (λ row. IsFinderRow c.index_mut-keyed.result.now.index
    c.key_hash-hash.result c.args.span.now row) (λ row. LiesBy
    (get_or (orders_of c.self.inside.indexes.items) c.args.index []) c.args.span.now
    (get_or (live c.self.inside.atoms c.self.inside.alive.items) row None)) c.at_or_below.result
    (lies _ _ _ c.args.index c.index_mut-keyed.result.now.index (way_of c.index_mut-keyed.result.now) c.args.key.now
    c.key_hash-hash.result c.self.invariant.indexed l here this c.key_hash-hash.ensures c.args.span.now refl)
    c.at_or_below.ensures.met)

pub returns-clause-newest : goal.returns-clause-newest
returns-clause-newest c =
    let n = length_ways c.self.inside.indexes.items in
    let m = length_columns c.self.inside.indexes.items in
    let k = ap (λ t. length t.keys) c.self.view_is in
    let b : c.args.index < length c.self.inside.indexes.items = (let r = c.requires in omega (arith, r, k, m)) in
    let l : c.args.index < length (ways_of c.self.inside.indexes.items) = omega (arith, n, b) in
    let here : finder_rows c.index_mut-keyed.result.now.index
    ≡ get_or (keyed_entries c.self.inside.indexes.items) c.args.index [] =
    sym (entries_at c.self.inside.indexes.items c.args.index c.index_mut-keyed.result.now b
    ∙ ap (λ (x : Keyed). finder_rows x.index) (sym c.index_mut-keyed.ensures.value)) in
    let this : get_or (ways_of c.self.inside.indexes.items) c.args.index no_way ≡ way_of c.index_mut-keyed.result.now =
    way_at c.self.inside.indexes.items c.args.index c.index_mut-keyed.result.now b
    ∙ ap way_of (sym c.index_mut-keyed.ensures.value) in
    rw (c.row_of.ensures, ← c.self.view_is)
    (if_some (λ row. (other : ℕ) → other ≤ c.number_of-row.result
    → IsFinderRow c.index_mut-keyed.result.now.index c.key_hash-hash.result c.args.span.now other → other ≤ row)
    (λ row. (other : ℕ) → other ≤ c.args.row → HasKey (slice_get (key_columns c.self.inside.indexes.items) c.args.index)
    c.args.key.now (get_or (live c.self.inside.atoms c.self.inside.alive.items) other None)
    → LiesIn c.args.span.now (get_or (live c.self.inside.atoms c.self.inside.alive.items) other None) → other ≤ row)
    c.at_or_below.result
    (λ row newest other up h s. newest other (c.number_of-row.ensures.same other up
    (few_rows c.self.inside.atoms c.self.inside.alive.items other h.0 c.self.invariant.few h.1))
    (sought _ _ _ c.args.index c.index_mut-keyed.result.now.index (way_of c.index_mut-keyed.result.now)
    c.args.key.now c.key_hash-hash.result c.self.invariant.indexed l here this c.key_hash-hash.ensures
    c.args.span.now refl other h s)) c.at_or_below.ensures.newest)

pub returns-clause-none : goal.returns-clause-none
returns-clause-none c =
    let n = length_ways c.self.inside.indexes.items in
    let m = length_columns c.self.inside.indexes.items in
    let k = ap (λ t. length t.keys) c.self.view_is in
    let b : c.args.index < length c.self.inside.indexes.items = (let r = c.requires in omega (arith, r, k, m)) in
    let l : c.args.index < length (ways_of c.self.inside.indexes.items) = omega (arith, n, b) in
    let here : finder_rows c.index_mut-keyed.result.now.index
    ≡ get_or (keyed_entries c.self.inside.indexes.items) c.args.index [] =
    sym (entries_at c.self.inside.indexes.items c.args.index c.index_mut-keyed.result.now b
    ∙ ap (λ (x : Keyed). finder_rows x.index) (sym c.index_mut-keyed.ensures.value)) in
    let this : get_or (ways_of c.self.inside.indexes.items) c.args.index no_way ≡ way_of c.index_mut-keyed.result.now =
    way_at c.self.inside.indexes.items c.args.index c.index_mut-keyed.result.now b
    ∙ ap way_of (sym c.index_mut-keyed.ensures.value) in
    rw (c.row_of.ensures, ← c.self.view_is)
    (if_none ((other : ℕ) → other ≤ c.number_of-row.result
    → ¬ (IsFinderRow c.index_mut-keyed.result.now.index c.key_hash-hash.result c.args.span.now other))
    ((other : ℕ) → other ≤ c.args.row → HasKey (slice_get (key_columns c.self.inside.indexes.items) c.args.index)
    c.args.key.now (get_or (live c.self.inside.atoms c.self.inside.alive.items) other None)
    → ¬ (LiesIn c.args.span.now (get_or (live c.self.inside.atoms c.self.inside.alive.items) other None)))
    c.at_or_below.result
    (λ none other up h s. none other (c.number_of-row.ensures.same other up
    (few_rows c.self.inside.atoms c.self.inside.alive.items other h.0 c.self.invariant.few h.1))
    (sought _ _ _ c.args.index c.index_mut-keyed.result.now.index (way_of c.index_mut-keyed.result.now)
    c.args.key.now c.key_hash-hash.result c.self.invariant.indexed l here this c.key_hash-hash.ensures
    c.args.span.now refl other h s)) c.at_or_below.ensures.none)
