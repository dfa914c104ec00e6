-- Rows with the hash of a key, in an index and in its table.
use Rattle.std.proofs.Common.{◌≡◌, ℕ, ℤ, zero, suc, ◌<◌, pos, List, [], ◌∷◌, map, length, get_or, slice_get, Option}
use Rattle.std.proofs.Common.{refl, sym, ap, subst, ◌∙◌}
use Rattle.std.specs.Prelude.{Some, None, option_map, IsTrue, is_some}
use Rattle.std.proofs.lemmas.List.{get_or-map}
use Rattle.std.proofs.lemmas.Option.{slice_get-get_or, slice_get-map, same_Some}
use Rattle.chr_base.specs.declared.atom.Atom.{Atom}
use Rattle.chr_indexes.specs.RangedRows.{IsIn}
use Rattle.chr_plans.specs.declared.key.Band.{Band}
use Rattle.chr_plans.specs.declared.key.Span.{Span}
use Rattle.chr_plans.specs.Keys.{argument, key_of, IsInBand, Spans}
use Rattle.chr_tables.specs.Hashes.{key_hash}
use Rattle.chr_plans.specs.Rows.{HasKey, LiesIn}
use Rattle.chr_tables.specs.declared.finder.Finder.{Finder}
use Rattle.chr_tables.specs.working.Finders.{Found, order_in, finder_rows, HasValueIn, IsFinderRow}
use Rattle.chr_tables.specs.Contents.{IsInBandBy, LiesBy}
use Rattle.chr_tables.specs.working.Indexes.{Way, no_way, atom_entry, entry_in, AreIndexed}

some_entry : (w : Way) (o : Option Atom) (e : Found) → entry_in w o ≡ Some e → (a : Atom) × (o ≡ Some a)
    × (atom_entry w a ≡ e)
some_entry w None e f = cc
some_entry w (Some a) e f = (a, refl, same_Some _ _ f)

entry_row : (rows : List (Option Atom)) (w : Way) (r : ℕ) (e : Found) → get_or (map (entry_in w) rows) r None ≡ Some e
    → (a : Atom) × (get_or rows r None ≡ Some a) × (atom_entry w a ≡ e)
entry_row [] w r e f = cc
entry_row (o ∷ rows) w zero e f = some_entry w o e f
entry_row (o ∷ rows) w (suc r) e f = entry_row rows w r e f

row_entry : (rows : List (Option Atom)) (w : Way) (r : ℕ) (a : Atom) → get_or rows r None ≡ Some a
    → get_or (map (entry_in w) rows) r None ≡ Some (atom_entry w a)
row_entry [] w r a e = cc
row_entry (o ∷ rows) w zero a e = ap (entry_in w) e
row_entry (o ∷ rows) w (suc r) a e = row_entry rows w r a e

-- the row lives in the index, and has this hash
abbrev pub HasFoundHash : List (Option Found) → ℕ → ℕ → Type 0
HasFoundHash rows h r = (e : Found) × (get_or rows r None ≡ Some e) × (e.hash ≡ h)

value_at : (order : List ℕ) (a : Atom) (j c : ℕ) → slice_get order j ≡ Some c → get_or (key_of order a) j (pos 0)
    ≡ argument a c
value_at [] a j c e = absurd (let z : ◌≡◌ {A = Option ℕ} None (Some c) = e in cc)
value_at (x ∷ order) a zero c e = ap (argument a) (same_Some x c e)
value_at (x ∷ order) a (suc j) c e = value_at order a j c e

module _ (rows : List (Option Atom)) (ways : List Way) (entries : List (List (Option Found))) (i : ℕ) (f : Finder)
    (way : Way) (key : List ℤ) (h : ℕ)
    (is : AreIndexed rows ways entries) (l : i < length ways) (here : finder_rows f ≡ get_or entries i [])
    (this : get_or ways i no_way ≡ way) (hash : h ≡ key_hash way.seed key) where
  columns_here : slice_get (map (λ w. w.columns) ways) i ≡ Some way.columns
  columns_here = slice_get-map (λ w. w.columns) ways i ∙ ap (option_map (λ w. w.columns))
      (slice_get-get_or ways i no_way l ∙ ap Some this)

  rows_are : finder_rows f ≡ map (entry_in way) rows
  rows_are = here ∙ is i l ∙ ap (λ w. map (entry_in w) rows) this

  -- what the index finds by the hash lives
  pub met : (r : ℕ) → HasFoundHash (finder_rows f) h r → IsTrue (is_some (get_or rows r None))
  met r e = let w = entry_row rows way r e.0 (ap (λ ys. get_or ys r None) (sym rows_are) ∙ e.1) in rw w.1 refl

  -- what has the key has the hash
  has_hash : (r : ℕ) → HasKey (slice_get (map (λ w. w.columns) ways) i) key (get_or rows r None)
      → HasFoundHash (finder_rows f) h r
  has_hash r e =
      let g : key_of way.columns e.0 ≡ key = same_Some _ _
      (sym (ap (option_map (λ cs. key_of cs e.0)) columns_here) ∙ e.2) in (
        atom_entry way e.0,
        ap (λ ys. get_or ys r None) rows_are ∙ row_entry rows way r e.0 e.1,
        ap (key_hash way.seed) g
            ∙ sym hash,
      )

  found_is : (r : ℕ) (e : Found) → get_or (finder_rows f) r None ≡ Some e → (a : Atom) × (get_or rows r None ≡ Some a)
      × (atom_entry way a ≡ e)
  found_is r e there = entry_row rows way r e (ap (λ ys. get_or ys r None) (sym rows_are) ∙ there)

  value_is : order_in f ≡ way.order → (j c : ℕ) (a : Atom) (e : Found) → atom_entry way a ≡ e → slice_get (order_in f) j
      ≡ Some c → argument a c ≡ get_or e.values j (pos 0)
  value_is order j c a e is at =
      sym (value_at way.order a j c (ap (λ o. slice_get o j) (sym order) ∙ at))
      ∙ ap (λ (x : Found). get_or x.values j (pos 0)) is

  has_value : order_in f ≡ way.order → (j : ℕ) (band : Band) (a : Atom) (e : Found) → atom_entry way a ≡ e
      → IsInBand band a → HasValueIn (order_in f) j band e.values
  has_value order j band a e is lies at = subst (IsIn band.range) (value_is order j band.column a e is at) lies

  in_band : order_in f ≡ way.order → (j : ℕ) (band : Band) (a : Atom) (e : Found) → atom_entry way a ≡ e
      → HasValueIn (order_in f) j band e.values
      → IsInBandBy (get_or (map (λ w. w.order) ways) i []) j band a
  in_band order j band a e is has at =
      let there : get_or (map (λ w. w.order) ways) i [] ≡ way.order = get_or-map (λ (w : Way). w.order) ways i no_way []
      l ∙ ap (λ (w : Way). w.order) this in
      let here : slice_get (order_in f) j ≡ Some band.column = ap (λ o. slice_get o j) (order ∙ sym there) ∙ at in
      subst (IsIn band.range) (sym (value_is order j band.column a e is here)) (has here)

  -- the index finds each row that has the key and lies in the span
  pub sought : (span : Span) → order_in f ≡ way.order → (r : ℕ) → HasKey (slice_get (map (λ w. w.columns) ways) i) key
      (get_or rows r None) → LiesIn span (get_or rows r None)
      → IsFinderRow f h span r
  sought span order r e s =
      let w = has_hash r e in
      let x = found_is r w.0 w.1 in
      let a : s.0 ≡ x.0 = same_Some _ _ (sym s.1 ∙ x.1) in
      let in_span : Spans span x.0 = subst (Spans span) a s.2 in (
        w.0,
        w.1,
        w.2,
        has_value order 0 span.first x.0 w.0 x.2 in_span.0,
        has_value order 1 span.second x.0 w.0 x.2 in_span.1,
      )

  -- what the index finds lies in the bands of the columns of its order
  pub lies : (span : Span) → order_in f ≡ way.order → (r : ℕ) → IsFinderRow f h span r
      → LiesBy (get_or (map (λ w. w.order) ways) i []) span (get_or rows r None)
  lies span order r s =
      let x = found_is r s.0 s.1 in
      (x.0, x.1, in_band order 0 span.first x.0 s.0 x.2 s.3, in_band order 1 span.second x.0 s.0 x.2 s.4)
