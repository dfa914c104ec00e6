-- Rows as indexes have them.
use Rattle.std.proofs.Common.{◌≡◌, ℕ, ℤ, pos, List, map, get_or, Option, refl, sym, ap, subst, ◌∙◌}
use Rattle.std.specs.Prelude.{Some, None, option_map}
use Rattle.std.proofs.Math.ListN.{get_or-map}
use Rattle.std.proofs.lemmas.Option.{same_Some}
use Rattle.chr_indexes.specs.HashedRows.{HasHash, Listed}
use Rattle.chr_indexes.specs.RangedRows.{ListedEntries, ListedPairs, IsIn, IsWanted, IsCrossed}
use Rattle.chr_indexes.specs.declared.ranges.range.Range.{Range}
use Rattle.chr_plans.specs.declared.key.Band.{Band}
use Rattle.chr_plans.specs.declared.key.Span.{Span}
use Rattle.chr_tables.specs.working.Finders.{Found, hashed, ranged, crossed, IsFinderRow}
use Rattle.chr_tables.specs.declared.finder.Finder.TheVariants.{Chained, Ranged, Crossed}

module _ {X : Type 0} (f : X → Found) (rows : List (Option X)) (r : ℕ) where
  found_at : (x : X) → get_or rows r None ≡ Some x → get_or (map (option_map f) rows) r None ≡ Some (f x)
  found_at x e = get_or-map (option_map f) rows r None ∙ ap (option_map f) e

  mapped : (o : Option X) (e : Found) → option_map f o ≡ Some e → (x : X) × (o ≡ Some x) × (f x ≡ e)
  mapped None e there = absurd (let z : ◌≡◌ {A = Option Found} None (Some e) = there in cc)
  mapped (Some x) e there = (x, refl, same_Some (f x) e there)

  found_of : (e : Found) → get_or (map (option_map f) rows) r None ≡ Some e → (x : X) × (get_or rows r None ≡ Some x)
      × (f x ≡ e)
  found_of e there = mapped (get_or rows r None) e (sym (get_or-map (option_map f) rows r None) ∙ there)

no_column : (c : ℕ) {P : Type 0} → ◌≡◌ {A = Option ℕ} None (Some c) → P
no_column c e = absurd (let z : ◌≡◌ {A = Option ℕ} None (Some c) = e in cc)

-- the range allows what the band's does, if the column is the band's
abbrev pub IsWide : ℕ → Band → Range → Type 0
IsWide column band range = (x : ℤ) → (column ≡ band.column → IsIn band.range x) → IsIn range x

abbrev pub IsNarrow : ℕ → Band → Range → Type 0
IsNarrow column band range = column ≡ band.column → (x : ℤ) → IsIn range x → IsIn band.range x

-- what an index by the hash alone finds
pub chained_found : (index : Listed) (h : ℕ) (span : Span) (r : ℕ) → HasHash index.rows h r
    → IsFinderRow (Chained index) h span r
chained_found index h span r e = (
  hashed h,
  found_at hashed index.rows r h e,
  refl,
  no_column span.first.column,
  no_column span.second.column,
)

pub found_chained : (index : Listed) (h : ℕ) (span : Span) (r : ℕ) → IsFinderRow (Chained index) h span r
    → HasHash index.rows h r
found_chained index h span r s =
    let m = found_of hashed index.rows r s.0 s.1 in
    m.1 ∙ ap Some (ap (λ (e : Found). e.hash) m.2 ∙ s.2)

-- what an index by the hash and a value finds
module _ (column : ℕ) (index : ListedEntries) (h : ℕ) (span : Span) (range : Range) (r : ℕ) where
  pub ranged_found : IsNarrow column span.first range → IsWanted index.rows h range r
      → IsFinderRow (Ranged column index) h span r
  ranged_found narrow w = (
    ranged w.0,
    found_at ranged index.rows r w.0 w.1,
    w.2,
    λ e. narrow (same_Some _ _ e) w.0.value w.3,
    no_column span.second.column,
  )

  pub found_ranged : IsWide column span.first range → IsFinderRow (Ranged column index) h span r
      → IsWanted index.rows h range r
  found_ranged wide s =
      let m = found_of ranged index.rows r s.0 s.1 in (
        m.0,
        m.1,
        ap (λ (e : Found). e.hash) m.2 ∙ s.2,
        wide m.0.value (λ e. subst (IsIn span.first.range) (sym (ap (λ (x : Found). get_or x.values 0 (pos 0)) m.2))
            (s.3 (ap Some e))),
      )

-- what an index by the hash and two values finds
module _ (one two : ℕ) (index : ListedPairs) (h : ℕ) (span : Span) (first second : Range) (r : ℕ) where
  pub crossed_found : IsNarrow one span.first first → IsNarrow two span.second second
      → IsCrossed index.rows h first second r → IsFinderRow (Crossed one two index) h span r
  crossed_found narrow narrow_too w = (
    crossed w.0,
    found_at crossed index.rows r w.0 w.1,
    w.2,
    λ e. narrow (same_Some _ _ e) w.0.first w.3,
    λ e. narrow_too (same_Some _ _ e) w.0.second w.4,
  )

  pub found_crossed : IsWide one span.first first → IsWide two span.second second
      → IsFinderRow (Crossed one two index) h span r → IsCrossed index.rows h first second r
  found_crossed wide wide_too s =
      let m = found_of crossed index.rows r s.0 s.1 in (
        m.0,
        m.1,
        ap (λ (e : Found). e.hash) m.2 ∙ s.2,
        wide m.0.first (λ e. subst (IsIn span.first.range) (sym (ap (λ (x : Found). get_or x.values 0 (pos 0)) m.2))
            (s.3 (ap Some e))),
        wide_too m.0.second (λ e. subst (IsIn span.second.range)
            (sym (ap (λ (x : Found). get_or x.values 1 (pos 0)) m.2)) (s.4 (ap Some e))),
      )
