-- Indexes that are added one by one.
use Rattle.std.proofs.Common.{◌≡◌, ℕ, ◌<◌, List, [], ◌∷◌, ◌++◌, map, length, get_or, set, sym, ap, subst, ◌∙◌, arith}
use Rattle.std.proofs.Common.{inl, inr, length-append}
use Rattle.std.specs.Prelude.{Some, slice_get}
use Rattle.std.proofs.lemmas.Bool.{cases_lt, cases_eq}
use Rattle.std.proofs.lemmas.List.{map-set, length-map, get_or-map, get_or-set_same, get_or-set_other}
use Rattle.std.proofs.lemmas.List.{get_or_append_left}
use Rattle.std.proofs.Math.Seq.{get_or-append_seam}
use Rattle.chr_base.specs.declared.rule.Rule.{Rule}
use Rattle.chr_plans.specs.declared.plan.Lookup.{Lookup}
use Rattle.chr_plans.specs.Rows.{Columns}
use Rattle.chr_plans.specs.Plans.{pattern_at, columns_of}
use Rattle.chr_columns.specs.declared.groups.Group.{Group}
use Rattle.chr_columns.specs.working.Groups.{table_of_pattern}
use Rattle.chr_columns.specs.working.Resting.{AreLookupsIndexed}
use Rattle.chr_columns.specs.declared.making.Keys.{Keys}
use Rattle.chr_columns.specs.working.Making.{lists_of, columns_in, StayIndexed, Grows}

-- the columns that the code reads
read : (keys : List Keys) (t : ℕ) (k : Keys) → t < length keys → k ≡ get_or keys t k → get_or (map lists_of keys) t []
    ≡ lists_of k
read keys t k l e = get_or-map lists_of keys t k [] l ∙ ap lists_of (sym e)

put_at : (keys : List Keys) (t : ℕ) (k : Keys) → t < length keys → get_or (map lists_of (set keys t k)) t []
    ≡ lists_of k
put_at keys t k l =
    ap (λ xs. get_or xs t []) (map-set lists_of keys t k) ∙ get_or-set_same (map lists_of keys) t (lists_of k) []
    (let n = length-map keys lists_of in omega (arith, n, l))

pub grows_at : (keys : List Keys) (t : ℕ) (old new : Keys) → t < length keys → old ≡ get_or keys t old
    → StayIndexed (lists_of old) (lists_of new)
    → Grows (columns_in keys) (columns_in (set keys t new))
grows_at keys t old new l e more t' i cs h = elim (cases_eq t' t) as (λ _. columns_in (set keys t new) t' i ≡ Some cs) [
  | inl same ↦ (ap (λ k. columns_in (set keys t new) k i) same ∙ ap (λ xs. slice_get xs i) (put_at keys t new l)
      ∙ more i cs (ap (λ xs. slice_get xs i) (sym (read keys t old l e)) ∙ ap (λ k. columns_in keys k i) (sym same)
      ∙ h))
  | inr other ↦ (ap (λ xs. slice_get (get_or xs t' []) i) (map-set lists_of keys t new)
      ∙ ap (λ xs. slice_get xs i) (get_or-set_other (map lists_of keys) t t' (lists_of new) [] other) ∙ h)
]

-- the index that a table has
pub index_at : (keys : List Keys) (t : ℕ) (new : Keys) (i : ℕ) (cs : List ℕ) → t < length keys
    → slice_get (lists_of new) i ≡ Some cs → columns_in (set keys t new) t i ≡ Some cs
index_at keys t new i cs l e = ap (λ xs. slice_get xs i) (put_at keys t new l) ∙ e

-- one look-up more
pub indexed_more : (r : Rule) (groups : List Group) (before after : Columns) (ls : List Lookup) (l : Lookup)
    → Grows before after → AreLookupsIndexed r groups before ls
    → after l.table l.index ≡ Some (columns_of l.partner.key.items) → l.table ≡ table_of_pattern groups
    (pattern_at r l.partner.place) → AreLookupsIndexed r groups after (ls ++ l ∷ [])
indexed_more r groups before after ls l grows old index table j k h here =
    elim (cases_lt j (length ls)) as (λ _. (after k.table k.index ≡ Some (columns_of k.partner.key.items))
    × (k.table ≡ table_of_pattern groups (pattern_at r k.partner.place))) [
      | inl less ↦ (let o = old j k less (sym (get_or_append_left ls (l ∷ []) k j less) ∙ here) in
          (grows k.table k.index _ o.0, o.1))
      | inr most ↦ (let n = length-append ls (l ∷ []) in
          let i : j ≡ length ls = omega (arith, h, n, most) in
          let same : l ≡ k = sym (get_or-append_seam ls l [] k) ∙ ap (λ i. get_or (ls ++ l ∷ []) i k) (sym i) ∙ here in
          subst (λ (x : Lookup). (after x.table x.index ≡ Some (columns_of x.partner.key.items))
          × (x.table ≡ table_of_pattern groups (pattern_at r x.partner.place))) same (index, table))
    ]
