-- Look-ups in one table, each by the index of its number.
use Rattle.std.proofs.Common.{◌≡◌, ℕ, zero, suc, ◌<◌, List, [], ◌∷◌, ◌++◌, map, length, get_or, slice_get, refl, sym}
use Rattle.std.proofs.Common.{ap, ◌∙◌, arith, inl, inr, length-append}
use Rattle.std.specs.Prelude.{Some, option_map}
use Rattle.std.proofs.lemmas.Bool.{cases_lt}
use Rattle.std.proofs.lemmas.List.{get_or_append_left}
use Rattle.std.proofs.lemmas.Option.{slice_get_read, slice_get-map}
use Rattle.std.proofs.Math.Seq.{get_or-append_seam}
use Rattle.chr_base.specs.declared.atom.Atom.{Atom}
use Rattle.chr_base.specs.declared.rule.Rule.{Rule}
use Rattle.chr_plans.specs.declared.plan.Lookup.{Lookup}
use Rattle.chr_base.specs.Rules.{heads_of}
use Rattle.chr_plans.specs.declared.plan.Plan.{Plan}
use Rattle.chr_plans.specs.Plans.{IsPlan, FitsTables, columns_of, partners_of}
use Rattle.chr_plans.specs.Reactions.{FitsPlan}
use Rattle.chr_plans.specs.Rows.{Tables, Columns}
use Rattle.chr_tables.specs.Contents.{Contents, rows_of}
use Rattle.chr_tables.specs.Contents as contents

-- the columns that look-ups want
abbrev pub wanted : List Lookup → List (List ℕ)
wanted ls = map (λ l. columns_of l.partner.key.items) ls

-- each look-up is in the first table, by the index of its number
abbrev pub AreInOrder : List Lookup → Type 0
AreInOrder ls = (j : ℕ) (l : Lookup) → j < length ls → get_or ls j l ≡ l → (l.table ≡ 0) × (l.index ≡ j)

pub in_order_more : (ls : List Lookup) (l : Lookup) → AreInOrder ls → l.table ≡ 0 → l.index ≡ length ls
    → AreInOrder (ls ++ l ∷ [])
in_order_more ls l before table index j k h here =
    elim (cases_lt j (length ls)) as (λ _. (k.table ≡ 0) × (k.index ≡ j)) [
      | inl less ↦ before j k less (sym (get_or_append_left ls (l ∷ []) k j less) ∙ here)
      | inr most ↦ (let n = length-append ls (l ∷ []) in
          let i : j ≡ length ls = omega (arith, h, n, most) in
          let same : l ≡ k = sym (get_or-append_seam ls l [] k) ∙ ap (λ i. get_or (ls ++ l ∷ []) i k) (sym i) ∙ here in
          (ap (λ (x : Lookup). x.table) (sym same) ∙ table, ap (λ (x : Lookup). x.index) (sym same) ∙ index ∙ sym i))
    ]

pub fits_one : (r : Rule) (ls : List Lookup) (t : Contents) → AreInOrder ls → t.keys ≡ wanted ls
    → FitsTables r ls (rows_of (t ∷ [])) (contents.index_columns (t ∷ []))
fits_one r ls t order keys = record {
  index = λ j l h e. (let o = order j l h e in
      ap (λ n. contents.index_columns (t ∷ []) n l.index) o.0 ∙ ap (slice_get t.keys) o.1
      ∙ ap (λ ks. slice_get ks j) keys
      ∙ slice_get-map (λ (x : Lookup). columns_of x.partner.key.items) ls j
      ∙ ap (option_map (λ (x : Lookup). columns_of x.partner.key.items))
      (slice_get_read ls (length ls) j l refl h (sym e)));
  table = λ j l n m a h e is shape. (only n m a is ∙ sym (order j l h e).0);
}
  where
    only : (n m : ℕ) (a : Atom) → rows_of (t ∷ []) n m ≡ Some a → n ≡ 0
    only zero m a e = refl
    only (suc n) m a e = cc

-- one plan of one rule
pub fits_plans : (r : Rule) (plan : Plan) (rows : Tables) (columns : Columns) → slice_get (r ∷ []) plan.rule ≡ Some r
    → plan.place < length (heads_of r)
    → IsPlan r plan.place (partners_of plan.lookups.items) → FitsTables r plan.lookups.items rows columns
    → (j : ℕ) → j < length (plan ∷ []) → FitsPlan (r ∷ []) rows columns (slice_get (plan ∷ []) j)
fits_plans r plan rows columns at place is fits zero l = (r, at, place, is, fits)
fits_plans r plan rows columns at place is fits (suc j) l = absurd (omega (arith, l))
