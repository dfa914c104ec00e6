-- Look-ups in one of many tables.
use Rattle.std.proofs.Common.{◌≡◌, ℕ, ◌<◌, List, length, get_or, slice_get, true, false, ap, ◌∙◌, inl, inr}
use Rattle.std.specs.Prelude.{is_some}
use Rattle.std.proofs.lemmas.Bool.{cases_lt}
use Rattle.std.proofs.lemmas.List.{get_or_past, get_or_default}
use Rattle.std.proofs.lemmas.Option.{slice_get_within}
use Rattle.chr_tables.specs.Contents.{Contents, no_table, index_columns}
use Rattle.chr_tables.proofs.Choices.{the_one}

-- a table of which there is an index is there
pub table_there : (tables : List Contents) (t i : ℕ) → is_some (index_columns tables t i) ≡ true → t < length tables
table_there tables t i e = elim (cases_lt t (length tables)) as (λ _. t < length tables) [
  | inl less ↦ less
  | inr most ↦ absurd (let z : is_some (index_columns tables t i) ≡ false =
      ap (λ (x : Contents). is_some (slice_get x.keys i)) (get_or_past tables t no_table most) in cc)
]

-- the table that the code reads is the one of that number
pub table_is : (tables : List Contents) (t i : ℕ) (x : Contents) → is_some (index_columns tables t i) ≡ true
    → x ≡ get_or tables t x → x ≡ get_or tables t no_table
table_is tables t i x e f = f ∙ get_or_default tables t x no_table (table_there tables t i e)

-- the table that the code reads has the index
pub index_there : (tables : List Contents) (t i : ℕ) (x : Contents) → is_some (index_columns tables t i) ≡ true
    → x ≡ get_or tables t x → i < length x.keys
index_there tables t i x e f =
    let o = the_one (index_columns tables t i) e in
    slice_get_within x.keys i o.0 (ap (λ (y : Contents). slice_get y.keys i) (table_is tables t i x e f) ∙ o.1)
