-- The fields of rows, each as a list.
use Rattle.std.proofs.Common.{◌≡◌, ℕ, zero, suc, List, [], ◌∷◌, length, get_or, set, map, refl, sym, ap, ◌∙◌}
use Rattle.std.proofs.lemmas.List.{length-map, map-set}
use Rattle.chr_indexes.specs.declared.hashes.row.Row.{Row}
use Rattle.chr_indexes.specs.working.HashChains.{IsChained}
use Rattle.chr_indexes.specs.working.HashEntries.{hashes_of, flags_of, links_of, slots_of, AreChained}

pub length_hashes : (rows : List Row) → length (hashes_of rows) ≡ length rows
length_hashes rows = length-map rows (λ (r : Row). r.hash)

pub as_many : (rows : List Row) → length (flags_of rows) ≡ length (hashes_of rows)
as_many rows = length-map rows (λ (r : Row). r.alive) ∙ sym (length_hashes rows)

-- a write that leaves a row's field as it is
pub field_kept : {X : Type 0} (f : Row → X) (rows : List Row) (r : ℕ) (x none : Row) → f x ≡ f (get_or rows r none)
    → map f (set rows r x) ≡ map f rows
field_kept f [] r x none same = refl
field_kept f (y ∷ rows) zero x none same = ap (λ k. k ∷ map f rows) same
field_kept f (y ∷ rows) (suc r) x none same = ap (λ ks. f y ∷ ks) (field_kept f rows r x none same)

-- a row gets another link
pub chained_link : (n : ℕ) (rows : List Row) (heads : List ℕ) (r : ℕ) (x none : Row)
    → x.hash ≡ (get_or rows r none).hash → x.alive ≡ (get_or rows r none).alive
    → IsChained (slots_of n (hashes_of rows)) (flags_of rows) (set (links_of rows) r x.next) heads
    → AreChained n (set rows r x) heads
chained_link n rows heads r x none hash alive c =
    rw (
      field_kept (λ (y : Row). y.hash) rows r x none hash,
      field_kept (λ (y : Row). y.alive) rows r x none alive,
      map-set (λ (y : Row). y.next) rows r x,
    ) c
