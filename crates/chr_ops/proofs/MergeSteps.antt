-- One range more of those that are merged.
use Rattle.std.specs.Prelude.{◌≡◌, ℕ, ◌+◌, ◌<◌, false, ◌||◌, List, [], ◌∷◌, length}
use Rattle.std.proofs.Common.{ap, ◌∙◌, arith, get_or, take}
use Rattle.std.specs.List.Sorted.{IsSorted}
use Rattle.std.proofs.lemmas.List.{take_more}
use Rattle.std.proofs.lemmas.List.Folds.{list_any-append}
use Rattle.std.proofs.Math.Bool.{or-false}
use Rattle.std.proofs.lemmas.Bool.Decides.{nat_tests}
use Rattle.std.specs.Ordering.{is_lt}
use Rattle.chr_ops.specs.declared.id.OpId.{OpId}
use Rattle.chr_ops.specs.declared.range.IdRange.{IdRange}
use Rattle.chr_ops.specs.Summaries.{in_range, covers}
use Rattle.chr_ops.specs.working.Merging.{StartsBy, AllStartBy, IsMerged, range_cmp}

starts_further : (r s t : IdRange) → StartsBy r s → StartsBy s t → StartsBy r t
starts_further r s t h g = (
  omega (arith, h.0, g.0),
  λ e. (
      let a : r.origin ≡ s.origin = omega (arith, h.0, g.0, e) in
      let b : s.origin ≡ t.origin = omega (arith, h.0, g.0, e) in
      omega (arith, h.1 a, g.1 b)),
)

all_start_further : (rs : List IdRange) (s t : IdRange) → AllStartBy rs s → StartsBy s t → AllStartBy rs t
all_start_further [] s t h g = tt
all_start_further (r ∷ rs) s t h g = (starts_further r s t h.0 g, all_start_further rs s t h.1 g)

-- what is sorted begins in order
starts_from_sorted : (r s : IdRange) → is_lt (range_cmp s r) ≡ false → StartsBy r s
starts_from_sorted r s h = (grind (arith, nat_tests, h), λ e. grind (arith, nat_tests, h, e))

pub covers_more : (xs : List IdRange) (i : ℕ) (d : IdRange) (id : OpId) → i < length xs → covers (take (i + 1) xs) id
    ≡ (covers (take i xs) id || in_range (get_or xs i d) id)
covers_more xs i d id l =
    ap (λ ys. covers ys id) (take_more xs i d l) ∙ list_any-append (λ r. in_range r id) (take i xs) (get_or xs i d ∷ [])
    ∙ ap (λ b. covers (take i xs) id || b) (or-false (in_range (get_or xs i d) id))

pub starts_more : (xs : List IdRange) (i : ℕ) (d : IdRange) (old new : List IdRange) → IsSorted range_cmp xs
    → i + 1 < length xs → AllStartBy old (get_or xs i d) → IsMerged old (get_or xs i d) new
    → AllStartBy new (get_or xs (i + 1) d)
starts_more xs i d old new sorted l h m =
    let step = starts_from_sorted (get_or xs i d) (get_or xs (i + 1) d) (sorted i d (omega arith) l) in
    m.in_order (get_or xs (i + 1) d) step (all_start_further old (get_or xs i d) (get_or xs (i + 1) d) h step)
