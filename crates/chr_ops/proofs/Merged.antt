-- One range more.
use Rattle.std.specs.Prelude.{◌≡◌, ℕ, ◌+◌, ◌≤◌, Bool, true, false, ◌&&◌, ◌||◌, ◌==◌, nat_le, max, List, [], ◌∷◌, ◌++◌}
use Rattle.std.proofs.Common.{refl, sym, ap, ◌∙◌, arith, ⊎_elim}
use Rattle.std.specs.List.{AllByRecursion}
use Rattle.std.proofs.lemmas.List.Folds.{list_any-append}
use Rattle.std.proofs.Math.Bool.{or-false}
use Rattle.std.proofs.lemmas.Bool.{cases_lt}
use Rattle.std.proofs.lemmas.Bool.Decides.{nat_tests}
use Rattle.chr_ops.specs.declared.id.OpId.{OpId}
use Rattle.chr_ops.specs.declared.range.IdRange.{IdRange}
use Rattle.chr_ops.specs.Summaries.{in_range, covers, IsBefore, IsApart}
use Rattle.chr_ops.specs.working.Merging.{StartsBy, AllStartBy, IsMerged}

pub all_push : (P : IdRange → Type 0) (rs : List IdRange) (x : IdRange) → AllByRecursion P rs → P x
    → AllByRecursion P (rs ++ x ∷ [])
all_push P [] x h p = (p, tt)
all_push P (r ∷ rs) x h p = (h.0, all_push P rs x h.1 p)

all_front : (P : IdRange → Type 0) (rs : List IdRange) (x : IdRange) → AllByRecursion P (rs ++ x ∷ [])
    → AllByRecursion P rs
all_front P [] x h = tt
all_front P (r ∷ rs) x h = (h.0, all_front P rs x h.1)

all_last : (P : IdRange → Type 0) (rs : List IdRange) (x : IdRange) → AllByRecursion P (rs ++ x ∷ []) → P x
all_last P [] x h = h.0
all_last P (r ∷ rs) x h = all_last P rs x h.1

pub all_map : (P Q : IdRange → Type 0) (rs : List IdRange) → ((r : IdRange) → P r → Q r) → AllByRecursion P rs
    → AllByRecursion Q rs
all_map P Q [] f h = tt
all_map P Q (r ∷ rs) f h = (f r h.0, all_map P Q rs f h.1)

pub apart_push : (rs : List IdRange) (x : IdRange) → IsApart rs → AllByRecursion (λ r. IsBefore r x) rs → x.lo ≤ x.hi
    → IsApart (rs ++ x ∷ [])
apart_push [] x h b l = (l, tt, tt)
apart_push (r ∷ rs) x h b l = (h.0, all_push (IsBefore r) rs x h.1 b.0, apart_push rs x h.2 b.1 l)

-- ranges that are apart stay so without the last
apart_front : (rs : List IdRange) (x : IdRange) → IsApart (rs ++ x ∷ []) → IsApart rs
    × AllByRecursion (λ r. IsBefore r x) rs × (x.lo ≤ x.hi)
apart_front [] x h = (tt, tt, h.0)
apart_front (r ∷ rs) x h =
    let rest = apart_front rs x h.2 in
    ((h.0, all_front (IsBefore r) rs x h.1, rest.0), (all_last (IsBefore r) rs x h.1, rest.1), rest.2)

pub covers_push : (rs : List IdRange) (x : IdRange) (id : OpId) → covers (rs ++ x ∷ []) id
    ≡ (covers rs id || (in_range x id || false))
covers_push rs x id = list_any-append (λ r. in_range r id) rs (x ∷ [])

pub before_further : (r s t : IdRange) → IsBefore r s → s.lo ≤ s.hi → IsBefore s t → IsBefore r t
before_further r s t h l g = (
  omega (arith, h.0, g.0),
  λ e. (
      let a : r.origin ≡ s.origin = omega (arith, h.0, g.0, e) in
      let b : s.origin ≡ t.origin = omega (arith, h.0, g.0, e) in
      omega (arith, h.1 a, g.1 b, l)),
)

-- two ranges that touch have what their hull has
hull_has : (o l h m k i n : ℕ) → l ≤ m → m ≤ h + 1 → (o == i && nat_le l n && nat_le n (max h k))
    ≡ ((o == i && nat_le l n && nat_le n h) || (o == i && nat_le m n && nat_le n k))
hull_has o l h m k i n a b = grind (arith, nat_tests)

regroup : (a b c d : Bool) → c ≡ (b || d) → (a || (c || false)) ≡ ((a || (b || false)) || d)
regroup true b c d e = refl
regroup false true c d e = ap (λ x. x || false) e
regroup false false c true e = ap (λ x. x || false) e
regroup false false c false e = ap (λ x. x || false) e

pub merged_first : (next : IdRange) → next.lo ≤ next.hi → IsMerged [] next (next ∷ [])
merged_first next l = record {
  apart = (l, tt, tt);
  covering = λ id. or-false (in_range next id);
  in_order = λ later h _. (h, tt);
}

abbrev pub hull : IdRange → IdRange → IdRange
hull r s = record { origin = r.origin; lo = r.lo; hi = max r.hi s.hi }

module _ (front : List IdRange) (last next : IdRange) (apart : IsApart (front ++ last ∷ []))
    (starts : AllStartBy (front ++ last ∷ []) next) (range : next.lo ≤ next.hi) where
  pub merged_touching : last.origin ≡ next.origin → next.lo ≤ last.hi + 1 → IsMerged (front ++ last ∷ []) next
      (front ++ hull last next ∷ [])
  merged_touching same near =
      let parts = apart_front front last apart in
      let first = (all_last (λ r. StartsBy r next) front last starts).1 same in
      record {
        apart = apart_push front (hull last next) parts.0 parts.1 (omega (arith, parts.2));
        covering = λ id. covers_push front (hull last next) id
            ∙ regroup (covers front id) (in_range last id) (in_range (hull last next) id) (in_range next id)
            (hull_has last.origin last.lo last.hi next.lo next.hi id.origin id.number first near
            ∙ ap (λ o. in_range last id || (o == id.origin && nat_le next.lo id.number && nat_le id.number next.hi))
            same)
            ∙ ap (λ b. b || in_range next id) (sym (covers_push front last id));
        in_order = λ later h g. all_push (λ r. StartsBy r later) front (hull last next)
            (all_front (λ r. StartsBy r later) front last g) (all_last (λ r. StartsBy r later) front last g);
      }

  pub merged_behind : ¬ ((last.origin ≡ next.origin) × (next.lo ≤ last.hi + 1)) → IsMerged (front ++ last ∷ []) next
      ((front ++ last ∷ []) ++ next ∷ [])
  merged_behind far =
      let parts = apart_front front last apart in
      let first = all_last (λ r. StartsBy r next) front last starts in
      let before : IsBefore last next = (
        first.0,
        λ same. ⊎_elim (λ less. less) (λ more. absurd (far (same, more)))
            (cases_lt (last.hi + 1) next.lo),
      ) in
      record {
        apart = apart_push (front ++ last ∷ []) next apart
            (all_push (λ r. IsBefore r next) front last
            (all_map (λ r. IsBefore r last) (λ r. IsBefore r next) front
            (λ r h. before_further r last next h parts.2 before) parts.1) before) range;
        covering = λ id. covers_push (front ++ last ∷ []) next id ∙ ap (λ b. covers (front ++ last ∷ []) id || b)
            (or-false (in_range next id));
        in_order = λ later h g. all_push (λ r. StartsBy r later) (front ++ last ∷ []) next g h;
      }
