-- Classes that are all of one ordered sort: their combinations are the representatives of the order types.
use Rattle.std.specs.Prelude.{◌≡◌, ◌↔◌, ◌⊎◌, ℕ, suc, ℤ, IsTrue, Bool, true, false, cond, nat_eq, List, [], ◌∷◌, length}
use Rattle.std.specs.Prelude.{Some, slice_get}
use Rattle.std.proofs.Common.{refl, sym, ap, subst, ◌∙◌, arith, inl, inr}
use Rattle.std.proofs.lemmas.Bool.{eqb-true, eq-eqb}
use Rattle.std.proofs.lemmas.Option.{none-some, same_Some}
use Rattle.chr_types.specs.OrderTypes.{In, Rises, MoreTypesThan}
use Rattle.chr_types.specs.Representatives.{AreTypes}
use Rattle.chr_types.proofs.TooMany.{more_types}
use Rattle.chr_confluence.specs.Sorts.{Sorts, ordered}
use Rattle.chr_confluence.specs.SortLists.{sort_count, values_at}
use Rattle.chr_sorting.specs.SortedCaseLists.{AreListsAt, AreCombinations, MoreCombinationsThan}
use Rattle.chr_sorting.specs.working.Weaving.{IsOnlyOrdered, LeaveRoom}
use Rattle.chr_sorting.proofs.ListsThere.{lists_there, more_ordered}
use Rattle.chr_sorting.proofs.MoreCombinations.{counted_most}
use Rattle.chr_sorting.proofs.OneCombinations.{combinations_one}

pub first_in : (k : ℕ) (ks : List ℕ) → Some k ≡ slice_get ks 0 → In k ks
first_in k [] e = absurd (none-some k (sym e))
first_in k (j ∷ ks) e = inl (same_Some k j e)

-- where the sort k is counted as often as there are sorts, each is k
pub all_like : (k : ℕ) (ks : List ℕ) → sort_count k ks ≡ length ks → (j : ℕ) → In j ks → j ≡ k
all_like k [] e j i = absurd i
all_like k (l ∷ ks) e j i = by (nat_eq l k) refl (all_like k ks) i
  where
    by : (b : Bool) → nat_eq l k ≡ b → (sort_count k ks ≡ length ks → (j : ℕ) → In j ks → j ≡ k) → (j ≡ l) ⊎ In j ks
        → j ≡ k
    by true g rest (inl f) = f ∙ eqb-true l k g
    by true g rest (inr m) =
        let more : suc (sort_count k ks) ≡ suc (length ks) =
        sym (ap (λ b. cond b (suc (sort_count k ks)) (sort_count k ks)) g) ∙ e in
        rest (omega (arith, more)) j m
    by false g rest m =
        let fewer : sort_count k ks ≡ suc (length ks) =
        sym (ap (λ b. cond b (suc (sort_count k ks)) (sort_count k ks)) g) ∙ e in
        let most = counted_most ks k in
        absurd (omega (arith, fewer, most))

all_counted : (k : ℕ) (ks : List ℕ) → ((j : ℕ) → In j ks → j ≡ k) → sort_count k ks ≡ length ks
all_counted k [] all = refl
all_counted k (j ∷ ks) all =
    ap (λ b. cond b (suc (sort_count k ks)) (sort_count k ks)) (eq-eqb j k (all j (inl refl)))
    ∙ ap suc (all_counted k ks (λ i m. all i (inr m)))

all_values : (k : ℕ) (ks : List ℕ) (us : List ℤ) → ((j : ℕ) → In j ks → j ≡ k) → length us ≡ length ks
    → values_at k ks us ≡ us
all_values k [] [] all l = refl
all_values k [] (u ∷ us) all l = absurd (omega (arith, l))
all_values k (j ∷ ks) [] all l = absurd (omega (arith, l))
all_values k (j ∷ ks) (u ∷ us) all l =
    ap (λ b. cond b (u ∷ values_at k ks us) (values_at k ks us)) (eq-eqb j k (all j (inl refl)))
    ∙ ap (λ xs. u ∷ xs) (all_values k ks us (λ i m. all i (inr m)) (omega (arith, l)))

module _ (s : Sorts) (ks : List ℕ) (k : ℕ) (only : IsOnlyOrdered s ks k) where
  listed : (rs : List (List ℤ)) → AreTypes (length ks) (s.constants k) rs → AreListsAt (s.kind k) (s.constants k)
      (sort_count k ks) rs
  listed rs types =
      subst (λ kind. AreListsAt kind (s.constants k) (sort_count k ks) rs) (sym only.kind)
      (subst (λ n. AreTypes n (s.constants k) rs) (sym (all_counted k ks only.all)) types)

  pub types_combined : (rs : List (List ℤ)) → AreTypes (length ks) (s.constants k) rs → AreCombinations s ks rs
  types_combined rs types = record {
    lists = λ _. rs;
    each = λ j i. subst (λ x. AreListsAt (s.kind x) (s.constants x) (sort_count x ks) rs) (sym (only.all j i))
        (listed rs types);
    combined = λ us. (
      λ i. (
          let l = (types.stated us i).0 in (
            l,
            λ j m. subst (λ x. In (values_at x ks us) rs) (sym (only.all j m))
                (subst (λ xs. In xs rs) (sym (all_values k ks us only.all l)) i),
          )
          ),
      λ h. subst (λ xs. In xs rs) (all_values k ks us only.all h.0) (h.1 k only.there),
    );
    order = types.order;
  }

  -- there are more combinations than the limit just where there are more order types
  pub more_combined : (limit : ℕ) (more : Bool) → ((j : ℕ) → Rises (s.constants j)) → LeaveRoom s (length ks) ks
      → IsTrue more ↔ MoreTypesThan limit (length ks) (s.constants k) → IsTrue more ↔ MoreCombinationsThan s ks limit
  more_combined limit more rises room h =
      let r = room k only.there in
      let fits = r.1 in (
        λ t. (let ls = more_ordered limit (length ks) (s.constants k) (omega (arith, fits)) (rises k) r.0 (h.0 t) in
            (ls.0, types_combined ls.0 ls.1, ls.2)),
        λ m. (
            let there = lists_there ordered (s.constants k) (length ks) (omega (arith, fits)) (rises k) r.0 in
            let same = ap (λ (xs : List (List ℤ)). length xs)
            (combinations_one s ks m.0 there.0 rises m.1 (types_combined there.0 there.1)) in
            let l = m.2 in
            h.1 (more_types limit (length ks) (s.constants k) there.0 there.1 (omega (arith, same, l)))
            ),
      )
