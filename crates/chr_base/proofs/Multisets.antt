-- Stores are finite multisets.
use Rattle.std.specs.Prelude.{◌≡◌, ◌+◌, Bool, true, false, cond, [], ◌∷◌}
use Rattle.std.proofs.Common.{sym, ap, arith}
use Rattle.std.specs.Ordering.{eq_by_cmp}
use Rattle.chr_base.specs.Atoms.{atom_cmp}
use Rattle.chr_base.specs.FinBag.{count_in, ◌⊖◌}
use Rattle.chr_base.specs.Stores.{store_of, count}
use Rattle.chr_base.specs.Laws.{ListCountsItself, ListCountsNoOther, AddIsSum, WithinIsPart}
use Rattle.chr_base.proofs.Atoms.{atom_total, same_is}
use Rattle.chr_base.proofs.FinBags.{count-of_list, count-add, counts_itself}
use Rattle.chr_base.proofs.Stores.{count_plus, same_store, split}

pub list_counts_itself : ListCountsItself
list_counts_itself q xs =
    let a = count-of_list atom_total (q ∷ xs) q in
    let b = counts_itself atom_cmp atom_total q xs in
    let c = count-of_list atom_total xs q in
    omega (arith, a, b, c)

pub list_counts_no_other : ListCountsNoOther
list_counts_no_other q x xs other = by (eq_by_cmp atom_cmp q x) (same_is q x) (count-of_list atom_total (x ∷ xs) q)
  where
    by : (b : Bool) → (b ≡ true → q ≡ x) → count (store_of (x ∷ xs)) q ≡ cond b 1 0 + count_in atom_cmp q xs
        → count (store_of (x ∷ xs)) q ≡ count (store_of xs) q
    by true e h = absurd (other (e (λ _. true)))
    by false e h = let c = count-of_list atom_total xs q in omega (arith, h, c)

pub add_is_sum : AddIsSum
add_is_sum s a = same_store _ _ (λ q. (
    let d = count-add atom_total s a q in
    let e = count_plus s (store_of (a ∷ [])) q in
    let f = count-of_list atom_total (a ∷ []) q in
    omega (arith, d, e, f)))

pub within_is_part : WithinIsPart
within_is_part s t = (
  λ h. (t ⊖ s, sym (split t s h)),
  λ w q. (let e = ap (λ x. count x q) w.1 in let c = count_plus w.0 s q in omega (arith, e, c)),
)
