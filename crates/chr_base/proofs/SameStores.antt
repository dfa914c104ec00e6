-- Whether two stores are equal is decided.
use Rattle.std.specs.Prelude.{◌≡◌, ◌≢◌, ◌⊎◌}
use Rattle.std.proofs.Common.{refl, sym, ap, ◌∙◌, inl, inr}
use mathlib.Core.Bool.{true≢false}
use Rattle.std.specs.declared.cmp.Ordering.{Ordering}
use Rattle.std.specs.declared.cmp.Ordering.TheVariants as order
use Rattle.std.specs.Ordering.{is_eq}
use Rattle.std.specs.Cmp.{tied_itself}
use Rattle.std.specs.Cmp.Lexicographic.{slice_cmp, lists_total}
use Rattle.std.specs.FinMap as finite
use Rattle.chr_base.specs.Atoms.{atom_cmp}
use Rattle.chr_base.proofs.Atoms.{atom_total, atom_exact}
use Rattle.chr_base.specs.FinBag as bag
use Rattle.chr_base.specs.working.Codes as bag_codes
use Rattle.chr_base.specs.Stores.{Store}

pub same_or : (s t : Store) → (s ≡ t) ⊎ (s ≢ t)
same_or s t = by (slice_cmp atom_cmp (bag.items s) (bag.items t)) refl
  where
    tied : s ≡ t → slice_cmp atom_cmp (bag.items s) (bag.items t) ≡ order.Equal
    tied e = ap (λ x. slice_cmp atom_cmp (bag.items s) (bag.items x)) (sym e) ∙ tied_itself (lists_total atom_total)
        (bag.items s)

    by : (r : Ordering) → slice_cmp atom_cmp (bag.items s) (bag.items t) ≡ r → (s ≡ t) ⊎ (s ≢ t)
    by order.Equal e = inl (bag_codes.same_items s t (finite.slice_cmp-IsAntisymmetric atom_exact (bag.items s)
        (bag.items t) e))
    by order.Less e = inr (λ g. absurd (true≢false (ap is_eq (sym (tied g) ∙ e))))
    by order.Greater e = inr (λ g. absurd (true≢false (ap is_eq (sym (tied g) ∙ e))))
