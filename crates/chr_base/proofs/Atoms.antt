-- The order of atoms is total, and atoms that tie are one.
use Rattle.std.specs.Prelude.{◌≡◌, ℕ, ℤ, List, length, true}
use Rattle.std.proofs.Common.{refl, sym, ap}
use mathlib.Core.Bool.{true≢false}
use Rattle.std.specs.declared.cmp.Ordering.TheVariants as order
use Rattle.std.specs.declared.cmp.Ordering.{Ordering}
use Rattle.std.specs.Ordering.{nat_cmp, int_cmp, ordering_then, eq_by_cmp, is_eq}
use Rattle.std.specs.Cmp.{IsTotalOrder, on_total, then_total, nat_cmp_total, int_cmp_total}
use Rattle.std.specs.Cmp.Lexicographic.{slice_cmp, lists_total}
use Rattle.std.specs.FinMap.{IsAntisymmetric, nat_cmp-IsAntisymmetric, int_cmp-IsAntisymmetric}
use Rattle.std.specs.FinMap.{slice_cmp-IsAntisymmetric}
use Rattle.std.proofs.lemmas.Map.Lookups.{exact_pairs}
use Rattle.chr_base.specs.declared.atom.Atom.{Atom}
use Rattle.chr_base.specs.Atoms.{atom_cmp}

pub atom_total : IsTotalOrder atom_cmp
atom_total =
    then_total (on_total (λ a. a.symbol.0) nat_cmp_total)
    (then_total (on_total (λ a. length a.args.items) nat_cmp_total)
    (on_total (λ a. a.args.items) (lists_total int_cmp_total)))

args_exact : IsAntisymmetric (λ (xs ys : List ℤ). ordering_then (nat_cmp (length xs) (length ys))
    (slice_cmp int_cmp xs ys))
args_exact xs ys h = by (nat_cmp (length xs) (length ys)) h
  where
    by : (o : Ordering) → ordering_then o (slice_cmp int_cmp xs ys) ≡ order.Equal → xs ≡ ys
    by order.Less g = absurd (cc)
    by order.Equal g = slice_cmp-IsAntisymmetric int_cmp-IsAntisymmetric xs ys g
    by order.Greater g = absurd (cc)

-- atoms that compare as equal are one atom
pub atom_exact : IsAntisymmetric atom_cmp
atom_exact a b h =
    ap (λ (p : ℕ × List ℤ). record { symbol = record { 0 = p.0 }; args = record { items = p.1 } })
    (exact_pairs nat_cmp (λ (xs ys : List ℤ). ordering_then (nat_cmp (length xs) (length ys)) (slice_cmp int_cmp xs ys))
    nat_cmp-IsAntisymmetric args_exact (a.symbol.0, a.args.items) (b.symbol.0, b.args.items) h)

-- atoms that the code's test finds equal are one atom
pub same_is : (a b : Atom) → eq_by_cmp atom_cmp a b ≡ true → a ≡ b
same_is a b h = atom_exact a b (by (atom_cmp a b) h)
  where
    by : (r : Ordering) → is_eq r ≡ true → r ≡ order.Equal
    by order.Less p = absurd (true≢false (sym p))
    by order.Equal p = refl
    by order.Greater p = absurd (true≢false (sym p))
