-- The order in which atoms are printed, and lists in that order.
use Rattle.std.proofs.Common.{◌≡◌, List, length, refl}
use Rattle.std.specs.declared.cmp.Ordering.{Ordering}
use Rattle.std.specs.declared.cmp.Ordering.TheVariants as order
use Rattle.std.specs.Ordering.{nat_cmp, int_cmp, ordering_then}
use Rattle.std.specs.Cmp.{IsTotalOrder, on_total, then_total, nat_cmp_total, int_cmp_total}
use Rattle.std.specs.Cmp.Lexicographic.{slice_cmp, lists_total}
use Rattle.std.specs.FinMap.{IsAntisymmetric, nat_cmp-IsAntisymmetric, int_cmp-IsAntisymmetric}
use Rattle.std.specs.FinMap.{slice_cmp-IsAntisymmetric}
use Rattle.chr_base.specs.ProgramTests.{Declaration}
use Rattle.chr_base.specs.Texts.{name_of, print_cmp}

pub print_total : (ds : List Declaration) → IsTotalOrder (print_cmp ds)
print_total ds =
    then_total (on_total (name_of ds) (lists_total nat_cmp_total))
    (then_total (on_total (λ a. length a.args.items) nat_cmp_total)
    (then_total (on_total (λ a. a.args.items) (lists_total int_cmp_total)) (on_total (λ a. a.symbol.0) nat_cmp_total)))

then_equal : (o p : Ordering) → ordering_then o p ≡ order.Equal → (o ≡ order.Equal) × (p ≡ order.Equal)
then_equal order.Less p h = absurd (cc)
then_equal order.Equal p h = (refl, h)
then_equal order.Greater p h = absurd (cc)

-- only equal atoms tie
pub print_exact : (ds : List Declaration) → IsAntisymmetric (print_cmp ds)
print_exact ds a b h =
    let one = then_equal (slice_cmp nat_cmp (name_of ds a) (name_of ds b)) _ h in
    let two = then_equal (nat_cmp (length a.args.items) (length b.args.items)) _ one.1 in
    let three = then_equal (slice_cmp int_cmp a.args.items b.args.items) _ two.1 in
    let args : a.args.items ≡ b.args.items = slice_cmp-IsAntisymmetric int_cmp-IsAntisymmetric a.args.items b.args.items
    three.0 in
    let symbol : a.symbol.0 ≡ b.symbol.0 = nat_cmp-IsAntisymmetric a.symbol.0 b.symbol.0 three.1 in
    λ i. record { symbol = record { 0 = symbol i }; args = record { items = args i } }
