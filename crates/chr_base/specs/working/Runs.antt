-- Runs: neighbours of one symbol that have the same number of arguments.
use Rattle.std.specs.Prelude.{◌≡◌, ◌-◌, ◌<◌, Bool, false, ◌&&◌, List, length, nat_eq, IsTrue, Some, slice_get}
use Rattle.std.specs.Ordering.{is_gt}
use Rattle.chr_base.specs.declared.atom.Atom.{Atom}
use Rattle.chr_base.specs.FinBag.{is_rising}
use Rattle.chr_base.specs.ProgramTests.{Declaration}
use Rattle.chr_base.specs.Texts.{print_cmp}

-- the two have one symbol and as many arguments
abbrev pub are_alike : Atom → Atom → Bool
are_alike a b = nat_eq a.symbol.0 b.symbol.0 && nat_eq (length a.args.items) (length b.args.items)

-- there are atoms, and in whatever program they never fall as they are printed
pub record IsRun (r : List Atom) : Type 0 where
  pub some : 0 < length r
  pub rises : (ds : List Declaration) → IsTrue (is_rising (print_cmp ds) r)

-- the last of the one list isn't printed after the first of the other
abbrev pub Precedes : List Declaration → List Atom → List Atom → Type 0
Precedes ds l r =
    (x y : Atom) → slice_get l (length l - 1) ≡ Some x → slice_get r 0 ≡ Some y → is_gt (print_cmp ds x y) ≡ false
