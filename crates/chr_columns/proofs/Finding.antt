-- Which group is the first for a symbol.
use Rattle.std.specs.Prelude.{Bool, if◌then◌else◌}
use Rattle.std.proofs.Common.{◌≡◌, ℕ, zero, suc, ◌<◌, ◌≤◌, List, [], ◌∷◌, length, get_or, drop, true, false, refl, sym}
use Rattle.std.proofs.Common.{ap, ◌∙◌, arith}
use Rattle.chr_base.specs.declared.atom.SymbolId.{SymbolId}
use Rattle.chr_columns.specs.declared.groups.Group.{Group}
use Rattle.chr_columns.specs.working.Groups.{is_for, table_of}

pub first_here : (gs : List Group) (s : SymbolId) (n i : ℕ) (g : Group) → i < length gs → g ≡ get_or gs i g
    → is_for s n g ≡ true
    → table_of (drop i gs) s n ≡ 0
first_here [] s n i g l e h = absurd (omega (arith, l))
first_here (x ∷ gs) s n zero g l e h = let f : is_for s n x ≡ true = ap (is_for s n) (sym e) ∙ h in rw f refl
first_here (x ∷ gs) s n (suc i) g l e h = first_here gs s n i g (omega (arith, l)) e h

pub not_here : (gs : List Group) (s : SymbolId) (n i : ℕ) (g : Group) → i < length gs → g ≡ get_or gs i g → is_for s n g
    ≡ false
    → table_of (drop i gs) s n ≡ suc (table_of (drop (suc i) gs) s n)
not_here [] s n i g l e h = absurd (omega (arith, l))
not_here (x ∷ gs) s n zero g l e h = let f : is_for s n x ≡ false = ap (is_for s n) (sym e) ∙ h in rw f refl
not_here (x ∷ gs) s n (suc i) g l e h = not_here gs s n i g (omega (arith, l)) e h

pub none_past : (gs : List Group) (s : SymbolId) (n i : ℕ) → length gs ≡ i → table_of (drop i gs) s n ≡ 0
none_past [] s n zero e = refl
none_past [] s n (suc i) e = refl
none_past (x ∷ gs) s n zero e = absurd (omega (arith, e))
none_past (x ∷ gs) s n (suc i) e = none_past gs s n i (omega (arith, e))

pub table_of_most : (gs : List Group) (s : SymbolId) (n : ℕ) → table_of gs s n ≤ length gs
table_of_most [] s n = omega arith
table_of_most (g ∷ gs) s n = by (is_for s n g) (table_of_most gs s n)
  where
    by : (b : Bool) → table_of gs s n ≤ length gs → (if b then 0 else suc (table_of gs s n)) ≤ suc (length gs)
    by true more = omega arith
    by false more = omega (arith, more)
