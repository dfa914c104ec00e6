-- Atoms and stores as text.
use Rattle.std.specs.Prelude.{ℕ, ℤ, List, [], ◌∷◌, ◌++◌, length, codes, slice_get}
use Rattle.std.specs.List.{join_by}
use Rattle.std.specs.Option.{option_map_or}
use Rattle.std.specs.Fmt.{signed_decimal}
use Rattle.std.specs.declared.cmp.Ordering.{Ordering}
use Rattle.std.specs.Ordering.{nat_cmp, int_cmp, ordering_then}
use Rattle.std.specs.Cmp.Lexicographic.{slice_cmp}
use Rattle.chr_base.specs.declared.atom.Atom.{Atom}
use Rattle.chr_base.specs.ProgramTests.{Declaration}
use Rattle.chr_base.specs.Stores.{Store}
use Rattle.chr_base.specs.FinBag as bag

-- the name of the symbol at a place (none where none is declared there)
abbrev pub name_at : List Declaration → ℕ → List ℕ
name_at ds i = option_map_or (λ d. d.name) (slice_get ds i) []

abbrev pub name_of : List Declaration → Atom → List ℕ
name_of ds a = name_at ds a.symbol.0

-- The order in which atoms are printed: by the bytes of the name, then by the number of arguments, then by the
-- arguments. The symbol's place is compared last, so that only equal atoms tie. Atoms that are not declared come first,
-- since they have no name.
abbrev pub print_cmp : List Declaration → Atom → Atom → Ordering
print_cmp ds a b =
    ordering_then (slice_cmp nat_cmp (name_of ds a) (name_of ds b))
    (ordering_then (nat_cmp (length a.args.items) (length b.args.items))
    (ordering_then (slice_cmp int_cmp a.args.items b.args.items) (nat_cmp a.symbol.0 b.symbol.0)))

-- the atoms of a store in the order in which they are printed, one that occurs more than once as often as it does
abbrev pub in_print_order : List Declaration → Store → List Atom
in_print_order ds s = bag.items (bag.of_list {R = print_cmp ds} (bag.items s))

-- values, joined by commas, in parentheses, and nothing where there is none
abbrev pub values_text : List ℤ → List ℕ
values_text [] = []
values_text (z ∷ zs) = codes "(" ++ join_by signed_decimal (codes ",") (z ∷ zs) ++ codes ")"

-- an atom: its name, and its arguments in parentheses where it has some
abbrev pub atom_text : List Declaration → Atom → List ℕ
atom_text ds a = name_of ds a ++ values_text a.args.items

abbrev pub atoms_text : List Declaration → List Atom → List ℕ
atoms_text ds [] = codes "true"
atoms_text ds (a ∷ as') = join_by (atom_text ds) (codes ", ") (a ∷ as')

-- the atoms of a store, joined by a comma and a space, or `true` where there is none
abbrev pub store_text : List Declaration → Store → List ℕ
store_text ds s = atoms_text ds (in_print_order ds s)
