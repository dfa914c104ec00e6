-- The order of atoms.
use Rattle.std.specs.Prelude.{length, []}
use Rattle.std.specs.declared.cmp.Ordering.{Ordering}
use Rattle.std.specs.Ordering.{nat_cmp, int_cmp, ordering_then}
use Rattle.std.specs.Cmp.Lexicographic.{slice_cmp}
use Rattle.chr_base.specs.declared.atom.Atom.{Atom}

-- by symbol, then by the number of arguments, and then by the arguments, the first first
abbrev pub atom_cmp : Atom → Atom → Ordering
atom_cmp a b =
    ordering_then (nat_cmp a.symbol.0 b.symbol.0)
    (ordering_then (nat_cmp (length a.args.items) (length b.args.items)) (slice_cmp int_cmp a.args.items b.args.items))

-- what is read past the last atom
abbrev pub no_atom : Atom
no_atom = record { symbol = record { 0 = 0 }; args = record { items = [] } }
