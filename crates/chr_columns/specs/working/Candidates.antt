-- An argument that is known of a head, and atoms without it.
use Rattle.std.specs.Prelude.{◌≡◌, ◌<◌, slice_get, Option, Some, None, ⊤}
use Rattle.chr_base.specs.declared.atom.Atom.{Atom}
use Rattle.chr_base.specs.declared.limits.TheConstants.{MAX_ARITY}
use Rattle.chr_base.specs.declared.term.Pattern.{Pattern}
use Rattle.chr_base.specs.declared.term.Term.TheVariants.{Constant}
use Rattle.chr_columns.specs.declared.candidates.Known.{Known}

-- atoms may have an argument in the column
abbrev pub IsWithinAtom : Option Known → Type 0
IsWithinAtom None = ⊤
IsWithinAtom (Some k) = k.column < MAX_ARITY

-- where an argument is known, the pattern has it as a constant
abbrev pub IsKnownConstant : Pattern → Option Known → Type 0
IsKnownConstant p None = ⊤
IsKnownConstant p (Some k) = slice_get p.args.items k.column ≡ Some (Constant k.value)

-- an argument is known, and the atom doesn't have it
abbrev pub Misses : Option Known → Atom → Type 0
Misses None a = ⊥
Misses (Some k) a = ¬ (slice_get a.args.items k.column ≡ Some k.value)
