-- What a program is seen as.
use Rattle.std.specs.Prelude.{ℤ, ℕ, Bool, List, map, length, slice_get, position, Option, option_map}
use Rattle.chr_base.specs.declared.atom.Atom.{Atom}
use Rattle.chr_base.specs.declared.rule.Rule.{Rule}
use Rattle.chr_base.specs.declared.program.Program.{Program}
use Rattle.chr_base.specs.ProgramTests.{Declaration, declared, takes, declares}

-- the declarations of a program, in order
abbrev pub declarations : Program → List Declaration
declarations p = map declared p.symbols.entries

-- the rules of a program, in order
abbrev pub rules_of : Program → List Rule
rules_of p = p.rules.items

-- the atom's symbol is declared with that many arguments
abbrev pub declares_atom : List Declaration → Atom → Bool
declares_atom ds a = takes (slice_get ds a.symbol.0) (length a.args.items)

-- the atom of this name with these arguments, where it is declared
abbrev pub declared_atom : List Declaration → List ℕ → List ℤ → Option Atom
declared_atom ds name zs =
    option_map (λ i. record { symbol = record { 0 = i }; args = record { items = zs } })
    (position (declares name (length zs)) ds)
