-- Parts of the spelling of a form.
use Rattle.std.specs.Prelude.{ℕ, List, [], ◌∷◌, Option}
use Rattle.std.specs.Option.{IfSome}
use Rattle.chr_syntax.specs.Tokens.{Tok}
use Rattle.chr_syntax.specs.Clauses.{Term, Atom}
use Rattle.chr_syntax.specs.Grammar.{term_token, spelled_list, spelled_item, spelled_atom, IsUnreserved}

abbrev pub spelled_term : Term → List Tok
spelled_term x = term_token x ∷ []

abbrev pub spelled_atoms : List Atom → List Tok
spelled_atoms xs = spelled_list spelled_atom xs

abbrev pub spelled_body : List (Option Atom) → List Tok
spelled_body items = spelled_list (spelled_item spelled_atom) items

abbrev pub IsLabel : Option (List ℕ) → Type 0
IsLabel o = IfSome o IsUnreserved

abbrev pub IsAtom : Atom → Type 0
IsAtom a = IsUnreserved a.name

abbrev pub IsItem : Option Atom → Type 0
IsItem o = IfSome o IsAtom
