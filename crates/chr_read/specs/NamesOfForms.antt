-- The names of a clause: that they are text, and names of a program.
use Rattle.std.specs.Prelude.{◌≡◌, ℕ, List, [], ◌∷◌, ◌++◌, map, Bool, true, option_to_list}
use Rattle.std.specs.List.{AllByRecursion, list_all}
use Rattle.std.specs.Str.{is_utf8}
use Rattle.chr_syntax.specs.Clauses.{Atom, Form, use_module, declare, weight, rule, propagation}
use Rattle.chr_syntax.specs.Lexemes.{AreClause}
use Rattle.chr_base.specs.Names.{is_name}
use Rattle.chr_read.specs.Faults.{present}

abbrev pub names_of_atoms : List Atom → List (List ℕ)
names_of_atoms atoms = map (λ a. a.name) atoms

-- the names of symbols and rules in a form
abbrev pub names_in : Form → List (List ℕ)
names_in use_module = []
names_in (declare ss) = map (λ s. s.name) ss
names_in (weight s first second) = s.name ∷ []
names_in (rule r) =
    option_to_list r.label
    ++ (names_of_atoms r.kept ++ (names_of_atoms r.removed ++ names_of_atoms (present r.body)))
names_in (propagation r) = option_to_list r.label ++ (names_of_atoms r.removed ++ names_of_atoms (present r.body))

-- the names of every clause are text
abbrev pub NamesAreText : Type 0
NamesAreText = (f : Form) (c : List ℕ) → AreClause f c → AllByRecursion (λ w. is_utf8 w ≡ true) (names_in f)

abbrev pub has_names : Form → Bool
has_names f = list_all is_name (names_in f)

-- the names of every clause are names of symbols and rules
abbrev pub NamesAreNames : Type 0
NamesAreNames = (f : Form) (c : List ℕ) → AreClause f c → has_names f ≡ true
