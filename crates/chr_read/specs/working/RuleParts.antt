-- The tests of a clause as the code makes them: list by list.
use Rattle.std.specs.Prelude.{ℕ, ◌+◌, List, [], ◌∷◌, ◌++◌, if◌then◌else◌, length, Bool, false, not, ◌&&◌, ◌||◌, nat_lt}
use Rattle.std.specs.Prelude.{Option, Some, None, is_some, is_none, unwrap_or, position, nat_eq}
use Rattle.std.specs.List.{list_any}
use Rattle.std.specs.Option.{option_map_or}
use Rattle.chr_base.specs.declared.limits.TheConstants.{MAX_BODY, MAX_COMPARISONS, MAX_HEADS}
use Rattle.chr_base.specs.ProgramTests.{Declaration, declares}
use Rattle.chr_syntax.specs.Clauses.{Term, Atom, Symbol, Comparison, Rule, variable, number}
use Rattle.chr_read.specs.Faults.{present, place_of_symbol, is_undeclared, is_same_symbol, is_long, is_long_variable}
use Rattle.chr_read.specs.Faults.{atom_over, is_anonymous, is_named, is_outside}
use Rattle.chr_read.specs.Resolving.{met_at}
use Rattle.chr_read.specs.Meanings.{Progress}
use Rattle.chr_read.specs.Numbers.{weight_named_by}

-- where the symbol of this name and number of arguments is declared
abbrev pub place_of : List Declaration → List ℕ → ℕ → Option ℕ
place_of ds w n = position (declares w n) ds

abbrev pub place_of_atom : List Declaration → Atom → Option ℕ
place_of_atom ds a = place_of ds a.name (length a.args)

abbrev pub any_undeclared : List Declaration → List Atom → Bool
any_undeclared ds atoms = list_any (is_undeclared ds) atoms

abbrev pub rule_undeclared : List Declaration → Rule → Bool
rule_undeclared ds r = any_undeclared ds r.kept || (any_undeclared ds r.removed || any_undeclared ds (present r.body))

abbrev pub is_declared_already : List Declaration → Symbol → Bool
is_declared_already ds s = is_some (place_of_symbol ds s)

-- some symbol is one of those seen, or comes twice
abbrev pub comes_again : List Symbol → List Symbol → Bool
comes_again seen [] = false
comes_again seen (s ∷ ss) = list_any (λ e. is_same_symbol e s) seen || comes_again (s ∷ seen) ss

abbrev pub declared_twice : List Declaration → List Symbol → Bool
declared_twice ds ss = list_any (is_declared_already ds) ss || comes_again [] ss

-- ---- limits

abbrev pub parts_of_atom_over : Atom → Bool
parts_of_atom_over a = atom_over a || list_any is_long_variable a.args

abbrev pub comparison_over : Comparison → Bool
comparison_over c = is_long_variable c.left || is_long_variable c.right

abbrev pub label_over : Option (List ℕ) → Bool
label_over None = false
label_over (Some w) = is_long w

abbrev pub has_long_lists : Rule → Bool
has_long_lists r =
    nat_lt MAX_HEADS (length r.kept + length r.removed)
    || (nat_lt MAX_COMPARISONS (length (present r.guard)) || nat_lt MAX_BODY (length (present r.body)))

abbrev pub parts_over : Rule → Bool
parts_over r =
    list_any parts_of_atom_over r.kept || (list_any parts_of_atom_over r.removed
    || (list_any comparison_over (present r.guard) || list_any parts_of_atom_over (present r.body)))

abbrev pub some_part_over : Rule → Bool
some_part_over r = has_long_lists r || (label_over r.label || parts_over r)

-- ---- unbound variables

abbrev pub stands_in : List ℕ → List Atom → Bool
stands_in w atoms = list_any (λ a. list_any (is_named w) a.args) atoms

abbrev pub is_bound : Rule → List ℕ → Bool
is_bound r w = not (is_anonymous w) && (stands_in w r.kept || stands_in w r.removed)

abbrev pub term_unbound : Rule → Term → Bool
term_unbound r (variable w) = not (is_bound r w)
term_unbound r (number w) = false

abbrev pub atom_unbound : Rule → Atom → Bool
atom_unbound r a = list_any (term_unbound r) a.args

abbrev pub comparison_unbound : Rule → Comparison → Bool
comparison_unbound r c = term_unbound r c.left || term_unbound r c.right

abbrev pub rule_unbound : Rule → Bool
rule_unbound r = list_any (comparison_unbound r) (present r.guard) || list_any (atom_unbound r) (present r.body)

-- ---- numbers

abbrev pub atom_outside : Atom → Bool
atom_outside a = list_any is_outside a.args

abbrev pub comparison_outside : Comparison → Bool
comparison_outside c = is_outside c.left || is_outside c.right

abbrev pub rule_outside : Rule → Bool
rule_outside r =
    list_any atom_outside r.kept || (list_any atom_outside r.removed
    || (list_any comparison_outside (present r.guard) || list_any atom_outside (present r.body)))

-- ---- weights

abbrev pub is_among : List ℕ → Option ℕ → Bool
is_among places o = option_map_or (λ i. list_any (nat_eq i) places) o false

abbrev pub weight_bad : Progress → Symbol → List ℕ → Option (List ℕ) → Bool
weight_bad q s first second =
    is_none (weight_named_by first second) || is_among q.weighed (place_of_symbol q.meaning.declarations s)

-- ---- rules

-- the variables met so far
abbrev pub Names : Type 0
Names = List (List ℕ)

abbrev pub with_variable : Names → List ℕ → Names
with_variable names w = if is_some (met_at names w) then names else names ++ w ∷ []

abbrev pub symbol_of : List Declaration → Atom → ℕ
symbol_of ds a = unwrap_or (place_of_atom ds a) 0
