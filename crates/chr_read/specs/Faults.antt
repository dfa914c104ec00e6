-- The faults of a clause that has a form, each as a test.
use Rattle.std.specs.Prelude.{ℕ, ◌+◌, List, [], ◌∷◌, ◌++◌, length, Bool, true, false, not, ◌&&◌, ◌||◌, nat_eq, nat_le}
use Rattle.std.specs.Prelude.{nat_lt, Option, is_some, is_none, option_and_then, option_to_list, position, filter_map}
use Rattle.std.specs.Prelude.{codes}
use Rattle.std.specs.List.{list_any, flat_map}
use Rattle.std.specs.Option.{option_map_or}
use Rattle.std.specs.Str.{bytes_eq}
use Rattle.chr_base.specs.declared.limits.TheConstants.{MAX_ARITY, MAX_BODY, MAX_COMPARISONS, MAX_HEADS, MAX_NAME}
use Rattle.chr_base.specs.declared.limits.TheConstants.{MAX_RULES, MAX_SYMBOLS}
use Rattle.chr_base.specs.ProgramTests.{Declaration, declares}
use Rattle.chr_syntax.specs.Clauses.{Term, Atom, Symbol, Rule, Form, variable, number, declare, weight, rule}
use Rattle.chr_syntax.specs.Clauses.{propagation}
use Rattle.chr_read.specs.Numbers.{without_zeros, arity_of, number_of, weight_outside, weight_named_by}
use Rattle.chr_read.specs.Meanings.{Progress}
use Rattle.chr_read.specs.declared.fault.Fault.{Fault}
use Rattle.chr_read.specs.declared.fault.Fault.TheVariants as fault

-- ---- the atoms and the terms of a rule

-- the items that are not `true`
abbrev pub present : {A : Type 0} → List (Option A) → List A
present items = filter_map (λ x. x) items

abbrev pub rule_heads : Rule → List Atom
rule_heads r = r.kept ++ r.removed

abbrev pub rule_atoms : Rule → List Atom
rule_atoms r = rule_heads r ++ present r.body

abbrev pub args_of : List Atom → List Term
args_of atoms = flat_map (λ a. a.args) atoms

-- the terms of guard and body
abbrev pub right_terms : Rule → List Term
right_terms r = flat_map (λ c. c.left ∷ c.right ∷ []) (present r.guard) ++ args_of (present r.body)

abbrev pub written_terms : Rule → List Term
written_terms r = args_of (rule_heads r) ++ right_terms r

-- ---- symbols

-- where the symbol is declared
abbrev pub place_of_symbol : List Declaration → Symbol → Option ℕ
place_of_symbol ds s = option_and_then (λ n. position (declares s.name n) ds) (arity_of s.arity)

abbrev pub is_undeclared : List Declaration → Atom → Bool
is_undeclared ds a = is_none (position (declares a.name (length a.args)) ds)

abbrev pub is_same_symbol : Symbol → Symbol → Bool
is_same_symbol a b = bytes_eq a.name b.name && bytes_eq (without_zeros a.arity) (without_zeros b.arity)

abbrev pub comes_twice : List Symbol → Bool
comes_twice [] = false
comes_twice (s ∷ ss) = list_any (is_same_symbol s) ss || comes_twice ss

-- ---- limits

abbrev pub is_long : List ℕ → Bool
is_long w = nat_lt MAX_NAME (length w)

abbrev pub symbol_over : Symbol → Bool
symbol_over s = is_long s.name || is_none (arity_of s.arity)

abbrev pub atom_over : Atom → Bool
atom_over a = is_long a.name || nat_lt MAX_ARITY (length a.args)

abbrev pub is_long_variable : Term → Bool
is_long_variable (variable w) = is_long w
is_long_variable (number w) = false

-- too many heads, comparisons or atoms in the body, or a part that is too large
abbrev pub rule_over : Rule → Bool
rule_over r = list_any (λ over. over)
    (nat_lt MAX_HEADS (length (rule_heads r)) ∷ nat_lt MAX_COMPARISONS (length (present r.guard))
    ∷ nat_lt MAX_BODY (length (present r.body)) ∷ list_any is_long (option_to_list r.label)
    ∷ list_any atom_over (rule_atoms r) ∷ list_any is_long_variable (written_terms r) ∷ [])

-- ---- variables and numbers

abbrev pub is_anonymous : List ℕ → Bool
is_anonymous w = bytes_eq w (codes "_")

abbrev pub is_named : List ℕ → Term → Bool
is_named w (variable v) = bytes_eq w v
is_named w (number v) = false

-- a variable that no head has, or `_`
abbrev pub is_unbound : Rule → Term → Bool
is_unbound r (variable w) = is_anonymous w || not (list_any (is_named w) (args_of (rule_heads r)))
is_unbound r (number w) = false

-- a number that 64 bits do not hold
abbrev pub is_outside : Term → Bool
is_outside (variable w) = false
is_outside (number w) = is_none (number_of w)

-- ---- weights

-- the symbol has had a weight clause
abbrev pub is_weighed : Progress → Symbol → Bool
is_weighed q s = option_map_or (λ i. list_any (nat_eq i) q.weighed) (place_of_symbol q.meaning.declarations s) false

-- ---- faults

-- whether a clause of this form has this fault, after what the clauses before it made
abbrev pub fault_test : Fault → Progress → Form → Bool
fault_test fault.Propagation q (propagation r) = true
fault_test fault.Undeclared q (weight s first second) = is_none (place_of_symbol q.meaning.declarations s)
fault_test fault.Undeclared q (rule r) = list_any (is_undeclared q.meaning.declarations) (rule_atoms r)
fault_test fault.DeclaredTwice q (declare ss) =
    list_any (λ s. is_some (place_of_symbol q.meaning.declarations s)) ss || comes_twice ss
fault_test fault.Limit q (declare ss) =
    nat_lt MAX_SYMBOLS (length q.meaning.declarations + length ss) || list_any symbol_over ss
fault_test fault.Limit q (rule r) = nat_le MAX_RULES (length q.meaning.rules) || rule_over r
fault_test fault.Unbound q (rule r) = list_any (is_unbound r) (right_terms r)
fault_test fault.NumberRange q (weight s first second) = weight_outside first second
fault_test fault.NumberRange q (rule r) = list_any is_outside (written_terms r)
fault_test fault.WeightFault q (weight s first second) = is_none (weight_named_by first second) || is_weighed q s
fault_test _ q f = false
