-- The rule that a rule as written is: symbols by their places, variables by their numbers, digits by their values.
-- Variables are numbered from 1 by first occurrence in the heads, kept ones first. Each `_` is a variable of its own.
use Rattle.std.specs.Prelude.{ℕ, ◌+◌, pos, List, [], ◌∷◌, ◌++◌, length, map, Option, None, is_some, unwrap_or, position}
use Rattle.std.specs.Prelude.{if◌then◌else◌}
use Rattle.std.specs.List.{fold}
use Rattle.std.specs.Str.{bytes_eq}
use Rattle.chr_base.specs.declared.term.Cmp.{Cmp}
use Rattle.chr_base.specs.declared.term.Cmp.TheVariants as cmp
use Rattle.chr_base.specs.declared.term.Term.TheVariants.{Variable, Constant}
use Rattle.chr_base.specs.declared.term.Term as base_term
use Rattle.chr_base.specs.declared.term.Comparison as base_comparison
use Rattle.chr_base.specs.declared.term.Pattern.{Pattern}
use Rattle.chr_base.specs.ProgramTests.{Declaration, declares}
use Rattle.chr_syntax.specs.declared.clause.Comparator.{Comparator}
use Rattle.chr_syntax.specs.declared.clause.Comparator.TheVariants as sign
use Rattle.chr_syntax.specs.Clauses.{Term, Atom, Comparison, Rule, variable, number}
use Rattle.chr_read.specs.Numbers.{number_of}
use Rattle.chr_read.specs.Faults.{present, is_anonymous}
use Rattle.chr_base.specs.Sameness.{Parts}

-- Names are the variables met so far, in the order in which they were met. The number of a variable is its place, from
-- 1.

-- where the variable was met before
abbrev pub met_at : List (List ℕ) → List ℕ → Option ℕ
met_at names w = if is_anonymous w then None else position (bytes_eq w) names

abbrev pub variable_of : List (List ℕ) → List ℕ → ℕ
variable_of names w = unwrap_or (met_at names w) (length names) + 1

abbrev pub resolved_term : List (List ℕ) → Term → base_term.Term
resolved_term names (variable w) = Variable (variable_of names w)
resolved_term names (number w) = Constant (unwrap_or (number_of w) (pos 0))

abbrev pub after_term : List (List ℕ) → Term → List (List ℕ)
after_term names (variable w) = if is_some (met_at names w) then names else names ++ w ∷ []
after_term names (number w) = names

-- the terms of a head
abbrev pub head_terms : List (List ℕ) → List Term → List base_term.Term
head_terms names [] = []
head_terms names (t ∷ ts) = resolved_term names t ∷ head_terms (after_term names t) ts

abbrev pub after_terms : List (List ℕ) → List Term → List (List ℕ)
after_terms names ts = fold after_term names ts

abbrev pub pattern : List Declaration → Atom → List base_term.Term → Pattern
pattern ds a ts = record {
  symbol = record { 0 = unwrap_or (position (declares a.name (length a.args)) ds) 0 };
  args = record { items = ts };
}

abbrev pub heads : List Declaration → List (List ℕ) → List Atom → List Pattern
heads ds names [] = []
heads ds names (a ∷ atoms) = pattern ds a (head_terms names a.args) ∷ heads ds (after_terms names a.args) atoms

abbrev pub after_heads : List (List ℕ) → List Atom → List (List ℕ)
after_heads names atoms = fold (λ ns a. after_terms ns a.args) names atoms

-- an atom of the body
abbrev pub body_atom : List Declaration → List (List ℕ) → Atom → Pattern
body_atom ds names a = pattern ds a (map (resolved_term names) a.args)

abbrev pub cmp_of : Comparator → Cmp
cmp_of sign.Less = cmp.Less
cmp_of sign.AtMost = cmp.AtMost
cmp_of sign.Greater = cmp.Greater
cmp_of sign.AtLeast = cmp.AtLeast
cmp_of sign.Equal = cmp.Equal
cmp_of sign.NotEqual = cmp.NotEqual

abbrev pub resolved_comparison : List (List ℕ) → Comparison → base_comparison.Comparison
resolved_comparison names c = record {
  left = resolved_term names c.left;
  cmp = cmp_of c.comparator;
  right = resolved_term names c.right;
}

abbrev pub names_of : Rule → List (List ℕ)
names_of r = after_heads (after_heads [] r.kept) r.removed

abbrev pub resolved : List Declaration → Rule → Parts
resolved ds r = record {
  name = r.label;
  kept = heads ds [] r.kept;
  removed = heads ds (after_heads [] r.kept) r.removed;
  guard = map (resolved_comparison (names_of r)) (present r.guard);
  body = map (body_atom ds (names_of r)) (present r.body);
}
