-- The clauses of a canonical text, as forms.
use Rattle.std.proofs.Common.{List, [], ◌∷◌, ◌++◌, map, cond, Option, Some, None, option_map}
use Rattle.std.specs.Prelude.{ℕ, codes, decimal}
use Rattle.std.specs.Fmt.{signed_decimal}
use Rattle.chr_base.specs.declared.term.Term as base
use Rattle.chr_base.specs.declared.term.Term.TheVariants.{Variable, Constant}
use Rattle.chr_base.specs.declared.term.Cmp.{Cmp}
use Rattle.chr_base.specs.declared.term.Cmp.TheVariants as cmp
use Rattle.chr_base.specs.declared.term.Comparison as base_comparison
use Rattle.chr_base.specs.declared.term.Pattern.{Pattern}
use Rattle.chr_base.specs.declared.rule.Rule as base_rule
use Rattle.chr_base.specs.declared.weight.Weight.{Weight}
use Rattle.chr_base.specs.ProgramTests.{Declaration}
use Rattle.chr_base.specs.Weights.{is_paired}
use Rattle.chr_syntax.specs.declared.clause.Comparator.{Comparator}
use Rattle.chr_syntax.specs.declared.clause.Comparator.TheVariants as sign
use Rattle.chr_syntax.specs.Clauses.{Term, Atom, Symbol, Comparison, Rule, Form, variable, number, declare, weight}
use Rattle.chr_syntax.specs.Clauses.{rule}
use Rattle.chr_base.specs.Texts.{name_at}
use Rattle.chr_read.specs.CanonicalTexts.{is_default}

abbrev pub written_term : base.Term → Term
written_term (Variable x) = variable (codes "V" ++ decimal x)
written_term (Constant c) = number (signed_decimal c)

abbrev pub written_atom : List Declaration → Pattern → Atom
written_atom ds p = record { name = name_at ds p.symbol.0; args = map written_term p.args.items }

abbrev pub comparator_of : Cmp → Comparator
comparator_of cmp.Less = sign.Less
comparator_of cmp.AtMost = sign.AtMost
comparator_of cmp.Greater = sign.Greater
comparator_of cmp.AtLeast = sign.AtLeast
comparator_of cmp.Equal = sign.Equal
comparator_of cmp.NotEqual = sign.NotEqual

abbrev pub written_comparison : base_comparison.Comparison → Comparison
written_comparison c = record {
  left = written_term c.left;
  comparator = comparator_of c.cmp;
  right =
      written_term c.right;
}

-- an empty body is `true`
abbrev pub written_body : List Declaration → List Pattern → List (Option Atom)
written_body ds [] = None ∷ []
written_body ds (p ∷ ps) = map (λ a. Some (written_atom ds a)) (p ∷ ps)

abbrev pub written_rule : List Declaration → base_rule.Rule → Rule
written_rule ds r = record {
  label = option_map (λ n. n.bytes) r.name;
  kept = map (written_atom ds) r.kept.items;
  removed = map (written_atom ds) r.removed.items;
  guard = map (λ c. Some (written_comparison c)) r.guard.items;
  body = written_body ds r.body.items;
}

abbrev pub written_symbol : Declaration → Symbol
written_symbol d = record { name = d.name; arity = decimal d.arity }

abbrev pub declaration_forms : List Declaration → List Form
declaration_forms [] = []
declaration_forms (d ∷ ds) = declare (map written_symbol (d ∷ ds)) ∷ []

-- the second number, where it is written
abbrev pub written_second : Weight → Option (List ℕ)
written_second w = cond (is_paired w) (Some (decimal w.second)) None

abbrev pub written_weight : Declaration → Form
written_weight d = weight (written_symbol d) (decimal d.weight.first) (written_second d.weight)

abbrev pub weight_forms : List Declaration → List Form
weight_forms [] = []
weight_forms (d ∷ ds) = cond (is_default d.weight) (weight_forms ds) (written_weight d ∷ weight_forms ds)

abbrev pub rule_forms : List Declaration → List base_rule.Rule → List Form
rule_forms ds rs = map (λ r. rule (written_rule ds r)) rs
