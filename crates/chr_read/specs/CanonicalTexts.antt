-- The canonical text of a program: its clauses in a fixed order and layout, each with a full stop and a line feed.
use Rattle.std.specs.Prelude.{ℕ, Bool, ◌&&◌, nat_eq, if◌then◌else◌, List, [], ◌∷◌, ◌++◌, map, Option, Some, None}
use Rattle.std.specs.Prelude.{option_map, codes, decimal}
use Rattle.std.specs.Fmt.{signed_decimal}
use Rattle.chr_base.specs.declared.term.Term.{Term}
use Rattle.chr_base.specs.declared.term.Term.TheVariants.{Variable, Constant}
use Rattle.chr_base.specs.declared.term.Cmp.{Cmp}
use Rattle.chr_base.specs.declared.term.Cmp.TheVariants as cmp
use Rattle.chr_base.specs.declared.term.Comparison.{Comparison}
use Rattle.chr_base.specs.declared.term.Pattern.{Pattern}
use Rattle.chr_base.specs.declared.rule.Rule.{Rule}
use Rattle.chr_base.specs.declared.weight.Weight.{Weight}
use Rattle.chr_base.specs.ProgramTests.{Declaration}
use Rattle.chr_base.specs.Texts.{name_at}
use Rattle.chr_base.specs.Weights.{is_paired, weight_text}

-- ---- lists

-- the text of each, with the separator before it
abbrev pub more : {A : Type 0} → List ℕ → (A → List ℕ) → List A → List ℕ
more separator f [] = []
more separator f (x ∷ xs) = separator ++ (f x ++ more separator f xs)

-- the text of each, with the separator between
abbrev pub separated : {A : Type 0} → List ℕ → (A → List ℕ) → List A → List ℕ
separated separator f [] = []
separated separator f (x ∷ xs) = f x ++ more separator f xs

-- ---- atoms and comparisons

abbrev pub term_text : Term → List ℕ
term_text (Variable x) = codes "V" ++ decimal x
term_text (Constant c) = signed_decimal c

abbrev pub args_text : List Term → List ℕ
args_text [] = []
args_text (t ∷ ts) = codes "(" ++ (separated (codes ",") term_text (t ∷ ts) ++ codes ")")

abbrev pub pattern_text : List Declaration → Pattern → List ℕ
pattern_text ds p = name_at ds p.symbol.0 ++ args_text p.args.items

abbrev pub patterns_text : List Declaration → List Pattern → List ℕ
patterns_text ds ps = separated (codes ", ") (pattern_text ds) ps

abbrev pub cmp_text : Cmp → List ℕ
cmp_text cmp.Less = codes "<"
cmp_text cmp.AtMost = codes "=<"
cmp_text cmp.Greater = codes ">"
cmp_text cmp.AtLeast = codes ">="
cmp_text cmp.Equal = codes "=:="
cmp_text cmp.NotEqual = codes "=\\="

abbrev pub comparison_text : Comparison → List ℕ
comparison_text c = term_text c.left ++ (codes " " ++ (cmp_text c.cmp ++ (codes " " ++ term_text c.right)))

-- ---- rules

abbrev pub label_text : Option (List ℕ) → List ℕ
label_text None = []
label_text (Some w) = w ++ codes " @ "

abbrev pub kept_text : List Declaration → List Pattern → List ℕ
kept_text ds [] = []
kept_text ds (p ∷ ps) = patterns_text ds (p ∷ ps) ++ codes " \\ "

abbrev pub guard_text : List Comparison → List ℕ
guard_text [] = []
guard_text (c ∷ cs) = separated (codes ", ") comparison_text (c ∷ cs) ++ codes " | "

abbrev pub body_text : List Declaration → List Pattern → List ℕ
body_text ds [] = codes "true"
body_text ds (p ∷ ps) = patterns_text ds (p ∷ ps)

abbrev pub rule_clause : List Declaration → Rule → List ℕ
rule_clause ds r =
    label_text (option_map (λ n. n.bytes) r.name)
    ++ (kept_text ds r.kept.items ++ (patterns_text ds r.removed.items
    ++ (codes " <=> " ++ (guard_text r.guard.items ++ body_text ds r.body.items))))

-- ---- declarations

abbrev pub symbol_text : Declaration → List ℕ
symbol_text d = d.name ++ (codes "/" ++ decimal d.arity)

-- one clause, where there are symbols
abbrev pub declaration_clauses : List Declaration → List (List ℕ)
declaration_clauses [] = []
declaration_clauses (d ∷ ds) = (codes ":- chr_constraint " ++ separated (codes ", ") symbol_text (d ∷ ds)) ∷ []

abbrev pub weight_clause : Declaration → List ℕ
weight_clause d =
    codes ":- chr_weight " ++ (symbol_text d ++ (codes " = " ++ weight_text (is_paired d.weight) d.weight))

-- a weight that isn't written
abbrev pub is_default : Weight → Bool
is_default w = nat_eq w.first 1 && nat_eq w.second 0

-- a clause for each symbol whose weight isn't the default
abbrev pub weight_clauses : List Declaration → List (List ℕ)
weight_clauses [] = []
weight_clauses (d ∷ ds) = if is_default d.weight then weight_clauses ds else weight_clause d ∷ weight_clauses ds

-- ---- the text

-- the clauses, without their ends: all declarations in one, one for each weight that isn't the default, and the
-- rules
abbrev pub clauses : List Declaration → List Rule → List (List ℕ)
clauses ds rs = declaration_clauses ds ++ (weight_clauses ds ++ map (rule_clause ds) rs)

-- each clause with its full stop and line feed
abbrev pub ended_clauses : List (List ℕ) → List ℕ
ended_clauses [] = []
ended_clauses (c ∷ cs) = c ++ (codes ".\n" ++ ended_clauses cs)

abbrev pub canonical : List Declaration → List Rule → List ℕ
canonical ds rs = ended_clauses (clauses ds rs)
