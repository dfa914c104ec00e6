-- The valuation that given heads make, and the test whether a rule has an instance with them.
use Rattle.std.specs.Prelude.{ℕ, ℤ, pos, Bool, true, false, ◌&&◌, if◌then◌else◌, List, [], ◌∷◌, Some, None, Option}
use Rattle.std.specs.Option.{unwrap_or, option_or}
use Rattle.std.specs.Ordering.{eq_by_cmp}
use Rattle.chr_base.specs.declared.atom.Atom.{Atom}
use Rattle.chr_base.specs.declared.term.Term.{Term}
use Rattle.chr_base.specs.declared.term.Pattern.{Pattern}
use Rattle.chr_base.specs.declared.rule.Rule.{Rule}
use Rattle.chr_base.specs.Atoms.{atom_cmp}
use Rattle.chr_base.specs.RuleTests.{is_variable}
use Rattle.chr_base.specs.Rules.{Valuation, atom_at, guard_holds, heads_of}

-- the value at the variable's first place among the terms
abbrev pub first_value : List Term → List ℤ → ℕ → Option ℤ
first_value [] zs x = None
first_value (t ∷ ts) [] x = None
first_value (t ∷ ts) (z ∷ zs) x = if is_variable x t then Some z else first_value ts zs x

-- the value at the variable's first place among the patterns
abbrev pub value_among : List Pattern → List Atom → ℕ → Option ℤ
value_among [] as' x = None
value_among (p ∷ ps) [] x = None
value_among (p ∷ ps) (a ∷ as') x = option_or (first_value p.args.items a.args.items x) (value_among ps as' x)

-- the value of each variable at its first place among the patterns, 0 for one that stands in none of them
abbrev pub valuation : List Pattern → List Atom → Valuation
valuation ps as' x = unwrap_or (value_among ps as' x) (pos 0)

-- the patterns come out as these atoms, place by place
abbrev pub agree : Valuation → List Pattern → List Atom → Bool
agree v [] [] = true
agree v [] (a ∷ as') = false
agree v (p ∷ ps) [] = false
agree v (p ∷ ps) (a ∷ as') = eq_by_cmp atom_cmp (atom_at v p) a && agree v ps as'

-- the rule has an instance with these heads
abbrev pub fires : Rule → List Atom → Bool
fires r heads =
    agree (valuation (heads_of r) heads) (heads_of r) heads && guard_holds (valuation (heads_of r) heads) r.guard.items
