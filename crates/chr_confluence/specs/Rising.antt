-- Maps of values that keep their order on a set of values.
use Rattle.std.specs.Prelude.{◌≡◌, ℤ, Bool, true, List, map, ◌||◌}
use Rattle.std.specs.Ordering.{int_cmp, int_eq}
use Rattle.chr_base.specs.declared.atom.Atom.{Atom}
use Rattle.chr_base.specs.declared.term.Term.{Term}
use Rattle.chr_base.specs.declared.term.Term.TheVariants.{Constant}
use Rattle.chr_base.specs.declared.rule.Rule.{Rule}
use Rattle.chr_base.specs.Stores.{Store, store_of}
use Rattle.chr_base.specs.FinBag.{items}
use Rattle.chr_types.specs.OrderTypes.{In}
use Rattle.chr_confluence.specs.Constants.{rule_terms}
use Rattle.std.specs.List.{list_any}

-- any two values of the set d compare as their images do
abbrev pub KeepsOrder : (ℤ → ℤ) → (ℤ → Bool) → Type 0
KeepsOrder f d = (x y : ℤ) → d x ≡ true → d y ≡ true → int_cmp (f x) (f y) ≡ int_cmp x y

-- each constant among the terms is in d, and f fixes it
abbrev pub FixesTerms : (ℤ → ℤ) → (ℤ → Bool) → List Term → Type 0
FixesTerms f d ts = (c : ℤ) → In (Constant c) ts → (d c ≡ true) × (f c ≡ c)

abbrev pub FixesRule : (ℤ → ℤ) → (ℤ → Bool) → Rule → Type 0
FixesRule f d r = FixesTerms f d (rule_terms r)

abbrev pub rename_atom : (ℤ → ℤ) → Atom → Atom
rename_atom f a = record { symbol = a.symbol; args = record { items = map f a.args.items } }

-- the store with f applied to each argument
abbrev pub rename : (ℤ → ℤ) → Store → Store
rename f s = store_of (map (rename_atom f) (items s))

-- the first of a pair, or one of the constants
abbrev pub among : List (ℤ × ℤ) → List ℤ → ℤ → Bool
among ps cs x = list_any (λ p. int_eq x p.0) ps || list_any (int_eq x) cs
