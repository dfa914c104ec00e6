-- Instances of rules, and the steps of a program on stores.
use Rattle.std.specs.Prelude.{◌≡◌, ◌<◌, ◌-◌, ◌&&◌, ℕ, ℤ, pos, Bool, IsTrue, List, [], ◌++◌, map, length, get_or}
use Rattle.std.specs.Prelude.{nat_eq, Some, slice_get}
use Rattle.std.specs.declared.cmp.Ordering.{Ordering}
use Rattle.std.specs.Ordering.{int_cmp, is_lt, is_le, is_gt, is_ge, is_eq, is_ne}
use Rattle.std.specs.List.{list_all}
use Rattle.chr_base.specs.declared.atom.Atom.{Atom}
use Rattle.chr_base.specs.declared.term.Term.{Term}
use Rattle.chr_base.specs.declared.term.Term.TheVariants.{Variable, Constant}
use Rattle.chr_base.specs.declared.term.Cmp.{Cmp}
use Rattle.chr_base.specs.declared.term.Cmp.TheVariants.{Less, AtMost, Greater, AtLeast, Equal, NotEqual}
use Rattle.chr_base.specs.declared.term.Comparison.{Comparison}
use Rattle.chr_base.specs.declared.term.Pattern.{Pattern}
use Rattle.chr_base.specs.declared.rule.Rule.{Rule}
use Rattle.chr_base.specs.Stores.{Store, store_of}
use Rattle.chr_base.specs.FinBag.{◌⊕◌, ◌⊖◌, IsWithin, total}

-- a value for each variable
abbrev pub Valuation : Type 0
Valuation = ℕ → ℤ

-- the valuation that gives the variables 1, 2, .. these values, and 0 to those past them
abbrev pub valued : List ℤ → Valuation
valued vs x = get_or vs (x - 1) (pos 0)

abbrev pub term_value : Valuation → Term → ℤ
term_value v (Variable x) = v x
term_value v (Constant c) = c

abbrev pub atom_at : Valuation → Pattern → Atom
atom_at v p = record { symbol = p.symbol; args = record { items = map (term_value v) p.args.items } }

abbrev pub atoms_at : Valuation → List Pattern → List Atom
atoms_at v ps = map (atom_at v) ps

-- what a comparison says of the order of two values
abbrev pub compares : Cmp → Ordering → Bool
compares Less o = is_lt o
compares AtMost o = is_le o
compares Greater o = is_gt o
compares AtLeast o = is_ge o
compares Equal o = is_eq o
compares NotEqual o = is_ne o

abbrev pub comparison_holds : Valuation → Comparison → Bool
comparison_holds v c = compares c.cmp (int_cmp (term_value v c.left) (term_value v c.right))

abbrev pub guard_holds : Valuation → List Comparison → Bool
guard_holds v cs = list_all (comparison_holds v) cs

-- the heads of a rule, in place order
abbrev pub heads_of : Rule → List Pattern
heads_of r = r.kept.items ++ r.removed.items

-- what is read past the last head
abbrev pub no_pattern : Pattern
no_pattern = record { symbol = record { 0 = 0 }; args = record { items = [] } }

-- the pattern and the atom have one symbol and as many arguments
abbrev pub has_shape : Pattern → Atom → Bool
has_shape p a = nat_eq p.symbol.0 a.symbol.0 && nat_eq (length p.args.items) (length a.args.items)

-- the heads of an instance, in place order
abbrev pub heads_at : Valuation → Rule → List Atom
heads_at v r = atoms_at v (heads_of r)

-- some valuation makes the heads these atoms, and the guard true
abbrev pub HasInstance : Rule → List Atom → Type 0
HasInstance r heads = (v : Valuation) × (heads_at v r ≡ heads) × IsTrue (guard_holds v r.guard.items)

-- A step by this rule under this valuation: the heads are there and the guard holds. The removed heads leave, and the
-- body comes in.
pub record StepBy (r : Rule) (v : Valuation) (s t : Store) : Type 0 where
  pub guard : IsTrue (guard_holds v r.guard.items)
  pub there : IsWithin (store_of (heads_at v r)) s
  pub after : t ≡ (s ⊖ store_of (atoms_at v r.removed.items)) ⊕ store_of (atoms_at v r.body.items)

-- one step of the rule by an instance with these heads
abbrev pub StepOn : Rule → List Atom → Store → Store → Type 0
StepOn r heads s t = (v : Valuation) × (heads_at v r ≡ heads) × StepBy r v s t

-- the rule has no step in s
abbrev pub HasNoStep : Rule → Store → Type 0
HasNoStep r s = (v : Valuation) (t : Store) → ¬ StepBy r v s t

-- a step by some instance of some rule
abbrev pub Step : List Rule → Store → Store → Type 0
Step rules s t = (i : ℕ) × (r : Rule) × (v : Valuation) × (slice_get rules i ≡ Some r) × StepBy r v s t

-- under every valuation the removed heads weigh more than the body
abbrev pub RuleLowers : (Atom → ℕ) → Rule → Type 0
RuleLowers w r = (v : Valuation) → total w (atoms_at v r.body.items) < total w (atoms_at v r.removed.items)
