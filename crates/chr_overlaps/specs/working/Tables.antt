-- Classes as a table: the entry of a variable at its number.
use Rattle.std.specs.Prelude.{ℕ, Bool, true, nat_lt, List, get_or, map}
use Rattle.std.specs.List.{list_all}
use Rattle.chr_base.specs.declared.term.Term.{Term}
use Rattle.chr_base.specs.declared.term.Term.TheVariants.{Variable, Constant}
use Rattle.chr_base.specs.declared.term.Comparison.{Comparison}
use Rattle.chr_base.specs.declared.term.Pattern.{Pattern}
use Rattle.chr_confluence.specs.Unifiers.{Substitution}
use Rattle.chr_confluence.specs.Overlaps.{renamed_apart}
use Rattle.chr_confluence.specs.working.Solving.{class_of}

-- the classes that a table tells; a variable beyond it is alone
abbrev pub class_in : List Term → Substitution
class_in ts x = get_or ts x (Variable x)

-- the term is a constant, or a variable less than n
abbrev pub is_below : ℕ → Term → Bool
is_below n (Variable x) = nat_lt x n
is_below n (Constant c) = true

abbrev pub are_below : ℕ → List Term → Bool
are_below n ts = list_all (is_below n) ts

-- the class of the term, where its variable is moved by k
abbrev pub class_term : Substitution → ℕ → Term → Term
class_term σ k t = class_of σ (renamed_apart k t)

-- the pattern with each term's class, where its variables are moved by k
abbrev pub class_pattern : Substitution → ℕ → Pattern → Pattern
class_pattern σ k p = record { symbol = p.symbol; args = record { items = map (class_term σ k) p.args.items } }

-- the comparison with each term's class, where its variables are moved by k
abbrev pub class_comparison : Substitution → ℕ → Comparison → Comparison
class_comparison σ k c = record { left = class_term σ k c.left; cmp = c.cmp; right = class_term σ k c.right }
