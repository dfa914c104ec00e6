-- What every rule keeps, as tests over its parts.
use Rattle.std.specs.Prelude.{ℕ, ◌+◌, Bool, true, false, ◌&&◌, if◌then◌else◌, nat_eq, nat_le, nat_lt, List, [], ◌∷◌}
use Rattle.std.specs.Prelude.{◌++◌, length, Option, Some, None, is_some}
use Rattle.std.specs.List.{list_all, list_any}
use Rattle.chr_base.specs.declared.limits.TheConstants.{MAX_BODY, MAX_COMPARISONS, MAX_HEADS}
use Rattle.chr_base.specs.declared.term.Term.{Term}
use Rattle.chr_base.specs.declared.term.Term.TheVariants.{Variable, Constant}
use Rattle.chr_base.specs.declared.term.Comparison.{Comparison}
use Rattle.chr_base.specs.declared.term.Pattern.{Pattern}
use Rattle.chr_base.specs.Values.{is_value}
use Rattle.chr_base.specs.Names.{is_label}

-- the term is this variable
abbrev pub is_variable : ℕ → Term → Bool
is_variable x (Variable y) = nat_eq x y
is_variable x (Constant c) = false

-- the variable stands in one of these patterns
abbrev pub occurs : ℕ → List Pattern → Bool
occurs x ps = list_any (λ p. list_any (is_variable x) p.args.items) ps

-- a constant, or a variable of the heads
abbrev pub is_bound_in : List Pattern → Term → Bool
is_bound_in heads (Variable x) = occurs x heads
is_bound_in heads (Constant c) = true

-- each variable of guard and body stands in a head
abbrev pub is_closed : List Pattern → List Comparison → List Pattern → Bool
is_closed heads guard body =
    list_all (λ c. is_bound_in heads c.left && is_bound_in heads c.right) guard
    && list_all (λ p. list_all (is_bound_in heads) p.args.items) body

-- all terms of these patterns, in their order
abbrev pub terms_of : List Pattern → List Term
terms_of [] = []
terms_of (p ∷ ps) = p.args.items ++ terms_of ps

-- the number of variables, where each is at most one more than those before it
abbrev pub numbered : ℕ → List Term → Option ℕ
numbered n [] = Some n
numbered n (Constant c ∷ ts) = numbered n ts
numbered n (Variable x ∷ ts) =
    if nat_eq x (n + 1) then numbered (n + 1) ts else (if nat_lt 0 x && nat_le x n then numbered n ts else None)

-- the variables of the heads are 1, 2, .. by first occurrence
abbrev pub is_numbered : List Pattern → Bool
is_numbered heads = is_some (numbered 0 (terms_of heads))

-- a variable, or a constant that is a value
abbrev pub is_valued : Term → Bool
is_valued (Variable x) = true
is_valued (Constant c) = is_value c

-- each constant of these patterns is a value
abbrev pub are_valued : List Pattern → Bool
are_valued ps = list_all (λ p. list_all is_valued p.args.items) ps

-- The name is one, there are at most MAX_COMPARISONS comparisons and MAX_BODY atoms in the body, and each constant is a
-- value. It computes only where it is unfolded.
unfoldable pub is_in_bounds : Option (List ℕ) → List Pattern → List Comparison → List Pattern → Bool
is_in_bounds name heads guard body =
    is_label name && nat_le (length guard) MAX_COMPARISONS && nat_le (length body) MAX_BODY
    && (are_valued heads && list_all (λ c. is_valued c.left && is_valued c.right) guard && are_valued body)

-- at least one head is removed, there are at most MAX_HEADS heads, and all variables are those of the heads, numbered
abbrev pub is_rule : List Pattern → List Pattern → List Comparison → List Pattern → Bool
is_rule kept removed guard body =
    nat_lt 0 (length removed) && nat_le (length kept + length removed) MAX_HEADS
    && is_closed (kept ++ removed) guard body && is_numbered (kept ++ removed)
