-- What every program keeps, as tests over its declarations and rules.
use Rattle.std.specs.Prelude.{ℕ, zero, suc, Bool, true, false, not, ◌&&◌, nat_eq, nat_le, List, [], ◌∷◌, length, Option}
use Rattle.std.specs.Prelude.{Some, None, slice_get}
use Rattle.std.specs.List.{list_all, list_any}
use Rattle.std.specs.Str.{bytes_eq}
use Rattle.chr_base.specs.declared.limits.TheConstants.{MAX_ARITY, MAX_NAME, MAX_RULES, MAX_SYMBOLS}
use Rattle.chr_base.specs.declared.term.Pattern.{Pattern}
use Rattle.chr_base.specs.declared.rule.Rule.{Rule}
use Rattle.chr_base.specs.declared.program.Symbol.{Symbol}
use Rattle.chr_base.specs.declared.weight.Weight.{Weight}
use Rattle.chr_base.specs.Names.{is_name}
use Rattle.chr_base.specs.Weights.{default_weight, is_paired, is_weight}

-- a declared symbol: its name as bytes, its number of arguments and its weight
pub record Declaration : Type 0 where
  pub name : List ℕ
  pub arity : ℕ
  pub weight : Weight

-- a declaration of the default weight
abbrev pub new_declaration : List ℕ → ℕ → Declaration
new_declaration name arity = record { name = name; arity = arity; weight = default_weight }

-- an entry of the symbol table as a declaration
abbrev pub declared : Symbol × Weight → Declaration
declared e = record { name = e.0.name.bytes; arity = e.0.arity; weight = e.1 }

-- the declarations, the one at place i with another weight
abbrev pub with_weight : List Declaration → ℕ → Weight → List Declaration
with_weight [] i w = []
with_weight (d ∷ ds) zero w = record d { weight = w } ∷ ds
with_weight (d ∷ ds) (suc i) w = d ∷ with_weight ds i w

-- the declaration is that of this name and number of arguments
abbrev pub declares : List ℕ → ℕ → Declaration → Bool
declares name arity d = bytes_eq name d.name && nat_eq arity d.arity

-- the symbol at this place takes that many arguments
abbrev pub takes : Option Declaration → ℕ → Bool
takes None n = false
takes (Some d) n = nat_eq d.arity n

-- the pattern's symbol is declared with as many arguments
abbrev pub is_declared : List Declaration → Pattern → Bool
is_declared ds p = takes (slice_get ds p.symbol.0) (length p.args.items)

-- each pattern of the rule is declared
abbrev pub fits : List Declaration → Rule → Bool
fits ds r =
    list_all (is_declared ds) r.kept.items && list_all (is_declared ds) r.removed.items
    && list_all (is_declared ds) r.body.items

-- no two declarations are of one name and number of arguments
abbrev pub are_distinct : List Declaration → Bool
are_distinct [] = true
are_distinct (d ∷ ds) = not (list_any (declares d.name d.arity) ds) && are_distinct ds

-- what a declaration's parts may be
abbrev pub is_in_range : Declaration → Bool
is_in_range d = is_name d.name && nat_le (length d.name) MAX_NAME && nat_le d.arity MAX_ARITY && is_weight d.weight

-- all that a program keeps
abbrev pub is_program : List Declaration → List Rule → Bool
is_program ds rs =
    nat_le (length ds) MAX_SYMBOLS && nat_le (length rs) MAX_RULES && list_all is_in_range ds && are_distinct ds
    && list_all (fits ds) rs

-- some symbol's weight has a second number that isn't 0
abbrev pub some_paired : List Declaration → Bool
some_paired ds = list_any (λ d. is_paired d.weight) ds
