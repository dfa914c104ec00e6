-- The finest sorts that fit rules.
use Rattle.std.specs.Prelude.{◌≡◌, ℕ, ◌+◌, ◌*◌, ◌<◌, ◌≤◌, ℤ, true, List, [], map, length, get_or, Some, slice_get}
use Rattle.chr_base.specs.declared.limits.TheConstants.{MAX_ARITY}
use Rattle.chr_base.specs.declared.term.Cmp.{Cmp}
use Rattle.chr_base.specs.declared.term.Pattern.{Pattern}
use Rattle.chr_base.specs.declared.rule.Rule.{Rule}
use Rattle.chr_base.specs.Rules.{heads_of}
use Rattle.chr_types.specs.OrderTypes.{In, Rises, AreValues}
use Rattle.chr_confluence.specs.Sorts.{Sorts, Kind, ordered, equal, free, tells, Fit}
use Rattle.chr_sorting.specs.declared.kind.Kind.{Kind as KindTold}
use Rattle.chr_sorting.specs.declared.kind.Kind.TheVariants as told
use Rattle.chr_sorting.specs.declared.sorting.Sorting.{Sorting}

-- What o joins p joins as well, and at each position p has all constants of o and tells all signs that o tells.
pub record AreAsFine (o p : Sorts) : Type 0 where
  pub sorts : (s k t l : ℕ) → k < MAX_ARITY → l < MAX_ARITY → o.sort s k ≡ o.sort t l → p.sort s k ≡ p.sort t l
  pub constants : (s k : ℕ) (c : ℤ) → k < MAX_ARITY → In c (o.constants (o.sort s k)) → In c (p.constants (p.sort s k))
  pub kinds : (s k : ℕ) (c : Cmp) → k < MAX_ARITY → tells (o.kind (o.sort s k)) c ≡ true
      → tells (p.kind (p.sort s k)) c ≡ true

-- the number of a position: there are MAX_ARITY numbers for each symbol
abbrev pub position_of : ℕ → ℕ → ℕ
position_of s k = MAX_ARITY * s + k

-- A sort is named by the number of its first position: of those that are of the sort, the one of the least number.
pub record AreNamedByFirst (o : Sorts) : Type 0 where
  pub least : (s k t l : ℕ) → k < MAX_ARITY → l < MAX_ARITY → o.sort s k ≡ o.sort t l → o.sort s k ≤ position_of t l
  pub stands : (s k : ℕ) → k < MAX_ARITY
      → (t : ℕ) × (l : ℕ) × (l < MAX_ARITY) × (o.sort t l ≡ o.sort s k) × (o.sort s k ≡ position_of t l)

-- each of the atoms has at most MAX_ARITY arguments
abbrev pub AreShort : List Pattern → Type 0
AreShort ps = (p : Pattern) → In p ps → length p.args.items ≤ MAX_ARITY

-- each head of the rules has at most MAX_ARITY arguments
abbrev pub HaveShortHeads : List Rule → Type 0
HaveShortHeads rules = (i : ℕ) (r : Rule) → slice_get rules i ≡ Some r → AreShort (heads_of r)

-- The sorts fit the rules, whose heads have few arguments, and are as fine as any sorts that fit. Constants are 64-bit
-- values, and rise.
pub record AreFinest (rules : List Rule) (o : Sorts) : Type 0 where
  pub short : HaveShortHeads rules
  pub fit : Fit o rules
  pub finest : (p : Sorts) → Fit p rules → AreAsFine o p
  pub named : AreNamedByFirst o
  pub rise : (k : ℕ) → Rises (o.constants k)
  pub values : (k : ℕ) → AreValues (o.constants k)

-- ---- sorts as they are held

-- the sort of a position in a table; a position beyond it is alone
abbrev pub sort_in : List ℕ → ℕ → ℕ
sort_in ts p = get_or ts p p

abbrev pub kind_of : KindTold → Kind
kind_of told.Ordered = ordered
kind_of told.Equal = equal
kind_of told.Free = free

-- what is held, as sorts; beyond the tables a sort is free, and has no constants
abbrev pub sorts_of : Sorting → Sorts
sorts_of s = record {
  sort = λ a k. sort_in s.sorts.items (position_of a k);
  kind = λ n. kind_of (get_or s.kinds.items n told.Free);
  constants = λ n. get_or (map (λ cs. cs.items) s.constants.items) n [];
}
