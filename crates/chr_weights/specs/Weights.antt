-- Weights of atoms and stores, and the programs each rule of which lowers them.
use Rattle.std.specs.Prelude.{◌≡◌, ℕ, ◌+◌, ◌-◌, ◌<◌, ◌≤◌, if◌then◌else◌, nat_eq, List, length, Option, Some, None}
use Rattle.std.specs.Prelude.{slice_get}
use Rattle.chr_base.specs.declared.atom.Atom.{Atom}
use Rattle.chr_base.specs.declared.rule.Rule.{Rule}
use Rattle.chr_base.specs.declared.program.Program.{Program}
use Rattle.chr_base.specs.declared.weight.Weight.{Weight}
use Rattle.chr_base.specs.ProgramTests.{Declaration}
use Rattle.chr_base.specs.Programs.{declarations, rules_of}
use Rattle.chr_base.specs.Stores.{Store, weight_of}
use Rattle.chr_base.specs.Rules.{Valuation, atoms_at}
use Rattle.chr_base.specs.Weights.{IsLighter, no_weight, rank, total_weight}

-- the weight declared for a symbol that takes n arguments
abbrev pub declared_weight : Option Declaration → ℕ → Weight
declared_weight None n = no_weight
declared_weight (Some d) n = if nat_eq d.arity n then d.weight else no_weight

-- the weight of an atom: that of its symbol, where it is declared with the atom's number of arguments, else none
abbrev pub weight_by : List Declaration → Atom → Weight
weight_by ds a = declared_weight (slice_get ds a.symbol.0) (length a.args.items)

-- the weight of an atom in the program
abbrev pub weight_in : Program → Atom → Weight
weight_in p a = weight_by (declarations p) a

-- the weights of the store's atoms summed, number by number
abbrev pub store_weight : Program → Store → Weight
store_weight p s = record {
  first = weight_of (λ a. (weight_in p a).first) s;
  second = weight_of (λ a. (weight_in p a).second) s;
}

-- the store's weight as one number
abbrev pub store_rank : Program → Store → ℕ
store_rank p s = rank (store_weight p s)

-- under every valuation the body is lighter than the removed heads
abbrev pub IsLowering : (Atom → Weight) → Rule → Type 0
IsLowering w r =
    (v : Valuation) → IsLighter (total_weight w (atoms_at v r.body.items)) (total_weight w (atoms_at v r.removed.items))

-- each of the rules lowers the weights of atoms
abbrev pub AreLowering : (Atom → Weight) → List Rule → Type 0
AreLowering w rules = (i : ℕ) (r : Rule) → slice_get rules i ≡ Some r → IsLowering w r

-- each rule of the program lowers the weights that the program declares
abbrev pub ProgramLowers : Program → Type 0
ProgramLowers p = AreLowering (weight_in p) (rules_of p)

-- the i-th rule, counted from 1, is the first whose removed heads do not outweigh its body, with both weights
pub record IsFirstNotLowered (ds : List Declaration) (rules : List Rule) (i : ℕ) (before after : Weight) : Type 0 where
  pub first : 0 < i
  pub within : i ≤ length rules
  pub earlier : (j : ℕ) (r : Rule) → j + 1 < i → slice_get rules j ≡ Some r → IsLowering (weight_by ds) r
  pub weight_before : (r : Rule) (v : Valuation) → slice_get rules (i - 1) ≡ Some r
      → before ≡ total_weight (weight_by ds) (atoms_at v r.removed.items)
  pub weight_after : (r : Rule) (v : Valuation) → slice_get rules (i - 1) ≡ Some r
      → after ≡ total_weight (weight_by ds) (atoms_at v r.body.items)
  pub not_lowered : ¬ IsLighter after before
