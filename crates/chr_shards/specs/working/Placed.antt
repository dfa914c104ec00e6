-- Pools, the store that they make, and which atoms lie in which of them.
use Rattle.std.specs.Prelude.{◌≡◌, ℕ, ◌<◌, ◌%◌, List, [], ◌∷◌, length, get_or, All}
use Rattle.chr_base.specs.declared.atom.Atom.{Atom}
use Rattle.chr_base.specs.declared.rule.Rule.{Rule}
use Rattle.chr_base.specs.FinBag as bag
use Rattle.chr_base.specs.Rewriting.{Reaches}
use Rattle.chr_base.specs.Rules.{Step}
use Rattle.chr_base.specs.Stores.{Store, count}
use Rattle.chr_tables.specs.Hashes.{key_hash}
use Rattle.chr_plans.specs.Joined.{value_in, IsLocal}
use Rattle.chr_shards.specs.declared.placing.Placing.{Placing}

-- the store at a place, and past the last the empty one
abbrev pub store_at : List Store → ℕ → Store
store_at ss k = get_or ss k bag.empty

-- the place of an atom among n pools
abbrev pub place_in : Placing → ℕ → Atom → ℕ
place_in p n a = key_hash p.seed (value_in p.joint.columns.items a ∷ []) % n

-- all atoms of a store have this place
abbrev pub LiesAt : Placing → ℕ → ℕ → Store → Type 0
LiesAt p n k s = (q : Atom) → 0 < count s q → place_in p n q ≡ k

-- each pool has the atoms of its place, and no others
abbrev pub ArePlaced : Placing → List Store → Type 0
ArePlaced p ss = (k : ℕ) → LiesAt p (length ss) k (store_at ss k)

-- pools of a store under these rules: there are some, and several only where the rules allow it
pub record AreShards (p : Placing) (rules : List Rule) (ss : List Store) : Type 0 where
  pub some : 0 < length ss
  pub placed : ArePlaced p ss
  pub local : 1 < length ss → All (IsLocal p.joint.columns.items) rules

-- each pool of the second list is reached by the one in its place
abbrev pub ReachEach : List Rule → List Store → List Store → Type 0
ReachEach rules ss ts =
    (length ts ≡ length ss) × ((k : ℕ) → k < length ss → Reaches (Step rules) (store_at ss k) (store_at ts k))
