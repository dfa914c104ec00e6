-- What comes of a part of a store that is rewritten by itself.
use Rattle.std.specs.Prelude.{◌≡◌, ℕ, List}
use Rattle.chr_base.specs.declared.rule.Rule.{Rule}
use Rattle.chr_base.specs.Stores.{Store}
use Rattle.chr_base.specs.Rules.{Step}
use Rattle.chr_base.specs.Rewriting.{IsNormalForm}
use Rattle.chr_weights.specs.declared.weighed.Weighed.{Weighed}
use Rattle.chr_join.specs.declared.lease.Lease.{Lease}

-- the part that was leased out under the number, and a store that it reaches under the program
pub record Finished : Type 0 where
  pub weighed : Weighed
  pub number : ℕ
  pub part : Store
  pub result : Store

-- d comes of this lease, under the program w
pub record IsDoneOf (w : Weighed) (lease : Lease) (d : Finished) : Type 0 where
  pub weighed : d.weighed ≡ w
  pub number : d.number ≡ lease.number
  pub part : d.part ≡ lease.part

-- t is a normal form of s, and s has no other
pub record IsOnlyNormalForm (rules : List Rule) (s t : Store) : Type 0 where
  pub normal : IsNormalForm (Step rules) s t
  pub only : (u : Store) → IsNormalForm (Step rules) s u → u ≡ t
