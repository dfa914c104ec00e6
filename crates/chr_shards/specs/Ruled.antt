-- What shards are seen as.
use Rattle.chr_base.specs.Stores.{Store}
use Rattle.chr_weights.specs.declared.weighed.Weighed.{Weighed}

-- a program that lowers, and a store that is rested by its rules
pub record Ruled : Type 0 where
  pub weighed : Weighed
  pub store : Store
