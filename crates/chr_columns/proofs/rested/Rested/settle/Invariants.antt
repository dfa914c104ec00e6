use Rattle.std.proofs.Common.{◌≡◌, vec_len}
use Rattle.chr_base.specs.FinBag.{◌⊕◌}
use Rattle.chr_base.specs.Stores.{store_of}
use Rattle.chr_columns.specs.working.Resting.{stored, IsRested, Stands}
use Rattle.chr_columns.proofs.rested.Rested.settle.Given as goal

abbrev pub invariant-loop-active : goal.invariant-loop-active
invariant-loop-active l = record {
  rested : IsRested l.self;
  rules : l.self.rules ≡ l.fn.self.rules;
  standing : Stands l.self l.fresh.items l.standing;
  same : stored l.self ⊕ store_of l.fresh.items ≡ stored l.fn.self ⊕ store_of l.fn.fresh.items;
}

abbrev pub decreases-loop-active : goal.decreases-loop-active
decreases-loop-active l = vec_len l.fresh
