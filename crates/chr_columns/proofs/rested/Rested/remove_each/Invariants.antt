use Rattle.std.proofs.Common.{◌≡◌, take}
use Rattle.chr_base.specs.FinBag.{◌⊕◌, ◌⊖◌}
use Rattle.chr_base.specs.Stores.{store_of}
use Rattle.chr_columns.specs.working.Resting.{stored, IsRested}
use Rattle.chr_columns.proofs.rested.Rested.remove_each.Given as goal

abbrev pub invariant-loop-atom : goal.invariant-loop-atom
invariant-loop-atom l = record {
  rested : IsRested l.self;
  rules : l.self.rules ≡ l.fn.self.rules;
  left : stored l.self ⊕ store_of l.fresh.items ≡ (stored l.fn.self ⊕ store_of l.fn.fresh.items) ⊖ store_of
      (take l.atom-index l.atoms);
}
