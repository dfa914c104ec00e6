use Rattle.std.proofs.Common.{◌≡◌, take, length}
use Rattle.chr_base.specs.FinBag.{◌⊕◌, ◌⊖◌}
use Rattle.chr_base.specs.Stores.{store_of}
use Rattle.chr_columns.specs.working.Resting.{stored, IsRested}
use Rattle.chr_columns.proofs.rested.Rested.take_all.Given as goal

abbrev pub invariant-loop-k : goal.invariant-loop-k
invariant-loop-k l = record {
  rested : IsRested l.self;
  rules : l.self.rules ≡ l.fn.self.rules;
  count : length l.rows.items ≡ length l.atoms;
  left : stored l.self ⊕ store_of l.fresh.items ≡ (stored l.fn.self ⊕ store_of l.fn.fresh.items) ⊖ store_of
      (take l.k l.atoms);
}
