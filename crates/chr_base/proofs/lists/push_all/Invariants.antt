use Rattle.std.proofs.Common.{◌≡◌, ◌++◌, take, vec_len, ◌+◌}
use Rattle.std.specs.Prelude.{vec_capacity}
use Rattle.chr_base.proofs.lists.push_all.Given as goal

abbrev pub invariant-loop-atom : goal.invariant-loop-atom
invariant-loop-atom l = record {
  items : l.items.items ≡ l.fn.items.items ++ take l.atom-index l.atoms;
  len : vec_len l.items ≡ vec_len l.fn.items + l.atom-index;
  capacity : vec_capacity l.items ≡ vec_capacity l.fn.items;
}
