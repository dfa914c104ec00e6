use Rattle.std.proofs.Common.{◌≡◌, ◌++◌, take, vec_len, ◌+◌}
use Rattle.std.specs.Prelude.{vec_capacity}
use Rattle.chr_base.specs.Rules.{atoms_at}
use Rattle.chr_base.specs.Rules.{valued}
use Rattle.chr_base.proofs.matching.push_instances.Given as goal

abbrev pub invariant-loop-pattern : goal.invariant-loop-pattern
invariant-loop-pattern l = record {
  items : l.items.items ≡ l.fn.items.items ++ atoms_at (valued l.values) (take l.pattern-index l.patterns);
  len : vec_len l.items ≡ vec_len l.fn.items + l.pattern-index;
  capacity : vec_capacity l.items ≡ vec_capacity l.fn.items;
}
