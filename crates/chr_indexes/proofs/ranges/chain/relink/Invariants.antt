use Rattle.std.proofs.Common.{◌≡◌, length}
use Rattle.std.specs.Prelude.{vec_capacity}
use Rattle.chr_indexes.specs.working.RangeChains.{AreLinked, AreHeads}
use Rattle.chr_indexes.proofs.ranges.chain.relink.Given as goal

abbrev pub invariant-loop-row : goal.invariant-loop-row
invariant-loop-row l = record {
  as_many : length l.chains.links.items ≡ length l.rows;
  slots : length l.chains.heads.items ≡ length l.fn.chains.heads.items;
  room : vec_capacity l.chains.links ≡ vec_capacity l.fn.chains.links;
  linked : AreLinked (length l.chains.heads.items) l.rows l.chains.links.items l.row;
  heads : AreHeads l.rows l.chains.heads.items l.row;
}
