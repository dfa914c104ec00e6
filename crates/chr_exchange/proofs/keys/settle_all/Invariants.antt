use Rattle.std.proofs.Common.{◌≡◌, vec_len}
use Rattle.chr_base.specs.Stores.{store_of}
use Rattle.chr_exchange.proofs.keys.settle_all.Given as goal

abbrev pub invariant-loop-start : goal.invariant-loop-start
invariant-loop-start l = record {
  same : store_of l.atoms.items ≡ store_of l.fn.atoms.items;
  len : vec_len l.atoms ≡ vec_len l.fn.atoms;
}
