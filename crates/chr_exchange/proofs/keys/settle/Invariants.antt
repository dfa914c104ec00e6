use Rattle.std.proofs.Common.{◌≡◌, ◌<◌, length, vec_len}
use Rattle.chr_base.specs.Stores.{store_of}
use Rattle.chr_exchange.proofs.keys.settle.Given as goal

abbrev pub invariant-loop-turn : goal.invariant-loop-turn
invariant-loop-turn l = record {
  at : l.at < length l.keys;
  same : store_of l.atoms.items ≡ store_of l.fn.atoms.items;
  len : vec_len l.atoms ≡ vec_len l.fn.atoms;
}
