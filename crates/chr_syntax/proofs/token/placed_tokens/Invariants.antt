use Rattle.std.proofs.Common.{◌≡◌, ◌-◌, ◌≤◌, length, map}
use Rattle.chr_syntax.specs.Views.{placed_view}
use Rattle.chr_syntax.proofs.Placed.{AreFoundFirst}
use Rattle.chr_syntax.proofs.token.placed_tokens.Given as goal

abbrev pub invariant-loop-at : goal.invariant-loop-at
invariant-loop-at l = record {
  within : l.at ≤ length l.bytes;
  found : AreFoundFirst (map placed_view l.placed.items) l.bytes l.at;
}

abbrev pub decreases-loop-at : goal.decreases-loop-at
decreases-loop-at l = length l.bytes - l.at
