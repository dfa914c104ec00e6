use Rattle.std.proofs.Common.{◌≡◌, ◌≤◌, take, length}
use Rattle.std.specs.List.{filter}
use Rattle.chr_queries.specs.Wanted.{is_wanted}
use Rattle.chr_queries.proofs.finding.count_among.Given as goal

abbrev pub invariant-loop-atom : goal.invariant-loop-atom
invariant-loop-atom l = record {
  count : l.count ≡ length (filter (is_wanted l.wanted) (take l.atom-index l.atoms));
  below : l.count ≤ l.atom-index;
}
