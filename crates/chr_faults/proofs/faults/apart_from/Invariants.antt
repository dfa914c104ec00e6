use Rattle.std.proofs.Common.{◌≡◌, ◌≤◌, ◌+◌, ◌++◌, drop}
use Rattle.chr_faults.specs.BadClauses.{apart_from}
use Rattle.chr_faults.proofs.faults.apart_from.Given as goal

abbrev pub invariant-loop-b : goal.invariant-loop-b
invariant-loop-b l = record {
  counted : l.number ≤ l.b-index + 1;
  same : l.left.items ++ apart_from l.clause l.number (drop l.b-index l.plain) ≡ apart_from l.clause 1 l.plain;
}
