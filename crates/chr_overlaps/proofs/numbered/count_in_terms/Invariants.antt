use Rattle.std.proofs.Common.{◌≡◌, ◌+◌, ◌≤◌, drop}
use Rattle.chr_base.specs.RuleTests.{numbered}
use Rattle.chr_overlaps.proofs.numbered.count_in_terms.Given as goal

abbrev pub invariant-loop-term : goal.invariant-loop-term
invariant-loop-term l = record {
  same : numbered l.count (drop l.term-index l.terms) ≡ numbered l.before l.terms;
  most : l.count ≤ l.before + l.term-index;
}
