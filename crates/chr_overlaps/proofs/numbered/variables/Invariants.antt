use Rattle.std.proofs.Common.{◌≡◌, ◌*◌, ◌≤◌, drop}
use Rattle.chr_base.specs.declared.limits.TheConstants.{MAX_ARITY}
use Rattle.chr_base.specs.Rules.{heads_of}
use Rattle.chr_base.specs.RuleTests.{numbered, terms_of}
use Rattle.chr_overlaps.proofs.numbered.variables.Given as goal

abbrev pub invariant-loop-place : goal.invariant-loop-place
invariant-loop-place l = record {
  same : numbered l.count (terms_of (drop l.place (heads_of l.rule))) ≡ numbered 0 (terms_of (heads_of l.rule));
  most : l.count ≤ MAX_ARITY * l.place;
}
