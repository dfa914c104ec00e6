use Rattle.std.proofs.Common.{◌≡◌, ◌-◌, ◌≤◌, Some}
use Rattle.std.specs.FinMap as map
use Rattle.chr_ops.specs.working.Covering.{GainsWithin}
use Rattle.chr_ops.proofs.covered.cover_run.Given as goal

abbrev pub invariant-loop-last : goal.invariant-loop-last
invariant-loop-last l = record {
  gains : GainsWithin l.fn.ends l.run l.ends;
  there : map.get l.ends l.first ≡ Some l.last;
  along : l.first.origin ≡ l.run.origin;
  from : l.first.number ≤ l.run.lo;
  within : l.run.lo ≤ l.last;
}

abbrev pub decreases-loop-last : goal.decreases-loop-last
decreases-loop-last l = l.run.hi - l.last
