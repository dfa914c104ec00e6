use Rattle.std.proofs.Common.{ap, ◌∙◌}
use Rattle.chr_ops.specs.working.Covering.{end_ranges}
use Rattle.chr_ops.proofs.RangeLookups.{ranges_none, longest_none}
use Rattle.chr_ops.proofs.covered.Covered.new.Goals as goal

pub invariant_of-result : goal.invariant_of-result
invariant_of-result c = rw c.new.ensures longest_none

pub returns : goal.returns
returns c = ap end_ranges c.new.ensures ∙ ranges_none
