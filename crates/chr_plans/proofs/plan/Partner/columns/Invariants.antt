use Rattle.std.proofs.Common.{◌≡◌, take}
use Rattle.chr_plans.specs.Plans.{columns_of}
use Rattle.chr_plans.proofs.plan.Partner.columns.Given as goal

abbrev pub invariant-loop-part : goal.invariant-loop-part
invariant-loop-part l = l.columns.items ≡ columns_of (take l.part-index l.self.key.items)
