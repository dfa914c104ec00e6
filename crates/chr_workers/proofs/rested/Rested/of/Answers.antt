use Rattle.std.proofs.Common.{sym, subst}
use Rattle.chr_base.specs.Rewriting.{IsAtRest}
use Rattle.chr_base.specs.Rules.{Step}
use Rattle.chr_weights.specs.WeighedPrograms.{rules_in}
use Rattle.chr_workers.proofs.rested.Rested.of.Goals as goal

pub invariant_of-result : goal.invariant_of-result
invariant_of-result c =
    let e = c.in-Ok.ensures in
    record { rests = subst (λ w. IsAtRest (Step (rules_in w)) c.in-Ok.done.result) (sym e.done.weighed) e.end.normal.1 }
