use Rattle.std.proofs.Common.{rules, ◌≡◌, Err, ap, subst}
use Rattle.std.specs.Arc.{arc_value}
use Rattle.chr_weights.specs.WeighedPrograms.{rules_in}
use Rattle.chr_rewrite.specs.Derivations.{IsDerivation, IsFirstInapplicable}
use Rattle.chr_rewrite.proofs.DerivationLemmas.{replays_reaches}
use Rattle.chr_join.specs.AcceptedPrograms.{weighed_of}
use Rattle.chr_join.proofs.accepted.Accepted.step_part.Goals as goal

pub of-requires : goal.of-requires
of-requires c =
    let same : c.deref.result.now ≡ arc_value c.in-Ok.weighed = search rules in
    replays_reaches (rules_in (arc_value c.in-Ok.weighed)) c.args.steps.now _ _
    (subst (λ w. IsDerivation (rules_in w) c.args.steps.now c.args.lease.part c.in-Ok-stepped.end) same
    c.in-Ok-stepped.ensures.ok)

pub returns-in-Err-clause-not_there : goal.returns-in-Err-clause-not_there
returns-in-Err-clause-not_there c n e =
    let same : c.deref.result.now ≡ weighed_of c.args.self.now = search rules in
    subst (λ w. IsFirstInapplicable (rules_in w) c.args.steps.now c.args.lease.part n) same
    (c.in-Err.ensures.not_there n (ap Err e))
