use Rattle.std.proofs.Common.{rules, sym, subst}
use Rattle.chr_base.specs.Stores.{size}
use Rattle.chr_weights.specs.WeighedPrograms.{rules_in}
use Rattle.chr_diagnosis.specs.Diagnoses.{IsSmallerFailure}
use Rattle.chr_diagnosis.proofs.smallest.smaller_ways.Goals as goal

pub returns : goal.returns
returns c =
    let program = rules_in c.args.weighed.now in
    let n = size c.args.first.now.left.start in
    let found : IsSmallerFailure program n c.in-Some.failure = search rules in
    let ways = c.in_ok-ways_of.ensures in
    (subst (IsSmallerFailure program n) (sym ways.failure) found, ways.stores)
