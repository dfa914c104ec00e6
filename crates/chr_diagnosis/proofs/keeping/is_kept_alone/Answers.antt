use Rattle.std.proofs.Common.{rules, ◌≡◌, true, false}
use Rattle.chr_diagnosis.proofs.KeptAlone.{goes_by, kept, stays_with}
use Rattle.chr_diagnosis.proofs.keeping.is_kept_alone.Goals as goal

pub returns : goal.returns
returns c =
    let stay : c.in_ok-stays.field-0 ≡ true = search rules in
    let go : c.in_ok-stays-2.field-0 ≡ false = search rules in
    kept c.args.peak.now c.args.proposals.now c.args.proposal.now c.args.store.now c.goes_with_others.result
    (stays_with c.in_ok-stays.field-0 c.weighed.result.now c.args.proposal.now c.args.store.now
    c.weighed.ensures.weighed c.in_ok-stays.ensures stay)
    (goes_by c.in_ok-stays-2.field-0 c.args.peak.now.weighed c.args.store.now c.in_ok-stays-2.ensures go)
    c.goes_with_others.ensures
