use Rattle.std.proofs.Common.{sym, subst}
use Rattle.std.specs.List.{All}
use Rattle.std.proofs.lemmas.List.Elements.{All-take}
use Rattle.std.proofs.lemmas.List.Sorted.{All-permutation}
use Rattle.chr_diagnosis.specs.declared.limits.TheConstants.{MAX_PROPOSALS}
use Rattle.chr_diagnosis.specs.Proposals.{IsProposal}
use Rattle.chr_diagnosis.proofs.proposing.peak_proposals.Goals as goal

pub returns : goal.returns
returns g c =
    let P = IsProposal c.args.coverage c.args.text.now in
    let sorted = All-permutation P c.in_ok-proposals.proposals.items c.sort_by_key.new.self.items
    c.sort_by_key.ensures.permutation c.in_ok-proposals.ensures in
    subst (All P) (sym c.truncate.ensures.items) (All-take P MAX_PROPOSALS c.sort_by_key.new.self.items sorted)
