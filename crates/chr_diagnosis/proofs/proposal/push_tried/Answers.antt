use Rattle.chr_diagnosis.proofs.Proposed.{one_more}
use Rattle.chr_diagnosis.proofs.proposal.push_tried.Goals as goal

pub returns-in_ok-push : goal.returns-in_ok-push
returns-in_ok-push g c =
    one_more c.args.coverage c.args.text.now c.args.proposals.now.items c.push.new.self.items c.in-Some.proposal
    c.in_ok-proposal.field-0 c.requires c.in_ok-proposal.ensures c.in-Some.is c.in_ok-push.ensures.items
