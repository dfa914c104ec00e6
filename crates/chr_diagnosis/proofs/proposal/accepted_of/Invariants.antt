use Rattle.std.specs.List.{All}
use Rattle.chr_diagnosis.specs.Proposals.{IsProposal}
use Rattle.chr_diagnosis.proofs.proposal.accepted_of.Given as goal

abbrev pub invariant-loop-one : goal.invariant-loop-one
invariant-loop-one g l = All (IsProposal l.coverage l.text) l.proposals.items
