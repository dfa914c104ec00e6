-- What is proposed of a refused text is accepted, and what is said to stay with one of the proposals alone does.
use Rattle.std.specs.Prelude.{◌≡◌, ℕ, ◌⊎◌, ◌++◌, List, take, drop, string_bytes}
use Rattle.std.specs.List.{All}
use Rattle.chr_base.specs.Stores.{Store}
use Rattle.chr_base.specs.Rules.{Step}
use Rattle.chr_base.specs.Programs.{rules_of}
use Rattle.chr_base.specs.Rewriting.{IsAtRest}
use Rattle.chr_weights.specs.WeighedPrograms.{rules_in}
use Rattle.chr_join.specs.AcceptedPrograms.{program_in}
use Rattle.chr_join.specs.declared.coverage.Coverage.{Coverage}
use Rattle.chr_diagnosis.specs.declared.peak.Peak.{Peak}
use Rattle.chr_diagnosis.specs.declared.proposal.Proposal.{Proposal}
use Rattle.chr_diagnosis.specs.Verdicts.{IsAcceptedText}

-- the text with the proposed rules in place of the bytes of a clause
abbrev pub proposed_text : List ℕ → Proposal → List ℕ
proposed_text text p = take p.from text ++ string_bytes p.rules ++ drop p.to text

-- that text is the program that the proposal has, which is accepted
abbrev pub IsProposal : Coverage → List ℕ → Proposal → Type 0
IsProposal coverage text p = IsAcceptedText coverage (proposed_text text p) p.accepted

-- both put the same rules in the same place
abbrev pub IsSamePlace : Proposal → Proposal → Type 0
IsSamePlace p q = (p.from ≡ q.from) × (string_bytes p.rules ≡ string_bytes q.rules)

-- no rule of the proposal's program has a step in the store
abbrev pub StaysWith : Proposal → Store → Type 0
StaysWith p s = IsAtRest (Step (rules_of (program_in p.accepted))) s

-- q is p, or with q the store goes
abbrev pub GoesOrIsOf : Proposal → Store → Proposal → Type 0
GoesOrIsOf p s q = IsSamePlace p q ⊎ (¬ StaysWith q s)

-- the store stays with the proposal, and goes with all others and by the rules that lead to two ends
pub record IsKeptAlone (k : Peak) (ps : List Proposal) (p : Proposal) (s : Store) : Type 0 where
  pub stays : StaysWith p s
  pub goes : ¬ IsAtRest (Step (rules_in k.weighed)) s
  pub others : All (GoesOrIsOf p s) ps
