-- From tries to proposals.
use Rattle.std.specs.Prelude.{◌≡◌, ℕ, ◌++◌, List, [], ◌∷◌, Option, None, Some, Result, Ok, Err, IfOk}
use Rattle.std.specs.Prelude.{IfSome, take, drop, string_bytes}
use Rattle.std.specs.List.{All}
use Rattle.std.proofs.Common.{sym, ap, subst, ◌∙◌}
use Rattle.std.proofs.lemmas.List.Elements.{All-push}
use Rattle.chr_base.specs.declared.program.Program.{Program}
use Rattle.chr_weights.specs.declared.weighed.Weighed.{Weighed}
use Rattle.chr_weights.specs.WeighedPrograms.{program_of, rules_in}
use Rattle.chr_join.specs.declared.accepted.Accepted.{Accepted}
use Rattle.chr_join.specs.AcceptedPrograms.{cases_of, program_in, weighed_of}
use Rattle.chr_join.specs.declared.coverage.Coverage.{Coverage}
use Rattle.chr_join.specs.Verdicts.{IsAcceptedBy}
use Rattle.chr_read.specs.ProgramTexts.{IsAnswer}
use Rattle.chr_diagnosis.specs.declared.proposal.Proposal.{Proposal}
use Rattle.chr_diagnosis.specs.Proposals.{IsProposal}
use Rattle.chr_diagnosis.specs.Verdicts.{IsAcceptedAs, IsAcceptedProgram, IsAcceptedText}

-- what was accepted is the program that was given
pub accepted_as : (coverage : Coverage) (w : Weighed) (a : Accepted) → weighed_of a ≡ w
    → IsAcceptedBy coverage (rules_in w) (cases_of a) → IsAcceptedAs coverage (program_of w) a
accepted_as coverage w a same accepted =
    (ap program_of same, record { lowers = w.lowers; cases = cases_of a; accepted = accepted })

pub accepted_where : {E : Type 0} (coverage : Coverage) (p q : Program) (r : Result (Option Accepted) E) → p ≡ q
    → IfOk r (λ o. IfSome o (IsAcceptedAs coverage p)) → IfOk r (λ o. IfSome o (IsAcceptedAs coverage q))
accepted_where coverage p q r same h = subst (λ x. IfOk r (λ o. IfSome o (IsAcceptedAs coverage x))) same h

of_text : (coverage : Coverage) (text : List ℕ) (p : Program) (a : Accepted) → IsAnswer text (Ok p)
    → IsAcceptedAs coverage p a → IsAcceptedText coverage text a
of_text coverage text p a answer h =
    (subst (λ x. IsAnswer text (Ok x)) (sym h.0) answer, subst (IsAcceptedProgram coverage) (sym h.0) h.1)

-- the program of a text
pub accepted_of_text : {E : Type 0} (coverage : Coverage) (text : List ℕ) (p : Program)
    (r : Result (Option Accepted) E) → IsAnswer text (Ok p) → IfOk r (λ o. IfSome o (IsAcceptedAs coverage p))
    → IfOk r (λ o. IfSome o (IsAcceptedText coverage text))
accepted_of_text coverage text p (Ok (Some a)) answer h = of_text coverage text p a answer h
accepted_of_text coverage text p (Ok None) answer h = h
accepted_of_text coverage text p (Err e) answer h = h

-- a try that was accepted
pub proposed : (coverage : Coverage) (text given changed bytes : List ℕ) (p : Proposal)
    → given ≡ changed → changed ≡ take p.from text ++ bytes ++ drop p.to text → bytes ≡ string_bytes p.rules
    → IsAcceptedText coverage given p.accepted → IsProposal coverage text p
proposed coverage text given changed bytes p e is told h =
    subst (λ t. IsAcceptedText coverage t p.accepted)
    (e ∙ is ∙ ap (λ xs. take p.from text ++ xs ++ drop p.to text) told) h

-- one more of them
pub one_more : (coverage : Coverage) (text : List ℕ) (old new : List Proposal) (p : Proposal) (found : Option Proposal)
    → All (IsProposal coverage text) old → IfSome found (IsProposal coverage text) → found ≡ Some p → new ≡ old ++ p
    ∷ []
    → All (IsProposal coverage text) new
one_more coverage text old new p found all is e pushed =
    subst (All (IsProposal coverage text)) (sym pushed)
    (All-push (IsProposal coverage text) old p all (subst (λ o. IfSome o (IsProposal coverage text)) e is))
