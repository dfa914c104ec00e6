-- What stays with one proposal alone.
use Rattle.std.specs.Prelude.{◌≡◌, ◌↔◌, List, Bool, true, false, IsTrue, Result, Ok, Err, IfOk}
use Rattle.std.specs.Bool.{OnTrue}
use Rattle.std.specs.List.{All}
use Rattle.std.proofs.Common.{sym, subst}
use Rattle.chr_base.specs.Stores.{Store}
use Rattle.chr_base.specs.Rules.{Step}
use Rattle.chr_base.specs.Rewriting.{IsAtRest}
use Rattle.chr_weights.specs.declared.weighed.Weighed.{Weighed}
use Rattle.chr_weights.specs.WeighedPrograms.{rules_in}
use Rattle.chr_join.specs.AcceptedPrograms.{weighed_of}
use Rattle.chr_diagnosis.specs.declared.peak.Peak.{Peak}
use Rattle.chr_diagnosis.specs.declared.proposal.Proposal.{Proposal}
use Rattle.chr_diagnosis.specs.Proposals.{GoesOrIsOf, IsKeptAlone, StaysWith}

-- the answer yes
pub stays_with : (b : Bool) (w : Weighed) (p : Proposal) (s : Store) → w ≡ weighed_of p.accepted
    → (IsTrue b ↔ IsAtRest (Step (rules_in w)) s) → b ≡ true → StaysWith p s
stays_with b w p s e iff is =
    subst (λ x. IsAtRest (Step (rules_in x)) s) e (iff.0 is)

differ : (b : Bool) → b ≡ true → b ≡ false → ⊥
differ b one other = cc

-- the answer no
pub goes_by : (b : Bool) (w : Weighed) (s : Store) → (IsTrue b ↔ IsAtRest (Step (rules_in w)) s) → b ≡ false
    → ¬ IsAtRest (Step (rules_in w)) s
goes_by b w s iff is rest = differ b (iff.1 rest) is

pub goes_with : (b : Bool) (w : Weighed) (p : Proposal) (s : Store) → w ≡ weighed_of p.accepted
    → (IsTrue b ↔ IsAtRest (Step (rules_in w)) s) → b ≡ false → ¬ StaysWith p s
goes_with b w p s e iff is rest =
    goes_by b w s iff is (subst (λ x. IsAtRest (Step (rules_in x)) s) (sym e) rest)

pub kept : {E : Type 0} (k : Peak) (ps : List Proposal) (p : Proposal) (s : Store) (r : Result Bool E)
    → StaysWith p s → (¬ IsAtRest (Step (rules_in k.weighed)) s) → IfOk r (λ b. OnTrue b (All (GoesOrIsOf p s) ps))
    → IfOk r (λ b. OnTrue b (IsKeptAlone k ps p s))
kept k ps p s (Ok true) stays goes others = record { stays = stays; goes = goes; others = others }
kept k ps p s (Ok false) stays goes others = others
kept k ps p s (Err e) stays goes others = others
