use Rattle.std.proofs.Common.{rules, ◌≡◌, ◌≤◌, false, length, subst, inl, inr}
use Rattle.std.specs.List.{All}
use Rattle.std.proofs.lemmas.List.{take_all}
use Rattle.chr_diagnosis.specs.Proposals.{GoesOrIsOf, IsSamePlace}
use Rattle.chr_diagnosis.proofs.FirstElements.{one_further}
use Rattle.chr_diagnosis.proofs.KeptAlone.{goes_with}
use Rattle.chr_diagnosis.proofs.keeping.goes_with_others.Goals.{else-not-are_same-via-then-not-are_same+in_ok-stays+else-branch}
use Rattle.chr_diagnosis.proofs.keeping.goes_with_others.Goals.{else-not-are_same-via-else-not-are_same}
use Rattle.chr_diagnosis.proofs.keeping.goes_with_others.Goals as goal

pub loop-other-preserved : goal.loop-other-preserved
loop-other-preserved c =
    let p = c.args.proposal.now in
    let s = c.args.store.now in
    let one : GoesOrIsOf p s c.other-item.result =
    elim c.else-not-are_same.branch as (λ _. GoesOrIsOf p s c.other-item.result) [
      | else-not-are_same-via-then-not-are_same+in_ok-stays+else-branch w ↦
          let go : w.in_ok-stays.field-0 ≡ false = search rules in
          inr (goes_with w.in_ok-stays.field-0 w.weighed.result.now c.other-item.result s w.weighed.ensures.weighed
          w.in_ok-stays.ensures go)
      | else-not-are_same-via-else-not-are_same w ↦
          let same : IsSamePlace p c.other-item.result = search rules in
          inl same
    ]
    in
    one_further (GoesOrIsOf p s) c.args.proposals.now c.loop-other.other-index c.other-item.result
    c.loop-other-test.true c.other-item.is c.loop-other.invariant one

pub returns : goal.returns
returns c =
    let all : length c.args.proposals.now ≤ c.loop-other.other-index = search rules in
    subst (All (GoesOrIsOf c.args.proposal.now c.args.store.now)) (take_all c.loop-other.other-index
    c.args.proposals.now all)
    c.loop-other.invariant
