use Rattle.std.proofs.Common.{◌≡◌, ◌<◌, ℕ, ℤ, List, [], pos, negsuc, ◌-ℤ◌, ◌+ℤ◌, arith, subst, sym, ap, ◌∙◌}
use mir.Val.{of_z, to_z}
use mir.Syntax.{w64}
use Rattle.std.proofs.lemmas.Int.{ints}
use Rattle.chr_types.specs.working.Search.{CandidatesBelow, AreCountedFrom, AreCandidates}
use Rattle.chr_types.specs.declared.search.Candidate.{Candidate}
use Rattle.chr_types.proofs.CandidateSteps.{none_step, none_for_none}
use Rattle.chr_types.proofs.candidates.candidates_from_zero.Goals as goal
use Rattle.chr_types.proofs.candidates.candidates_from_zero.Goals.{then-classes-gt0+in_ok-add_candidates}
use Rattle.chr_types.proofs.candidates.candidates_from_zero.Goals.{else-classes-gt0}

pub returns : goal.returns
returns c = elim c.if-classes-gt0.branch [
  | then-classes-gt0+in_ok-add_candidates w ↦ (
      let some : 0 < c.args.classes = omega (arith, w.if-classes-gt0.true) in
      let last : to_z w64 (of_z w64 (to_z w64 c.args.classes -ℤ pos 1)) ≡ pos c.args.classes -ℤ pos 1 =
      (let f = c.requires.few in omega (arith, ints)) in
      let step = subst (λ (z : ℤ). (n : ℕ) (cs : List ℤ) → CandidatesBelow n cs c.new-found.result.items (pos 0)
      → AreCountedFrom cs (negsuc 0) (pos 0) z → CandidatesBelow n cs w.add_candidates.new.found.items (z +ℤ pos 1))
      last w.in_ok-add_candidates.ensures in
      let all = none_step c.args.classes w.add_candidates.new.found.items some
      (λ m ds p a. step m ds (subst (λ (ps : List Candidate). CandidatesBelow m ds ps (pos 0))
      (sym c.new-found.ensures.items) p) a) c.requires.few in
      subst (λ (ps : List Candidate). AreCandidates c.args.classes [] ps) (sym (ap (λ v. v.items) w.found-is)) all)
  | else-classes-gt0 w ↦ (
      let none : 0 ≡ c.args.classes = omega (arith, w.if-classes-gt0.false) in
      subst (λ (n : ℕ). AreCandidates n [] c.if-classes-gt0.found.items) none
      (none_for_none c.if-classes-gt0.found.items (ap (λ v. v.items) w.found-is ∙ c.new-found.ensures.items)))
]
