use Rattle.std.proofs.Common.{rules, ◌≡◌, ◌≤◌, ◌-◌, ◌++◌, ◌∷◌, [], length, take, vec_len, true, false, get_or, refl}
use Rattle.std.proofs.Common.{sym, ap, subst, ◌∙◌, arith, pos, List, ℤ}
use Rattle.std.specs.List.{flat_map}
use Rattle.std.specs.Option.{IsSome}
use mir.Val.{SFits}
use mir.Syntax.{w64}
use Rattle.std.proofs.lemmas.Bool.{OnFalse_at}
use Rattle.std.proofs.lemmas.Int.{to_z-of_z}
use Rattle.std.proofs.lemmas.List.{length-append, take_all}
use Rattle.std.proofs.Math.Seq.{take-append_seam}
use Rattle.chr_types.specs.working.Search.{holes_by}
use Rattle.chr_types.specs.working.Walks.{walked, walked_at}
use Rattle.chr_types.specs.Visits.{Visited}
use Rattle.chr_types.specs.declared.search.Candidate.{Candidate}
use Rattle.chr_types.proofs.Walking.{walked_next, at_passing, at_failing, one_more, stops_in, no_more_at}
use Rattle.chr_types.proofs.walk.+walk.Goals as goal
use Rattle.chr_types.proofs.walk.+walk.Goals.{then-goes_on+in_ok-walk+else-branch, else-goes_on}

pub returns-then-branch-clause-visited : goal.returns-then-branch-clause-visited
returns-then-branch-clause-visited g t c =
    let d : Candidate = record { value = pos 0; base = pos 0 } in
    let ks = c.args.candidates.now in
    let p = c.args.prefix.now.items in
    let h = c.args.holes.now in
    let k = c.args.left - 1 in
    let i = c.loop-candidate.candidate-index in
    let test = g.T.Beginnings.admits c.args.wanted.now in
    let candidate : Candidate = get_or ks i d in
    let fv : SFits w64 candidate.value = search rules in
    let before : c.deref-in-loop-candidate.result.now ≡ p = c.deref-in-loop-candidate.ensures.value
    ∙ c.loop-candidate.invariant.prefix in
    let fits : length (holes_by candidate p h) ≤ k = subst (λ x. length (holes_by candidate x h) ≤ k) before
    (c.in_ok-after.ensures.fits.0 (subst IsSome (sym c.in-Some.is) refl)) in
    let after : c.in-Some.after.items ≡ holes_by candidate p h = (rw c.in-Some.is at c.in_ok-after.ensures.holes)
    ∙ ap (λ x. holes_by candidate x h) before in
    let pushed = simp to_z-of_z at c.in_ok-push.ensures.items in
    let longer : c.push.new.self.items ≡ p ++ candidate.value ∷ [] =
    pushed ∙ ap (λ (x : List ℤ). x ++ candidate.value ∷ []) c.loop-candidate.invariant.prefix in
    let yes : test c.push.new.self.items ≡ true = ap test (sym c.deref-in-loop-candidate-2.ensures.value)
    ∙ sym c.goes_on.ensures ∙ c.if-goes_on.true in
    let same = at_passing test ks k p h candidate c.push.new.self.items c.deref-then-goes_on.result.now longer
    (c.deref-then-goes_on.ensures.value ∙ after) fits yes in
    let here : Visited g.V.Visit.step c.loop-candidate.visitor (walked_at test (walked test ks k) k p h candidate) true
    c.walk.new.visitor = rw (same, ← c.if-branch.true) c.in_ok-walk.ensures.visited in
    let l = c.loop-candidate-test.true in
    rw (walked_next test ks c.args.left p h c.if-left-eq0.false)
    (stops_in g.V.Visit.step (walked_at test (walked test ks k) k p h) ks i d c.args.visitor.now
    c.loop-candidate.visitor c.walk.new.visitor (omega (arith, l)) c.loop-candidate.invariant.visited here)

pub loop-candidate-preserved : goal.loop-candidate-preserved
loop-candidate-preserved g t c =
    let d : Candidate = record { value = pos 0; base = pos 0 } in
    let ks = c.args.candidates.now in
    let p = c.args.prefix.now.items in
    let h = c.args.holes.now in
    let k = c.args.left - 1 in
    let i = c.loop-candidate.candidate-index in
    let test = g.T.Beginnings.admits c.args.wanted.now in
    let f = walked_at test (walked test ks k) k p h in
    let candidate : Candidate = get_or ks i d in
    let l = c.loop-candidate-test.true in
    let inv = c.loop-candidate.invariant.visited in
    let fv : SFits w64 candidate.value = search rules in
    let before : c.deref-in-loop-candidate.result.now ≡ p = c.deref-in-loop-candidate.ensures.value
    ∙ c.loop-candidate.invariant.prefix in
    let fits : length (holes_by candidate p h) ≤ k = subst (λ x. length (holes_by candidate x h) ≤ k) before
    (c.in_ok-after.ensures.fits.0 (subst IsSome (sym c.in-Some.is) refl)) in
    let after : c.in-Some.after.items ≡ holes_by candidate p h = (rw c.in-Some.is at c.in_ok-after.ensures.holes)
    ∙ ap (λ x. holes_by candidate x h) before in
    let pushed = simp to_z-of_z at c.in_ok-push.ensures.items in
    let longer : c.push.new.self.items ≡ p ++ candidate.value ∷ [] =
    pushed ∙ ap (λ (x : List ℤ). x ++ candidate.value ∷ []) c.loop-candidate.invariant.prefix in
    let kept : c.if-goes_on.prefix.items ≡ p ++ candidate.value ∷ [] = elim c.if-goes_on.branch [
      | then-goes_on+in_ok-walk+else-branch w ↦ rw w.prefix-is
          (OnFalse_at w.if-branch.false w.in_ok-walk.ensures.prefix ∙ longer)
      | else-goes_on w ↦ rw w.prefix-is longer
    ] in
    let size : vec_len c.if-goes_on.prefix ≡ length c.if-goes_on.prefix.items =
    omega (arith, c.if-goes_on.prefix.ok.0) in
    let one : vec_len c.if-goes_on.prefix - 1 ≡ length p = let a = ap length kept in let b =
    length-append p (candidate.value ∷ []) in omega (arith, size, a, b) in
    record {
      prefix = c.pop.ensures.rest ∙ (λ j. take (one j) (kept j)) ∙ take-append_seam p (candidate.value ∷ []);
      ready = elim c.if-goes_on.branch [
        | then-goes_on+in_ok-walk+else-branch w ↦ rw w.visitor-is w.in_ok-walk.ensures.ready
        | else-goes_on w ↦ rw w.visitor-is c.loop-candidate.invariant.ready
      ];
      visited = elim c.if-goes_on.branch [
        | then-goes_on+in_ok-walk+else-branch w ↦ (
            let yes : test c.push.new.self.items ≡ true = ap test (sym c.deref-in-loop-candidate-2.ensures.value)
            ∙ sym c.goes_on.ensures ∙ w.if-goes_on.true in
            let same = at_passing test ks k p h candidate c.push.new.self.items w.deref-then-goes_on.result.now longer
            (w.deref-then-goes_on.ensures.value ∙ after) fits yes in
            let here : Visited g.V.Visit.step c.loop-candidate.visitor (f candidate) false w.walk.new.visitor =
            rw (same, ← w.if-branch.false) w.in_ok-walk.ensures.visited in
            rw w.visitor-is (one_more g.V.Visit.step f ks i d _ _ _ (omega (arith, l)) inv here))
        | else-goes_on w ↦ (
            let none : f candidate ≡ [] = at_failing test ks k p h candidate c.deref-in-loop-candidate-2.result.now
            (c.deref-in-loop-candidate-2.ensures.value ∙ longer) (sym c.goes_on.ensures ∙ w.if-goes_on.false) in
            rw w.visitor-is (no_more_at g.V.Visit.step f ks i d _ _ (omega (arith, l)) inv none))
      ];
    }

pub returns-clause-visited : goal.returns-clause-visited
returns-clause-visited g t c =
    let ks = c.args.candidates.now in
    let p = c.args.prefix.now.items in
    let h = c.args.holes.now in
    let test = g.T.Beginnings.admits c.args.wanted.now in
    let l = c.loop-candidate-test.false in
    let f = walked_at test (walked test ks (c.args.left - 1)) (c.args.left - 1) p h in
    rw (walked_next test ks c.args.left p h c.if-left-eq0.false)
    (subst (λ xs. Visited g.V.Visit.step c.args.visitor.now (flat_map f xs) false c.loop-candidate.visitor)
    (take_all c.loop-candidate.candidate-index ks (omega (arith, l))) c.loop-candidate.invariant.visited)
