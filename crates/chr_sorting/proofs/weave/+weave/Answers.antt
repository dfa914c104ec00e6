use Rattle.std.proofs.Common.{rules, ◌≡◌, ◌-◌, ◌++◌, ◌∷◌, [], true, false, get_or, length, take, ap, subst, ◌∙◌, arith}
use Rattle.std.proofs.Common.{pos, List, ℤ, ℕ}
use mir.Val.{SFits, to_z, of_z}
use mir.Syntax.{w64}
use Rattle.std.specs.List.{flat_map}
use Rattle.std.proofs.lemmas.Int.{to_z-of_z}
use Rattle.chr_types.specs.Visits.{Visited}
use Rattle.chr_types.proofs.Walking.{one_more, stops_in}
use Rattle.chr_sorting.specs.declared.weave.SortLists.{SortLists}
use Rattle.chr_sorting.specs.working.Weaving.{begun, held, woven, each_once, firsts}
use Rattle.chr_sorting.proofs.Weaving.{at_value, all_values, popped_back}
use Rattle.chr_sorting.proofs.weave.+weave.Goals as goal

pub returns-then-stopped-clause-visited : goal.returns-then-stopped-clause-visited
returns-then-stopped-clause-visited g t c =
    let step = g.V.Visit.step in
    let ks = c.args.classes.now in
    let hs : List SortLists = c.args.all.now.items in
    let p : List ℤ = c.args.prefix.now in
    let k : ℕ = c.in-Some.sort.now in
    let rest : List ℕ = c.in-Some.rest.now in
    let values : List ℤ = c.deref-value-items.result.now in
    let i = c.loop-value.value-index in
    let z : ℤ = get_or values i (pos 0) in
    let fits : SFits w64 z = search rules in
    let values_are : values ≡ each_once (firsts (held hs k)) = c.deref-value-items.ensures.value
    ∙ c.in_ok-values.ensures ∙ ap (λ ls. each_once (firsts ls))
    (c.lists_held.ensures ∙ ap (λ h. held h k) c.deref.ensures.value) in
    let all : flat_map (λ (x : ℤ). woven rest (begun k x (held hs)) (p ++ x ∷ [])) values ≡ woven ks (held hs) p =
    all_values ks rest hs k p values c.in-Some.ensures.cases.0 values_are in
    let told : c.in_ok-longer.longer.items ≡ p ++ to_z w64 (of_z w64 z) ∷ [] = c.in_ok-longer.ensures in
    let longer : c.in_ok-longer.longer.items ≡ p ++ z ∷ [] = told ∙ ap (λ x. p ++ x ∷ []) (to_z-of_z w64 z fits) in
    let told_begun : held c.begin.new.all.items ≡ begun k (to_z w64 (of_z w64 z)) (held c.loop-value.all.items) =
    c.in_ok-begin.ensures.begun in
    let now : held c.begin.new.all.items ≡ begun k z (held c.loop-value.all.items) =
    told_begun ∙ ap (λ x. begun k x (held c.loop-value.all.items)) (to_z-of_z w64 z fits) in
    let same : woven rest (held c.begin.new.all.items) c.deref-in-loop-value.result.now
    ≡ woven rest (begun k z (held hs)) (p ++ z ∷ []) =
    at_value rest (held hs) (held c.begin.new.all.items) p c.deref-in-loop-value.result.now k z
    (now ∙ ap (λ h. begun k z (held h)) c.loop-value.invariant.same)
    (c.deref-in-loop-value.ensures.value ∙ longer) in
    let l = c.loop-value-test.true in
    let stopped : Visited step c.loop-value.visitor (woven rest
    (held c.begin.new.all.items) c.deref-in-loop-value.result.now) true c.weave.new.visitor =
    rw (← c.if-stopped.true) c.in_ok-stopped.ensures.visited in
    let here : Visited step c.loop-value.visitor (woven rest (begun k z (held hs)) (p ++ z ∷ [])) true
    c.weave.new.visitor = subst (λ rs. Visited step c.loop-value.visitor rs true c.weave.new.visitor) same
    stopped in
    subst (λ rs. Visited step c.args.visitor.now rs true c.weave.new.visitor) all
    (stops_in step (λ (x : ℤ). woven rest (begun k x (held hs)) (p ++ x ∷ [])) values i
    (pos 0) c.args.visitor.now c.loop-value.visitor c.weave.new.visitor
    (omega (arith, l)) c.loop-value.invariant.visited here)

pub loop-value-preserved : goal.loop-value-preserved
loop-value-preserved g t c =
    let step = g.V.Visit.step in
    let hs : List SortLists = c.args.all.now.items in
    let p : List ℤ = c.args.prefix.now in
    let k : ℕ = c.in-Some.sort.now in
    let rest : List ℕ = c.in-Some.rest.now in
    let values : List ℤ = c.deref-value-items.result.now in
    let i = c.loop-value.value-index in
    let z : ℤ = get_or values i (pos 0) in
    let fits : SFits w64 z = search rules in
    let told : c.in_ok-longer.longer.items ≡ p ++ to_z w64 (of_z w64 z) ∷ [] = c.in_ok-longer.ensures in
    let longer : c.in_ok-longer.longer.items ≡ p ++ z ∷ [] = told ∙ ap (λ x. p ++ x ∷ []) (to_z-of_z w64 z fits) in
    let told_begun : held c.begin.new.all.items ≡ begun k (to_z w64 (of_z w64 z)) (held c.loop-value.all.items) =
    c.in_ok-begin.ensures.begun in
    let now : held c.begin.new.all.items ≡ begun k z (held c.loop-value.all.items) =
    told_begun ∙ ap (λ x. begun k x (held c.loop-value.all.items)) (to_z-of_z w64 z fits) in
    let same : woven rest (held c.begin.new.all.items) c.deref-in-loop-value.result.now
    ≡ woven rest (begun k z (held hs)) (p ++ z ∷ []) =
    at_value rest (held hs) (held c.begin.new.all.items) p c.deref-in-loop-value.result.now k z
    (now ∙ ap (λ h. begun k z (held h)) c.loop-value.invariant.same)
    (c.deref-in-loop-value.ensures.value ∙ longer) in
    let l = c.loop-value-test.true in
    let went_on : Visited step c.loop-value.visitor (woven rest
    (held c.begin.new.all.items) c.deref-in-loop-value.result.now) false c.weave.new.visitor =
    rw (← c.if-stopped.false) c.in_ok-stopped.ensures.visited in
    let here : Visited step c.loop-value.visitor (woven rest (begun k z (held hs)) (p ++ z ∷ [])) false
    c.weave.new.visitor = subst (λ rs. Visited step c.loop-value.visitor rs false c.weave.new.visitor) same
    went_on in
    let size : c.weave.new.all.len ≡ length c.weave.new.all.items = c.weave.new.all.ok.0 in
    let popped : c.pop.new.self.items ≡ take (length c.weave.new.all.items - 1) c.weave.new.all.items =
    c.pop.ensures.rest ∙ ap (λ n. take (n - 1) c.weave.new.all.items) size in
    record {
      ready = c.in_ok-stopped.ensures.ready;
      same = popped_back c.loop-value.all.items c.weave.new.all.items c.begin.new.all.items c.pop.new.self.items popped
          c.in_ok-stopped.ensures.same c.in_ok-begin.ensures.one c.in_ok-begin.ensures.before
          ∙ c.loop-value.invariant.same;
      visited = one_more step (λ (x : ℤ). woven rest (begun k x (held hs)) (p ++ x ∷ [])) values i
          (pos 0) c.args.visitor.now c.loop-value.visitor c.weave.new.visitor
          (omega (arith, l)) c.loop-value.invariant.visited here;
    }
