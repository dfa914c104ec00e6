use Rattle.std.proofs.Common.{◌≡◌, inl, inr, get_or, sym, ap, ◌∙◌, arith}
use Rattle.std.proofs.lemmas.Bool.{cases_lt}
use Rattle.chr_plans.specs.Seats.{seat}
use Rattle.chr_plans.specs.working.Searching.{looked_in}
use Rattle.chr_plans.proofs.Places.{place_is}
use Rattle.chr_plans.proofs.search.is_taken.Goals as goal

pub offset_bounds-seats-lookup : goal.offset_bounds-seats-lookup
offset_bounds-seats-lookup c =
    let e = place_is c.args.lookups.now c.loop-lookup.lookup-index c.lookup-item.result c.loop-lookup-test.true
    (sym c.lookup-item.is) in
    let r = c.requires.places c.loop-lookup.lookup-index c.loop-lookup-test.true in
    let f = c.requires.few in
    omega (arith, e, r, f)

pub bounds-seats-lookup : goal.bounds-seats-lookup
bounds-seats-lookup c =
    let e = place_is c.args.lookups.now c.loop-lookup.lookup-index c.lookup-item.result c.loop-lookup-test.true
    (sym c.lookup-item.is) in
    let r = c.requires.places c.loop-lookup.lookup-index c.loop-lookup-test.true in
    omega (arith, e, r)

pub loop-lookup-preserved : goal.loop-lookup-preserved
loop-lookup-preserved c = λ j l s. (elim (cases_lt j c.loop-lookup.lookup-index) as (λ _. ⊥) [
  | inl less ↦ c.loop-lookup.invariant j less s
  | inr most ↦ (let i : j ≡ c.loop-lookup.lookup-index = omega (arith, l, most) in
      let e = place_is c.args.lookups.now c.loop-lookup.lookup-index c.lookup-item.result c.loop-lookup-test.true
      (sym c.lookup-item.is) in
      c.if-is_same.ensures.other (ap (seat c.args.seats.now)
      (sym e ∙ ap (λ k. get_or (looked_in c.args.lookups.now) k 0) (sym i)) ∙ s))
])

pub returns-then-is_same-clause-taken : goal.returns-then-is_same-clause-taken
returns-then-is_same-clause-taken c =
    let e = place_is c.args.lookups.now c.loop-lookup.lookup-index c.lookup-item.result c.loop-lookup-test.true
    (sym c.lookup-item.is) in
    (c.loop-lookup.lookup-index, c.loop-lookup-test.true, ap (seat c.args.seats.now) e ∙ c.if-is_same.ensures.same)
