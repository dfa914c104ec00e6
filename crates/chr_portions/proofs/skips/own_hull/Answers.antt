use Rattle.std.proofs.Common.{◌≡◌, inl, inr, arith, sym, ap, ◌∙◌}
use Rattle.std.proofs.lemmas.Bool.{cases_lt}
use Rattle.chr_portions.specs.working.Skips.{record_at, IsInHull}
use Rattle.chr_portions.proofs.skips.own_hull.Goals as goal

pub loop-place-preserved : goal.loop-place-preserved
loop-place-preserved c = λ p from to alive.
    elim (cases_lt p c.loop-place.place) as (λ _. IsInHull c.with-hull.result (record_at c.args.records.now p)) [
      | inl less ↦ c.with-hull.ensures.left (record_at c.args.records.now p) (c.loop-place.invariant p from less alive)
      | inr more ↦ (let e : p ≡ c.loop-place.place = omega (arith, to, more) in
          rw e (c.with-hull.ensures.right (record_at c.args.records.now c.loop-place.place)
          (c.hull.ensures (ap (λ k. (record_at c.args.records.now k).alive) (sym e) ∙ alive))))
    ]
