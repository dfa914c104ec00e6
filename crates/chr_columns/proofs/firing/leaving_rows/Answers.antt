use Rattle.std.proofs.Common.{◌≡◌, suc, ◌+◌, ◌<◌, ◌∷◌, ◌++◌, [], length, drop, sym, ap, ◌∙◌, arith}
use Rattle.std.specs.Prelude.{remove}
use Rattle.chr_base.specs.declared.limits.TheConstants.{MAX_HEADS}
use Rattle.chr_columns.specs.working.Firing.{kept_others, seats_to}
use Rattle.chr_columns.proofs.Leaving.{Left, left_first, left_more, left_same, left_few}
use Rattle.chr_columns.proofs.firing.leaving_rows.Goals.{then-other-place, else-other-place}
use Rattle.chr_columns.proofs.firing.leaving_rows.Goals as goal

pub loop-other-init : goal.loop-other-init
loop-other-init c =
    let r = c.args.rule.now in
    let p = c.args.place in
    let ss = c.args.seats.now in
    let v = c.len-other.ensures.value in
    record {
      rows = c.new-rows.ensures ∙ left_first r p ss ∙ ap (λ n. drop (kept_others r p) (remove (seats_to ss n) p))
          (sym v);
      kept = omega (arith, v);
    }

pub push-requires : goal.push-requires
push-requires c =
    let i = ap length c.loop-other.invariant.rows in
    let f = left_few c.args.rule.now c.args.place c.args.seats.now c.loop-other.other in
    let l = c.loop-other-test.true in
    let m = c.places-other-end.ensures.most in
    let few : length c.loop-other.rows.items < MAX_HEADS = omega (arith, i, f, l, m) in
    (omega arith, few)

pub loop-other-preserved : goal.loop-other-preserved
loop-other-preserved c =
    let r = c.args.rule.now in
    let p = c.args.place in
    let ss = c.args.seats.now in
    let q = c.loop-other.other in
    let kept = c.loop-other.invariant.kept in
    let rows : c.if-other-place.rows.items ≡ Left r p ss (suc q) = elim c.if-other-place.branch [
      | then-other-place w ↦ ap (λ x. x.items) w.rows-is ∙ w.push.ensures.items
          ∙ (λ i. c.loop-other.invariant.rows i ++ w.seat_at.ensures i ∷ [])
          ∙ left_more r p ss q kept w.if-other-place.true
      | else-other-place w ↦ ap (λ x. x.items) w.rows-is ∙ c.loop-other.invariant.rows
          ∙ left_same r p ss q w.if-other-place.false
    ] in
    record {
      rows = rows ∙ ap (λ n. drop (kept_others r p) (remove (seats_to ss n) p))
          (let e : suc q ≡ q + 1 = omega arith in e);
      kept = omega (arith, kept);
    }
