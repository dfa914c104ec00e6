use Rattle.std.proofs.Common.{◌≡◌, ◌-◌, ◌<◌, ◌%◌, inl, inr, arith, ap, sym, ◌∙◌}
use Rattle.std.proofs.lemmas.Bool.{cases_lt}
use Rattle.chr_portions.proofs.Kept.{alike_trans, sought_back}
use Rattle.chr_portions.proofs.chains.walk.Goals as goal

pub loop-at-preserved : goal.loop-at-preserved
loop-at-preserved c =
    let i = c.loop-at.invariant in
    let some = c.loop-at-test.true in
    let w = i.within in
    let n = c.next_live-at.ensures.newest in
    let alike = c.next_live-at.ensures.alike in
    let down = n.within in
    let same = ap (λ h. h % c.args.slots) (alike (c.loop-at.at - 1)).0 ∙ i.slot some in record {
      size = c.next_live-at.ensures.size ∙ i.size;
      alike = alike_trans _ _ _ i.alike alike;
      next = rw i.size at c.next_live-at.ensures.next;
      within = omega (arith, down, w, some);
      slot = λ p. (n.of_slot p ∙ same);
      above = λ p l s. (let t = sought_back c.args.sought.now c.loop-at.records c.next_live-at.new.records p alike s in
          let b = i.above p l t in
          elim (cases_lt p (c.loop-at.at - 1)) as (λ _. p < c.next_live-at.result) [
            | inl less ↦ n.none_above p less (ap (λ h. h % c.args.slots) s.1 ∙ sym same) s.0
            | inr most ↦ (let e : p ≡ c.loop-at.at - 1 = omega (arith, most, b) in
                absurd (c.if-is.ensures.other (rw e at t)))
          ]);
    }
