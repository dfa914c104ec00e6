use Rattle.std.proofs.Common.{arith}
use Rattle.chr_ops.proofs.RangeLookups.{not_before}
use Rattle.chr_ops.proofs.covered.ending_before.Goals as goal
use Rattle.chr_ops.proofs.covered.ending_before.Goals.{else-first-id-via-then-first-id+then-last-id+else-id-last-eq1}
use Rattle.chr_ops.proofs.covered.ending_before.Goals.{else-first-id-via-then-first-id+else-last-id}
use Rattle.chr_ops.proofs.covered.ending_before.Goals.{else-first-id-via-else-first-id}

pub returns-else-first-id-clause-none : goal.returns-else-first-id-clause-none
returns-else-first-id-clause-none c =
    not_before c.args.ends.now c.args.id c.in_ok-first.first c.in_ok-first.last c.requires c.in_ok-first.ensures.there
    c.in_ok-first.ensures.below c.in_ok-first.ensures.last
    (λ same touch. elim c.else-first-id.branch [
      | else-first-id-via-then-first-id+then-last-id+else-id-last-eq1 w ↦ w.if-id-last-eq1.false (omega (arith, touch))
      | else-first-id-via-then-first-id+else-last-id w ↦ (let far = w.if-last-id.false in omega (arith, touch, far))
      | else-first-id-via-else-first-id w ↦ w.if-first-id.false same
    ])
