use Rattle.std.proofs.Common.{rules, ◌≡◌, refl, sym, ◌-◌, ◌∙◌, arith}
use Rattle.std.proofs.lemmas.Bool.{false≢true}
use Rattle.std.specs.Ordering.{is_le}
use Rattle.chr_ops.specs.Ids.{id_cmp}
use Rattle.chr_ops.proofs.IdsInOrder.{none_falls, rise_by_neighbours}
use Rattle.chr_ops.proofs.rising.ids_rise.Goals as goal

pub returns-then-le : goal.returns-then-le
returns-then-le c =
    let before = c.index-ops-i-in-loop-i.result in
    let o = c.index-ops-i.result in
    let tested : c.le.result ≡ is_le (id_cmp o.0 before.0) = search rules in (
      λ h. absurd (false≢true h),
      λ h. absurd (none_falls c.args.ops.now (c.loop-i.i - 1) c.loop-i.i before o (omega arith) c.loop-i-test.true
          c.index-ops-i-in-loop-i.is c.index-ops-i.is (sym tested ∙ c.if-le.true) h),
    )

pub returns : goal.returns
returns c = (
  λ _. rise_by_neighbours c.args.ops.now (λ k d h. c.loop-i.invariant k d (omega arith)),
  λ _. refl,
)
