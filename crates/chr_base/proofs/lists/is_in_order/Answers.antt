use Rattle.std.proofs.Common.{refl, sym, ◌-◌, ◌∙◌, arith}
use Rattle.std.proofs.lemmas.Bool.{false≢true}
use Rattle.chr_base.proofs.Atoms.{atom_total}
use Rattle.chr_base.proofs.Ordered.{rising_by_neighbours}
use Rattle.chr_base.proofs.Subsequences.{none_falls}
use Rattle.chr_base.proofs.lists.is_in_order.Goals as goal

pub returns-then-is_after : goal.returns-then-is_after
returns-then-is_after c = (
  λ h. absurd (false≢true h),
  λ h. none_falls c.args.atoms.now (c.loop-i.i - 1) c.loop-i.i _ _ (omega arith) c.loop-i-test.true c.index-atoms-i.is
      c.index-atoms-i-in-loop-i.is (sym c.is_after.ensures ∙ c.if-is_after.true) h,
)

pub returns : goal.returns
returns c = (
  λ _. rising_by_neighbours atom_total c.args.atoms.now (λ k d h. c.loop-i.invariant k d (omega arith)),
  λ _. refl,
)
