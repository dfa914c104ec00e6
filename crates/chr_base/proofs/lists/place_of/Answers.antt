use Rattle.std.proofs.Common.{arith, length, sym, ◌∙◌}
use Rattle.chr_base.specs.Atoms.{atom_cmp}
use Rattle.chr_base.proofs.ListEdits.{put_at}
use Rattle.chr_base.proofs.lists.place_of.Goals as goal

pub returns-then-not-is_after-clause-place : goal.returns-then-not-is_after-clause-place
returns-then-not-is_after-clause-place c =
    put_at atom_cmp c.args.atom.now c.args.items.now c.loop-i.i c.index-items-i.result (omega arith)
    (λ j h. c.loop-i.invariant j _ h)
    (λ _. rw (← c.index-items-i.is) (sym c.is_after.ensures ∙ c.if-not-is_after.true))

pub returns-clause-place : goal.returns-clause-place
returns-clause-place c =
    put_at atom_cmp c.args.atom.now c.args.items.now (length c.args.items.now) c.args.atom.now (omega arith)
    (λ j h. c.loop-i.invariant j _ (omega arith)) (λ h. absurd (omega arith))
