use Rattle.std.proofs.Common.{arith, sym, ◌∙◌}
use Rattle.chr_base.specs.Atoms.{atom_cmp}
use Rattle.chr_base.proofs.ListEdits.{without_at, without_none}
use Rattle.chr_base.proofs.lists.index_of.Goals as goal

pub returns-then-is_same-clause-found : goal.returns-then-is_same-clause-found
returns-then-is_same-clause-found c = (
  c.loop-i-test.true,
  without_at atom_cmp c.args.atom.now c.args.items.now c.loop-i.i c.index-items-i.result c.loop-i-test.true
      (λ j h. c.loop-i.invariant j _ h)
      (rw (← c.index-items-i.is) (sym c.is_same.ensures ∙ c.if-is_same.true)),
)

pub returns-clause-none : goal.returns-clause-none
returns-clause-none c = without_none atom_cmp c.args.atom.now c.args.items.now c.args.atom.now
    (λ j h. c.loop-i.invariant j _ (omega arith))
