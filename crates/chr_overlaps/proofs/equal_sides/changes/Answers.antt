use Rattle.std.proofs.Common.{length, subst}
use Rattle.chr_types.specs.OrderTypes.{In}
use Rattle.chr_overlaps.proofs.EqualSides.{body_below, removed_below}
use Rattle.chr_overlaps.proofs.equal_sides.changes.Goals as goal

pub push_classes-requires-clause-below : goal.push_classes-requires-clause-below
push_classes-requires-clause-below c p i =
    body_below c.args.puts.now c.args.puts_shift (length c.args.classes.now.terms.items) p c.requires.puts
    (subst (In p) c.deref.ensures.0 i)

pub push_classes-requires-2-clause-below : goal.push_classes-requires-2-clause-below
push_classes-requires-2-clause-below c p i =
    removed_below c.args.takes.now c.args.takes_shift (length c.args.classes.now.terms.items) p c.requires.takes
    (subst (In p) c.deref-2.ensures.0 i)
