use Rattle.chr_base.proofs.Atoms.{atom_total}
use Rattle.chr_base.proofs.FinBags.{within_lists, lists_within}
use Rattle.chr_base.proofs.Subsequences.{taken_out}
use Rattle.chr_base.proofs.bag.Bag.remove_all.Goals as goal

pub returns-then-is_in_order-clause-there : goal.returns-then-is_in_order-clause-there
returns-then-is_in_order-clause-there c = rw (← c.self.view_is) (
  λ t. within_lists atom_total _ _ (c.remove_in_order.ensures.there.0 t),
  λ w. c.remove_in_order.ensures.there.1
      (lists_within atom_total _ _ w),
)

pub returns-then-is_in_order-clause-taken : goal.returns-then-is_in_order-clause-taken
returns-then-is_in_order-clause-taken c = rw (← c.self.view_is)
    (taken_out c.self.inside.items.items c.args.atoms.now _ c.remove_in_order.result c.remove_in_order.ensures.taken)

pub returns-else-is_in_order-clause-there : goal.returns-else-is_in_order-clause-there
returns-else-is_in_order-clause-there c = rw (← c.self.view_is) (
  λ t. within_lists atom_total _ _ (c.remove_one_by_one.ensures.there.0 t),
  λ w. c.remove_one_by_one.ensures.there.1
      (lists_within atom_total _ _ w),
)

pub returns-else-is_in_order-clause-taken : goal.returns-else-is_in_order-clause-taken
returns-else-is_in_order-clause-taken c = rw (← c.self.view_is)
    (taken_out c.self.inside.items.items c.args.atoms.now _ c.remove_one_by_one.result
    c.remove_one_by_one.ensures.taken)
