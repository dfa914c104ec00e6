use Rattle.std.proofs.Common.{rules}
use Rattle.std.specs.Ordering.{is_lt}
use Rattle.std.proofs.lemmas.List.MinMax.{ranks_by}
use Rattle.std.proofs.lemmas.Fn.{always_returns_same}
use Rattle.chr_base.specs.Atoms.{atom_cmp}
use Rattle.chr_base.proofs.Atoms.{atom_total}
use Rattle.chr_base.proofs.Sorting.{rising_from_sorted, same_multiset}
use Rattle.chr_base.proofs.lists.put_in_order.Goals as goal

pub returns-clause-rising : goal.returns-clause-rising
returns-clause-rising c =
    rising_from_sorted _ (c.sort_unstable_by.ensures.sorted (λ x y. is_lt (atom_cmp x y)) (ranks_by atom_total (λ x. x))
    (always_returns_same _ _ _ (λ a r f' h. search rules)))

pub returns-clause-same : goal.returns-clause-same
returns-clause-same c = same_multiset _ _ c.sort_unstable_by.ensures.permutation
