use Rattle.std.proofs.Common.{rules}
use Rattle.std.specs.Ordering.{is_lt}
use Rattle.std.proofs.lemmas.Fn.{always_returns_same}
use Rattle.std.proofs.lemmas.List.MinMax.{ranks_by}
use Rattle.chr_ops.specs.Ids.{id_cmp}
use Rattle.chr_exchange.proofs.Sorting.{lent_total, sorted_entries}
use Rattle.chr_exchange.proofs.order.in_id_order.Goals as goal

pub returns : goal.returns
returns c =
    sorted_entries c.args.ops.now c.in_ok-sorted.sorted.items c.sort_unstable_by.new.self.items c.requires
    c.in_ok-sorted.ensures c.sort_unstable_by.ensures.permutation
    (c.sort_unstable_by.ensures.sorted (λ x y. is_lt (id_cmp x.now.0 y.now.0)) (ranks_by lent_total (λ x. x))
    (always_returns_same _ _ _ (λ a r f h. search rules)))
