use Rattle.std.proofs.Common.{ap, ◌∙◌}
use Rattle.chr_tables.proofs.Lives.{table_index}
use Rattle.chr_tables.proofs.table.Table.add_index.Goals as goal

pub invariant_of-self-2 : goal.invariant_of-self-2
invariant_of-self-2 c =
    rw (c.push_reserved.ensures.items, c.in_ok-reserve.ensures.items)
    (table_index _ _ _ _ _ c.self.invariant (ap (λ t. t.rows) c.self.view_is ∙ c.requires) c.in_ok-index.ensures.rows)
