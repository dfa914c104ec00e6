use Rattle.std.proofs.Common.{map, ap, ◌∙◌}
use Rattle.chr_base.specs.FinBag.{◌⊕◌}
use Rattle.chr_plans.specs.Grids.{contents}
use Rattle.chr_printing.specs.working.Printing.{rows_at}
use Rattle.chr_printing.proofs.pools.add_tables.Goals as goal

pub returns : goal.returns
returns c = c.in_ok-add_all.ensures ∙ ap (λ s. contents (map rows_at c.args.tables.now.items) ⊕ s) c.in-Some.ensures
