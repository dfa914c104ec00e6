use Rattle.chr_confluence.proofs.SortLists.{new_values_cover, blocks_cover, order_types_cover, combinations_cover}
use Rattle.chr_confluence.proofs.sorted_laws.sorted_lists.Goals as goal

pub returns-clause-free : goal.returns-clause-free
returns-clause-free c = new_values_cover

pub returns-clause-equal : goal.returns-clause-equal
returns-clause-equal c = blocks_cover

pub returns-clause-ordered : goal.returns-clause-ordered
returns-clause-ordered c = order_types_cover

pub returns-clause-combinations : goal.returns-clause-combinations
returns-clause-combinations c = combinations_cover
