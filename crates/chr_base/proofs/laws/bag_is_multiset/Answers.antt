use Rattle.chr_base.specs.Atoms.{atom_cmp}
use Rattle.chr_base.proofs.FinBags.{of_list-none}
use Rattle.chr_base.proofs.Multisets.{list_counts_itself, list_counts_no_other, add_is_sum, within_is_part}
use Rattle.chr_base.proofs.Stores.{count_empty, count_plus, count_minus, same_store, store_of-items}
use Rattle.chr_base.proofs.laws.bag_is_multiset.Goals as goal

pub returns-clause-empty : goal.returns-clause-empty
returns-clause-empty c = λ q. count_empty q

pub returns-clause-no_atoms : goal.returns-clause-no_atoms
returns-clause-no_atoms c = of_list-none atom_cmp

pub returns-clause-itself : goal.returns-clause-itself
returns-clause-itself c = λ q xs. list_counts_itself q xs

pub returns-clause-no_other : goal.returns-clause-no_other
returns-clause-no_other c = λ q x xs h. list_counts_no_other q x xs h

pub returns-clause-sum : goal.returns-clause-sum
returns-clause-sum c = λ s t q. count_plus s t q

pub returns-clause-difference : goal.returns-clause-difference
returns-clause-difference c = λ s t q. count_minus s t q

pub returns-clause-determine : goal.returns-clause-determine
returns-clause-determine c = λ s t h. same_store s t h

pub returns-clause-items : goal.returns-clause-items
returns-clause-items c = λ s. store_of-items s

pub returns-clause-add : goal.returns-clause-add
returns-clause-add c = λ s a. add_is_sum s a

pub returns-clause-within : goal.returns-clause-within
returns-clause-within c = λ s t. within_is_part s t
