-- What a set tells has values of 64 bits, since each operation has.
use Rattle.std.specs.Prelude.{Bool, true, false, cond, List, [], ◌∷◌}
use Rattle.std.proofs.Common.{arith}
use Rattle.std.specs.List.{AllByRecursion}
use Rattle.std.specs.FinMap as map
use Rattle.chr_base.specs.Values.{is_value, args_in, HasValues}
use Rattle.chr_base.specs.FinBag.{◌⊕◌}
use Rattle.chr_base.specs.Stores.{Store}
use Rattle.chr_base.proofs.Stores.{count_plus}
use Rattle.chr_base.proofs.Each.{each_empty, each_plus, each_within}
use Rattle.chr_ops.specs.Operations.{Operation, Operations, IsOperationBag, sum_of, told_store}
use Rattle.chr_ops.specs.working.Kept.{AreOperationBags}
use Rattle.chr_ops.specs.Joins.{union, fresh}
use Rattle.chr_ops.proofs.EntryLists.{each_entry}
use Rattle.chr_ops.proofs.Unions.{told_store-union}

sum_has_values : (os : List Operation) → AllByRecursion (λ o. IsOperationBag o.1) os → HasValues (sum_of os)
sum_has_values [] h = each_empty (args_in is_value)
sum_has_values (o ∷ os) h = each_plus (args_in is_value) o.1 (sum_of os) h.0.1 (sum_has_values os h.1)

pub told_has_values : (m : Operations) → AreOperationBags m → HasValues (told_store m)
told_has_values m h = sum_has_values (map.entries m) (each_entry IsOperationBag m h)

-- ---- unions

-- the atoms of each operation of a list have 64-bit values
abbrev pub HaveValues : List Operation → Type 0
HaveValues os = AllByRecursion (λ o. HasValues o.1) os

first_values : (s t : Store) → HasValues (s ⊕ t) → HasValues s
first_values s t h = each_within (args_in is_value) s (s ⊕ t) (λ q. (let e = count_plus s t q in omega (arith, e))) h

rest_values : (s t : Store) → HasValues (s ⊕ t) → HasValues t
rest_values s t h = each_within (args_in is_value) t (s ⊕ t) (λ q. (let e = count_plus s t q in omega (arith, e))) h

values_of_sum : (os : List Operation) → HasValues (sum_of os) → HaveValues os
values_of_sum [] h = tt
values_of_sum (o ∷ os) h = (first_values o.1 (sum_of os) h, values_of_sum os (rest_values o.1 (sum_of os) h))

-- the atoms of each entry of a set have 64-bit values, where those have that the set tells
pub entries_have_values : (m : Operations) → HasValues (told_store m) → HaveValues (map.entries m)
entries_have_values m h = values_of_sum (map.entries m) h

fresh_have_values : (os : List Operation) (m : Operations) → HaveValues os → HasValues (sum_of (fresh m os))
fresh_have_values [] m h = each_empty (args_in is_value)
fresh_have_values (o ∷ os) m h = by (map.contains_key m o.0) (fresh_have_values os m h.1)
    (fresh_have_values os (map.insert m o.0 o.1) h.1)
  where
    by : (b : Bool) → HasValues (sum_of (fresh m os)) → HasValues (sum_of (fresh (map.insert m o.0 o.1) os))
        → HasValues (sum_of (cond b (fresh m os) (o ∷ fresh (map.insert m o.0 o.1) os)))
    by true held new = held
    by false held new = each_plus (args_in is_value) o.1 (sum_of (fresh (map.insert m o.0 o.1) os)) h.0 new

pub union_has_values : (m : Operations) (os : List Operation) → HasValues (told_store m) → HaveValues os
    → HasValues (told_store (union m os))
union_has_values m os h g = rw (told_store-union m os)
    (each_plus (args_in is_value) (told_store m) (sum_of (fresh m os)) h (fresh_have_values os m g))
