-- The order of ids.
use Rattle.std.specs.declared.cmp.Ordering.{Ordering}
use Rattle.std.specs.Ordering.{nat_cmp, ordering_then}
use Rattle.chr_ops.specs.declared.id.OpId.{OpId}

-- ids are ordered by origin, and then by number
abbrev pub id_cmp : OpId → OpId → Ordering
id_cmp a b = ordering_then (nat_cmp a.origin b.origin) (nat_cmp a.number b.number)
