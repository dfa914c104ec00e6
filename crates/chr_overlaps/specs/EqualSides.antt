-- Overlaps of which both steps of each case lead to one store.
use Rattle.std.specs.Prelude.{◌≡◌, ℤ, List, ◌++◌}
use Rattle.chr_base.specs.declared.rule.Rule.{Rule}
use Rattle.chr_base.specs.Rules.{atoms_at}
use Rattle.chr_base.specs.Stores.{store_of}
use Rattle.chr_confluence.specs.Unifiers.{Substitution}
use Rattle.chr_confluence.specs.Representatives.{left_at, right_at}

-- at all values of the classes: what the first rule puts in and the second takes away is what the second puts in and
-- the
-- first takes away
abbrev pub HaveEqualSides : Rule → Rule → Substitution → Type 0
HaveEqualSides r1 r2 σ =
    (zs : List ℤ)
    → store_of (atoms_at (left_at σ r1 r2 zs) r1.body.items ++ atoms_at (right_at σ r1 r2 zs) r2.removed.items)
    ≡ store_of (atoms_at (right_at σ r1 r2 zs) r2.body.items ++ atoms_at (left_at σ r1 r2 zs) r1.removed.items)
