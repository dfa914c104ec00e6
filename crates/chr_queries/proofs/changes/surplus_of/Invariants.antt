use Rattle.std.proofs.Common.{◌≡◌, ◌++◌, drop}
use Rattle.chr_base.specs.Atoms.{atom_cmp}
use Rattle.chr_queries.specs.working.Surplus.{surplus}
use Rattle.chr_queries.proofs.changes.surplus_of.Given as goal

abbrev pub invariant-loop-atom : goal.invariant-loop-atom
invariant-loop-atom l =
    l.more.items ++ surplus atom_cmp (drop l.atom-index l.atoms) l.rest ≡ surplus atom_cmp l.atoms l.others
