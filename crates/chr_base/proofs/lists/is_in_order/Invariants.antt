use Rattle.std.proofs.Common.{◌≡◌, ℕ, ◌+◌, ◌<◌, get_or, false}
use Rattle.std.specs.Ordering.{is_gt}
use Rattle.chr_base.specs.declared.atom.Atom.{Atom}
use Rattle.chr_base.specs.Atoms.{atom_cmp}
use Rattle.chr_base.proofs.lists.is_in_order.Given as goal

abbrev pub invariant-loop-i : goal.invariant-loop-i
invariant-loop-i l = (k : ℕ) (d : Atom) → k + 1 < l.i → is_gt (atom_cmp (get_or l.atoms k d) (get_or l.atoms (k + 1) d))
    ≡ false
