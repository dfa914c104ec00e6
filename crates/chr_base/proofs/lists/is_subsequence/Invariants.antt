use Rattle.std.proofs.Common.{◌≡◌, drop}
use Rattle.chr_base.specs.Atoms.{atom_cmp}
use Rattle.chr_base.specs.working.Subsequences.{is_subsequence}
use Rattle.chr_base.proofs.lists.is_subsequence.Given as goal

abbrev pub invariant-loop-item : goal.invariant-loop-item
invariant-loop-item l = is_subsequence atom_cmp (drop l.item-index l.items) l.wanted
    ≡ is_subsequence atom_cmp l.items l.atoms
