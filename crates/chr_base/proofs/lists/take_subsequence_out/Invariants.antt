use Rattle.std.proofs.Common.{drop}
use Rattle.chr_base.specs.Atoms.{atom_cmp}
use Rattle.chr_base.specs.working.Subsequences.{without_subsequence}
use Rattle.chr_base.proofs.Subsequences.{IsAt}
use Rattle.chr_base.proofs.lists.take_subsequence_out.Given as goal

abbrev pub invariant-loop-i : goal.invariant-loop-i
invariant-loop-i l = IsAt l.items.items l.fn.items.items (drop l.taken l.atoms)
    (without_subsequence atom_cmp l.fn.items.items l.atoms) l.kept l.i
