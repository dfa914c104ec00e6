use Rattle.chr_base.proofs.Traversals.{front}
use Rattle.chr_base.specs.Traversals.{each}
use Rattle.std.proofs.Common.{◌≡◌, map, drop}
use Rattle.chr_syntax.specs.working.Forms.{atom_from}
use Rattle.chr_syntax.specs.working.Views.{tokens_view}
use Rattle.chr_syntax.specs.Views.{atom_view}
use Rattle.chr_syntax.proofs.form.atoms_from.Given as goal

abbrev pub invariant-loop-item : goal.invariant-loop-item
invariant-loop-item l = front (map atom_view l.atoms.items)
    (each atom_from (map tokens_view (drop l.item-index l.item-items))) ≡ each atom_from (map tokens_view l.item-items)
