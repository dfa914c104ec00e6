use Rattle.std.proofs.Common.{◌≡◌, ◌-◌, take}
use Rattle.std.specs.Bool.{IsTrue}
use Rattle.chr_base.specs.declared.atom.Atom.{Atom}
use Rattle.chr_base.specs.Atoms.{atom_cmp}
use Rattle.chr_base.specs.FinBag.{count_in, is_rising}
use Rattle.chr_base.proofs.lists.take_all_out.Given as goal

abbrev pub invariant-loop-atom : goal.invariant-loop-atom
invariant-loop-atom l = record {
  counts : (q : Atom) → count_in atom_cmp q l.items.items ≡ count_in atom_cmp q l.fn.items.items - count_in atom_cmp q
      (take l.atom-index l.atoms);
  rising : IsTrue (is_rising atom_cmp l.fn.items.items) → IsTrue (is_rising atom_cmp l.items.items);
}
