-- What an edit of a bag's list makes of the bag.
use Rattle.std.proofs.Common.{◌≡◌, List}
use Rattle.std.specs.Bool.{IsTrue}
use Rattle.chr_base.specs.declared.atom.Atom.{Atom}
use Rattle.chr_base.specs.Atoms.{atom_cmp}
use Rattle.chr_base.proofs.Atoms.{atom_total, atom_exact}
use Rattle.chr_base.specs.FinBag.{put, without, of_list, add, is_rising}
use Rattle.chr_base.proofs.FinBags.{is_rising-put, is_rising-without, of_list-put, is_true, from_true}

pub rises_put : (xs ys : List Atom) (k : Atom) → put atom_cmp k xs ≡ ys → IsTrue (is_rising atom_cmp xs)
    → IsTrue (is_rising atom_cmp ys)
rises_put xs ys k e h = rw (← e) (is_true _ (is_rising-put atom_cmp atom_total k xs (from_true _ h)))

pub rises_without : (xs ys : List Atom) (k : Atom) → ys ≡ without atom_cmp k xs → IsTrue (is_rising atom_cmp xs)
    → IsTrue (is_rising atom_cmp ys)
rises_without xs ys k e h = rw e (is_true _ (is_rising-without atom_cmp k xs (from_true _ h)))

pub bag_put : (xs ys : List Atom) (k : Atom) → put atom_cmp k xs ≡ ys → of_list {R = atom_cmp} ys ≡ add (of_list xs) k
bag_put xs ys k e = rw (← e) (of_list-put atom_total atom_exact k xs)
