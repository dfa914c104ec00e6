-- Lists of atoms, compared.
use Rattle.std.specs.Prelude.{◌≡◌, ◌-◌, ◌≤◌, Bool, true, false, ◌&&◌, List, [], ◌∷◌}
use Rattle.std.specs.Ordering.{eq_by_cmp}
use Rattle.chr_base.specs.declared.atom.Atom.{Atom}
use Rattle.chr_base.specs.Atoms.{atom_cmp}
use Rattle.chr_base.specs.FinBag.{count_in}

-- the same atoms, place by place
abbrev pub are_same : List Atom → List Atom → Bool
are_same [] [] = true
are_same [] (b ∷ bs) = false
are_same (a ∷ as') [] = false
are_same (a ∷ as') (b ∷ bs) = eq_by_cmp atom_cmp a b && are_same as' bs

-- no atom stands in the first list more often than in the second
abbrev pub AreWithin : List Atom → List Atom → Type 0
AreWithin xs ys = (q : Atom) → count_in atom_cmp q xs ≤ count_in atom_cmp q ys

-- each atom stands in the third list as often as it does in the first more than in the second
abbrev pub AreLeft : List Atom → List Atom → List Atom → Type 0
AreLeft xs ys zs = (q : Atom) → count_in atom_cmp q zs ≡ count_in atom_cmp q xs - count_in atom_cmp q ys
