-- Atoms chosen from a list by their indices.
use Rattle.std.specs.Prelude.{◌≡◌, ℕ, Bool, true, not, ◌&&◌, List, [], ◌∷◌, ◌++◌, map, length, get_or, nat_eq, nat_lt}
use Rattle.std.specs.Prelude.{IsTrue}
use Rattle.std.specs.List.{list_any}
use Rattle.std.specs.declared.cmp.Ordering.TheVariants.{Less}
use Rattle.std.specs.Ordering.{nat_cmp}
use Rattle.std.specs.Cmp.Lexicographic.{slice_cmp}
use Rattle.chr_base.specs.declared.atom.Atom.{Atom}
use Rattle.chr_base.specs.declared.rule.Rule.{Rule}
use Rattle.chr_base.specs.Atoms.{no_atom}
use Rattle.chr_base.specs.Rules.{HasInstance, has_shape, heads_of, no_pattern}

-- the atoms at these indices, in their order
abbrev pub chosen_atoms : List Atom → List ℕ → List Atom
chosen_atoms items is = map (λ i. get_or items i no_atom) is

-- the indices are within the list, all different, and none of them is among those taken
abbrev pub is_choice : List Atom → List ℕ → List ℕ → Bool
is_choice items taken [] = true
is_choice items taken (i ∷ is) =
    nat_lt i (length items) && not (list_any (λ j. nat_eq j i) taken) && is_choice items (taken ++ i ∷ []) is

-- no choice that goes on from these indices makes an instance of the rule
abbrev pub NoCompletion : Rule → List Atom → List ℕ → Type 0
NoCompletion r items is =
    (js : List ℕ) → IsTrue (is_choice items is js) → ¬ HasInstance r (chosen_atoms items (is ++ js))

-- the choice js goes on from the indices is, and none that does and comes before it makes an instance
pub record IsFirstChoice (r : Rule) (items : List Atom) (is js : List ℕ) : Type 0 where
  pub more : List ℕ
  pub whole : js ≡ is ++ more
  pub none : (ks : List ℕ) → slice_cmp nat_cmp ks more ≡ Less → IsTrue (is_choice items is ks)
      → ¬ HasInstance r (chosen_atoms items (is ++ ks))

-- the pattern at the head place n, counted from 0, has the shape of the atom
abbrev pub has_shape_at : Rule → ℕ → Atom → Bool
has_shape_at r n a = has_shape (get_or (heads_of r) n no_pattern) a
