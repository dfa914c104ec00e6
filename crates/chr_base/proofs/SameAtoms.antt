-- Two lists of atoms compared place by place.
use Rattle.std.proofs.Common.{◌≡◌, ℕ, suc, ◌+◌, ◌<◌, ◌≤◌, Bool, true, false, List, [], ◌∷◌, length, get_or, drop}
use Rattle.std.proofs.Common.{drop-cons, refl, sym, ap, ◌∙◌, arith}
use Rattle.std.specs.Prelude.{◌&&◌}
use Rattle.std.proofs.lemmas.List.{drop_all}
use Rattle.std.specs.Ordering.{eq_by_cmp}
use Rattle.chr_base.specs.declared.atom.Atom.{Atom}
use Rattle.chr_base.specs.Atoms.{atom_cmp}
use Rattle.chr_base.specs.working.AtomLists.{are_same}

-- lists of different lengths are not the same
pub other_lengths : (xs ys : List Atom) → (length xs ≡ length ys → ⊥) → false ≡ are_same xs ys
other_lengths [] [] h = absurd (h refl)
other_lengths [] (y ∷ ys) h = refl
other_lengths (x ∷ xs) [] h = refl
other_lengths (x ∷ xs) (y ∷ ys) h = by (eq_by_cmp atom_cmp x y) (other_lengths xs ys (λ e. h (ap suc e)))
  where
    by : (b : Bool) → false ≡ are_same xs ys → false ≡ (b && are_same xs ys)
    by true e = e
    by false e = refl

at_place : (xs ys : List Atom) (i : ℕ) (x y : Atom) → i < length xs → i < length ys → x ≡ get_or xs i x
    → y ≡ get_or ys i y
    → are_same (drop i xs) (drop i ys) ≡ (eq_by_cmp atom_cmp x y && are_same (drop (i + 1) xs) (drop (i + 1) ys))
at_place xs ys i x y l m is_x is_y =
    let s : i + 1 ≡ suc i = omega arith in
    let a = drop-cons xs i x l in
    let b = drop-cons ys i y m in
    rw (s, a, b) (λ j. eq_by_cmp atom_cmp (sym is_x j) (sym is_y j) && are_same (drop (suc i) xs) (drop (suc i) ys))

pub same_here : (xs ys : List Atom) (i : ℕ) (x y : Atom) → i < length xs → i < length ys → x ≡ get_or xs i x
    → y ≡ get_or ys i y → eq_by_cmp atom_cmp x y ≡ true
    → are_same (drop i xs) (drop i ys) ≡ are_same xs ys → are_same (drop (i + 1) xs) (drop (i + 1) ys) ≡ are_same xs ys
same_here xs ys i x y l m is_x is_y e h =
    sym (at_place xs ys i x y l m is_x is_y ∙ ap (λ b. b && are_same (drop (i + 1) xs) (drop (i + 1) ys)) e) ∙ h

pub other_here : (xs ys : List Atom) (i : ℕ) (x y : Atom) → i < length xs → i < length ys → x ≡ get_or xs i x
    → y ≡ get_or ys i y → eq_by_cmp atom_cmp x y ≡ false
    → are_same (drop i xs) (drop i ys) ≡ are_same xs ys → false ≡ are_same xs ys
other_here xs ys i x y l m is_x is_y e h =
    sym (at_place xs ys i x y l m is_x is_y ∙ ap (λ b. b && are_same (drop (i + 1) xs) (drop (i + 1) ys)) e) ∙ h

pub same_to_the_end : (xs ys : List Atom) (i : ℕ) → length xs ≤ i → length ys ≤ i → are_same (drop i xs) (drop i ys)
    ≡ are_same xs ys → true ≡ are_same xs ys
same_to_the_end xs ys i l m h = sym (λ j. are_same (drop_all i xs l j) (drop_all i ys m j)) ∙ h
