-- Atoms and ids are read from their own values.
use Rattle.std.proofs.Common.{◌≡◌, ℕ, ◌<◌, ◌≤◌, ◌^◌, ℤ, pos, negsuc, List, [], ◌∷◌, map, length, true, cond, ◌&&◌, Some}
use Rattle.std.proofs.Common.{None, Option, option_map, option_and_then, refl, ap, ◌∙◌, arith, FitsSigned, nat_le}
use Rattle.std.specs.Int.{w64}
use Rattle.std.specs.List.{AllByRecursion}
use Rattle.std.proofs.lemmas.List.{length-map}
use Rattle.std.proofs.lemmas.Bool.Decides.{nat_tests}
use Rattle.serde_json.specs.Data.{Data, string, array}
use Rattle.serde_json.specs.View.{items_of}
use Rattle.chr_base.specs.declared.limits.TheConstants.{MAX_OPERATION}
use Rattle.chr_base.specs.Traversals.{each}
use Rattle.chr_json.specs.Values.{integer_of, origin_of}
use Rattle.chr_json.specs.NamedAtoms.{NamedAtom, named_atom_from, named_atom_of, named_atoms_from, named_atoms_of}
use Rattle.chr_json.specs.NamedAtoms.{id_of}
use Rattle.chr_json.specs.Printed.{natural_data, argument_data, atom_data, atoms_data, ArgumentsFit}
use Rattle.chr_json.proofs.Arrays.{listed-items_of}

pub integer_back : (z : ℤ) → FitsSigned w64 z → integer_of (argument_data z) ≡ Some z
integer_back (pos n) h = grind (arith, nat_tests)
integer_back (negsuc n) h = refl

pub origin_back : (n : ℕ) → n < 2 ^ 32 → origin_of (natural_data n) ≡ Some n
origin_back n h = grind (arith, nat_tests)

-- each of what was written is read
pub each_back : {A : Type 0} (f : Data → Option A) (g : A → Data) (P : A → Type 0)
    (one : (x : A) → P x → f (g x) ≡ Some x) (xs : List A) → AllByRecursion P xs → each f (map g xs) ≡ Some xs
each_back f g P one [] h = refl
each_back f g P one (x ∷ xs) h =
    ap (λ o. option_and_then (λ y. option_map (λ ys. y ∷ ys) (each f (map g xs))) o) (one x h.0)
    ∙ ap (λ o. option_map (λ ys. x ∷ ys) o) (each_back f g P one xs h.1)

pub atom_back : (w : NamedAtom) → ArgumentsFit w → named_atom_of (atom_data w) ≡ Some w
atom_back w h =
    ap (λ l. named_atom_from l) (listed-items_of (string w.name ∷ map argument_data w.args))
    ∙ ap (λ o. option_map (λ zs. record { name = w.name; args = zs }) o)
    (each_back integer_of argument_data (FitsSigned w64) integer_back w.args h)

count_back : (ws : List NamedAtom) → 1 ≤ length ws → length ws ≤ MAX_OPERATION → nat_le 1 (length (map atom_data ws))
    && nat_le (length (map atom_data ws)) MAX_OPERATION ≡ true
count_back ws low high = rw length-map (grind (arith, nat_tests))

pub atoms_back : (ws : List NamedAtom) → 1 ≤ length ws → length ws ≤ MAX_OPERATION → AllByRecursion ArgumentsFit ws
    → named_atoms_of (atoms_data ws) ≡ Some ws
atoms_back ws low high h =
    ap named_atoms_from (listed-items_of (map atom_data ws))
    ∙ ap (λ b. cond b (each named_atom_of (map atom_data ws)) None) (count_back ws low high)
    ∙ each_back named_atom_of atom_data ArgumentsFit atom_back ws h

pub id_back : (o n : ℕ) → o < 2 ^ 32 → id_of (array (items_of (natural_data o ∷ natural_data n ∷ []))) ≡ Some (o, n)
id_back o n h = ap (option_and_then (λ x. Some (x, n))) (origin_back o h)
