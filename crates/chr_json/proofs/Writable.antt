-- Values whose compact texts are read again: of arrays, of texts in UTF-8 and of whole numbers of 64 bits, down to a
-- depth.
use Rattle.std.proofs.Common.{◌≡◌, ℕ, ℤ, true, false, suc, ◌≤◌, ◌<◌, ◌^◌, pos, negsuc, List, [], ◌∷◌, ◌++◌, map, Some}
use Rattle.std.proofs.Common.{refl, arith, FitsSigned}
use Rattle.std.specs.Int.{w64}
use Rattle.std.specs.List.{AllByRecursion}
use Rattle.std.specs.Str.{IsUtf8}
use Rattle.std.proofs.lemmas.Fmt.{IsAscii-decimal}
use Rattle.std.proofs.lemmas.Str.{IsUtf8-append, IsUtf8-from_ascii}
use Rattle.json.proofs.Printed.Utf8.{IsUtf8-are_ascii, IsUtf8-quoted}
use Rattle.serde_json.specs.Data.{Data, string, depth, items_depth}
use Rattle.serde_json.specs.Read.{max_depth}
use Rattle.serde_json.specs.View.{items_of}
use Rattle.serde_json.specs.Written.{compact_text, items_text}
use Rattle.chr_json.specs.NamedAtoms.{NamedAtom}
use Rattle.chr_json.specs.Messages.{array_data}
use Rattle.chr_json.specs.Printed.{natural_data, argument_data, atom_data, atoms_data, ArgumentsFit}
use Rattle.chr_json.specs.Values.{json_in}
use Rattle.chr_json.proofs.Laws.{json_some}
use Rattle.chr_json.proofs.Reading.{IsPlain, ArePlain, texts_read}

pub record IsWritable (k : ℕ) (d : Data) : Type 0 where
  pub plain : IsPlain d
  pub shallow : depth d ≤ k
  pub utf8 : IsUtf8 (compact_text d)

-- the text of such a value is read as the value
pub writable_read : (k : ℕ) (d : Data) → IsWritable k d → k ≤ max_depth → json_in (compact_text d) ≡ Some d
writable_read k d h deep =
    let shallow : depth d ≤ max_depth = omega (arith, h.shallow, deep) in
    json_some (compact_text d) d h.utf8 (texts_read d h.plain shallow)

pub deeper : (j k : ℕ) (d : Data) → j ≤ k → IsWritable j d → IsWritable k d
deeper j k d more h = record { plain = h.plain; shallow = omega (arith, h.shallow); utf8 = h.utf8 }

-- ---- arrays

plain_items : (k : ℕ) (ds : List Data) → AllByRecursion (IsWritable k) ds → ArePlain (items_of ds)
plain_items k [] h = tt
plain_items k (d ∷ ds) h = (h.0.plain, plain_items k ds h.1)

shallow_items : (k : ℕ) (ds : List Data) → AllByRecursion (IsWritable k) ds → items_depth (items_of ds) ≤ k
shallow_items k [] h = omega arith
shallow_items k (d ∷ ds) h = omega (arith, h.0.shallow, shallow_items k ds h.1)

comma : IsUtf8 (44 ∷ [])
comma = IsUtf8-are_ascii (44 ∷ []) refl

later_utf8 : (k : ℕ) (ds : List Data) → AllByRecursion (IsWritable k) ds → IsUtf8 (items_text true (items_of ds))
later_utf8 k [] h = IsUtf8-are_ascii (93 ∷ []) refl
later_utf8 k (d ∷ ds) h =
    IsUtf8-append (44 ∷ []) (compact_text d ++ items_text true (items_of ds)) comma
    (IsUtf8-append (compact_text d) (items_text true (items_of ds)) h.0.utf8 (later_utf8 k ds h.1))

items_utf8 : (k : ℕ) (ds : List Data) → AllByRecursion (IsWritable k) ds → IsUtf8 (items_text false (items_of ds))
items_utf8 k [] h = IsUtf8-are_ascii (93 ∷ []) refl
items_utf8 k (d ∷ ds) h = IsUtf8-append (compact_text d) (items_text true (items_of ds)) h.0.utf8 (later_utf8 k ds h.1)

pub array_writable : (k : ℕ) (ds : List Data) → AllByRecursion (IsWritable k) ds → IsWritable (suc k) (array_data ds)
array_writable k ds h = record {
  plain = plain_items k ds h;
  shallow = omega (arith, shallow_items k ds h);
  utf8 = IsUtf8-append (91 ∷ []) (items_text false (items_of ds)) (IsUtf8-are_ascii (91 ∷ []) refl) (items_utf8 k ds h);
}

-- what is written of each
pub each_writable : {A : Type 0} (k : ℕ) (P : A → Type 0) (f : A → Data) → ((x : A) → P x → IsWritable k (f x))
    → (xs : List A) → AllByRecursion P xs → AllByRecursion (IsWritable k) (map f xs)
each_writable k P f one [] h = tt
each_writable k P f one (x ∷ xs) h = (one x h.0, each_writable k P f one xs h.1)

pub mapped_writable : {A : Type 0} (k : ℕ) (P : A → Type 0) (f : A → Data) → ((x : A) → P x → IsWritable k (f x))
    → (xs : List A) → AllByRecursion P xs → IsWritable (suc k) (array_data (map f xs))
mapped_writable k P f one xs h = array_writable k (map f xs) (each_writable k P f one xs h)

-- ---- numbers, names and atoms

pub natural_writable : (k n : ℕ) → n < 2 ^ 64 → IsWritable k (natural_data n)
natural_writable k n h = record { plain = h; shallow = omega arith; utf8 = IsUtf8-from_ascii _ (IsAscii-decimal n h) }

argument_writable : (k : ℕ) (z : ℤ) → FitsSigned w64 z → IsWritable k (argument_data z)
argument_writable k (pos n) h = let fits = h.sfits in natural_writable k n (omega (arith, fits))
argument_writable k (negsuc n) h =
    let fits = h.sfits in
    let small : suc n < 2 ^ 64 = omega (arith, fits) in
    record {
      plain = omega (arith, fits);
      shallow = omega arith;
      utf8 = IsUtf8-append (45 ∷ []) _ (IsUtf8-are_ascii (45 ∷ []) refl)
          (IsUtf8-from_ascii _ (IsAscii-decimal (suc n) small));
    }

pub name_writable : (k : ℕ) (name : List ℕ) → IsUtf8 name → IsWritable k (string name)
name_writable k name h = record { plain = tt; shallow = omega arith; utf8 = IsUtf8-quoted name h }

abbrev IsAtomWithinLimits : NamedAtom → Type 0
IsAtomWithinLimits w = IsUtf8 w.name × ArgumentsFit w

atom_writable : (w : NamedAtom) → IsAtomWithinLimits w → IsWritable 1 (atom_data w)
atom_writable w h = array_writable 0 (string w.name ∷ map argument_data w.args)
    (name_writable 0 w.name h.0, each_writable 0 (FitsSigned w64) argument_data (argument_writable 0) w.args h.1)

both : {A : Type 0} (P Q : A → Type 0) (xs : List A) → AllByRecursion P xs → AllByRecursion Q xs
    → AllByRecursion (λ x. P x × Q x) xs
both P Q [] h g = tt
both P Q (x ∷ xs) h g = ((h.0, g.0), both P Q xs h.1 g.1)

pub atoms_writable : (ws : List NamedAtom) → AllByRecursion (λ w. IsUtf8 w.name) ws → AllByRecursion ArgumentsFit ws
    → IsWritable 2 (atoms_data ws)
atoms_writable ws names args = mapped_writable 1 IsAtomWithinLimits atom_data atom_writable ws
    (both (λ w. IsUtf8 w.name) ArgumentsFit ws names args)
