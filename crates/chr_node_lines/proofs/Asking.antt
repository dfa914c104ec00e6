-- What lines ask, from what the readers of their parts answer.
use Rattle.std.proofs.Common.{◌≡◌, ℕ, ◌+◌, ◌<◌, ◌^◌, ◌||◌, List, drop, Option, Some, None}
use Rattle.std.proofs.Common.{option_map, option_and_then, refl, ap, ◌∙◌}
use Rattle.std.specs.Prelude.{slice_get}
use Rattle.std.specs.Str.{bytes_eq}
use Rattle.std.proofs.lemmas.List.{drop_more}
use Rattle.std.proofs.lemmas.Option.{get_or_from_slice_get, slice_get_within}
use Rattle.serde_json.specs.Data.{Data}
use Rattle.chr_base.specs.ProgramTests.{Declaration}
use Rattle.chr_json.specs.Deltas.{named_operation, operation_with}
use Rattle.chr_json.specs.NamedAtoms.{named_atoms_of}
use Rattle.chr_json.specs.Printed.{id_data}
use Rattle.chr_json.proofs.Back.{id_back}
use Rattle.chr_node_lines.specs.Asked.{has_name}

-- the operation of the value of an id is that of the id
pub operation_is : (o n : ℕ) (name d : Data) → o < 2 ^ 32 → name ≡ id_data o n
    → operation_with name d ≡ option_map (named_operation o n) (named_atoms_of d)
operation_is o n name d small is =
    ap (λ x. operation_with x d) is
    ∙ ap (option_and_then (λ p. option_map (named_operation p.0 p.1) (named_atoms_of d))) (id_back o n small)

-- the name that is found at a place is the first of those that are left
pub has_step : (ds : List Declaration) (k : ℕ) (found name : List ℕ)
    → Some found ≡ option_map (λ d. d.name) (slice_get ds k)
    → has_name (drop k ds) name ≡ (bytes_eq found name || has_name (drop (k + 1) ds) name)
has_step ds k found name is = by (slice_get ds k) refl is
  where
    by : (o : Option Declaration) → slice_get ds k ≡ o → Some found ≡ option_map (λ d. d.name) o
        → has_name (drop k ds) name ≡ (bytes_eq found name || has_name (drop (k + 1) ds) name)
    by None there e = absurd (let none : ◌≡◌ {A = Option (List ℕ)} (Some found) None = e in cc)
    by (Some d) there e =
        ap (λ l. has_name l name) (drop_more ds k d (slice_get_within ds k d there))
        ∙ ap (λ d. bytes_eq d.name name || has_name (drop (k + 1) ds) name) (get_or_from_slice_get ds k d d there)
        ∙ ap (λ n. bytes_eq n name || has_name (drop (k + 1) ds) name) (let same : d.name ≡ found = cc in same)
