-- Summaries and deltas as JSON values and as compact texts, and that these are read again.
use Rattle.std.specs.Prelude.{◌≡◌, ℕ, ◌<◌, ◌≤◌, ◌^◌, List, [], ◌∷◌, length, map, ◌==◌, if◌then◌else◌, Some}
use Rattle.std.specs.Prelude.{option_and_then}
use Rattle.std.specs.List.{AllByRecursion}
use Rattle.std.specs.Str.{IsUtf8}
use Rattle.serde_json.specs.Data.{Data, array}
use Rattle.serde_json.specs.View.{items_of}
use Rattle.serde_json.specs.Written.{compact_text}
use Rattle.chr_ops.specs.declared.range.IdRange.{IdRange}
use Rattle.chr_json.specs.Values.{json_in}
use Rattle.chr_json.specs.NamedAtoms.{IsOperationLength}
use Rattle.chr_json.specs.Printed.{natural_data, id_data, atoms_data, ArgumentsFit}
use Rattle.chr_json.specs.Summaries.{summary_of}
use Rattle.chr_json.specs.Deltas.{NamedOperation, delta_of}

abbrev pub array_data : List Data → Data
array_data ds = array (items_of ds)

-- items with their key, before groups of others
abbrev pub before_groups : {A : Type 0} → ℕ → A → List (ℕ × List A) → List (ℕ × List A)
before_groups k x [] = (k, x ∷ []) ∷ []
before_groups k x (g ∷ gs) = if k == g.0 then (k, x ∷ g.1) ∷ gs else (k, x ∷ []) ∷ g ∷ gs

-- items in groups: those of one key that stand side by side, with this key
abbrev pub groups : {A : Type 0} → (A → ℕ) → List A → List (ℕ × List A)
groups key [] = []
groups key (x ∷ xs) = before_groups (key x) x (groups key xs)

-- a group as an array of its key and an array of its items
abbrev pub group_data : {A : Type 0} → (A → Data) → ℕ × List A → Data
group_data written g = array_data (natural_data g.0 ∷ array_data (map written g.1) ∷ [])

-- items as an array of their groups
abbrev pub grouped_data : {A : Type 0} → (A → ℕ) → (A → Data) → List A → Data
grouped_data key written xs = array_data (map (group_data written) (groups key xs))

-- ---- summaries: [[origin,[[lo,hi],..]],..]

abbrev pub range_data : IdRange → Data
range_data r = array_data (natural_data r.lo ∷ natural_data r.hi ∷ [])

abbrev pub summary_data : List IdRange → Data
summary_data rs = grouped_data (λ r. r.origin) range_data rs

-- ---- deltas of version 1: [[[origin,number],[atom,..]],..]

abbrev pub operation_data : NamedOperation → Data
operation_data o = array_data (id_data o.id.origin o.id.number ∷ atoms_data o.atoms ∷ [])

abbrev pub delta_1_data : List NamedOperation → Data
delta_1_data os = array_data (map operation_data os)

-- ---- deltas of version 2: [2,[[origin,[[number,[atom,..]],..]],..]]

abbrev pub numbered_data : NamedOperation → Data
numbered_data o = array_data (natural_data o.id.number ∷ atoms_data o.atoms ∷ [])

abbrev pub delta_2_data : List NamedOperation → Data
delta_2_data os = array_data (natural_data 2 ∷ grouped_data (λ o. o.id.origin) numbered_data os ∷ [])

-- ---- the texts of messages within their limits are read as the messages

-- the origin has 32 bits and the numbers 64, and the range has an id
pub record IsRangeWithinLimits (r : IdRange) : Type 0 where
  pub origin : r.origin < 2 ^ 32
  pub some : r.lo ≤ r.hi
  pub hi : r.hi < 2 ^ 64

-- the origin has 32 bits and the number 64, there are as many atoms as an operation has, their names are UTF-8, and
-- their arguments have 64 bits
pub record IsOperationWithinLimits (o : NamedOperation) : Type 0 where
  pub origin : o.id.origin < 2 ^ 32
  pub number : o.id.number < 2 ^ 64
  pub length : IsOperationLength (length o.atoms)
  pub names : AllByRecursion (λ w. IsUtf8 w.name) o.atoms
  pub arguments : AllByRecursion ArgumentsFit o.atoms

abbrev pub SummaryTextsAreRead : Type 0
SummaryTextsAreRead =
    (rs : List IdRange) → AllByRecursion IsRangeWithinLimits rs
    → option_and_then summary_of (json_in (compact_text (summary_data rs))) ≡ Some rs

abbrev pub Delta1TextsAreRead : Type 0
Delta1TextsAreRead =
    (os : List NamedOperation) → AllByRecursion IsOperationWithinLimits os
    → option_and_then delta_of (json_in (compact_text (delta_1_data os))) ≡ Some os

abbrev pub Delta2TextsAreRead : Type 0
Delta2TextsAreRead =
    (os : List NamedOperation) → AllByRecursion IsOperationWithinLimits os
    → option_and_then delta_of (json_in (compact_text (delta_2_data os))) ≡ Some os
