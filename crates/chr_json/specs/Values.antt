-- The parts of a JSON value.
use Rattle.std.specs.Prelude.{ℕ, ◌^◌, ℤ, List, [], ◌∷◌, ◌++◌, Bool, false, nat_lt, if◌then◌else◌, Option, Some, None}
use Rattle.std.specs.Prelude.{option_map, option_and_then}
use Rattle.std.specs.Str.{bytes_eq, is_utf8}
use Rattle.std.specs.Option.{option_map_or}
use Rattle.serde_json.specs.Data.{Data, Items, no_items, item}
use Rattle.serde_json.specs.Find.{as_array, as_str, as_number, as_u64, as_i64}
use Rattle.serde_json.specs.Read.{read}

-- the JSON value that the bytes are
abbrev pub json_in : List ℕ → Option Data
json_in bytes = if is_utf8 bytes then read bytes else None

abbrev pub listed : Items → List Data
listed no_items = []
listed (item d ds) = d ∷ listed ds

-- the elements of an array
abbrev pub elements : Data → Option (List Data)
elements d = option_map listed (as_array d)

-- a whole number of 64 bits without a sign
abbrev pub natural_of : Data → Option ℕ
natural_of d = option_and_then as_u64 (as_number d)

-- a whole number of 64 bits with a sign
abbrev pub integer_of : Data → Option ℤ
integer_of d = option_and_then as_i64 (as_number d)

abbrev pub within_32_bits : ℕ → Option ℕ
within_32_bits n = if nat_lt n (2 ^ 32) then Some n else None

-- a whole number of 32 bits without a sign
abbrev pub origin_of : Data → Option ℕ
origin_of d = option_and_then within_32_bits (natural_of d)

-- whether the value is this text
abbrev pub is_string : List ℕ → Data → Bool
is_string name d = option_map_or (λ s. bytes_eq s name) (as_str d) false

-- what f reads in each, one after another, where it reads each
abbrev pub joined : {A B : Type 0} → (A → Option (List B)) → List A → Option (List B)
joined f [] = Some []
joined f (x ∷ xs) = option_and_then (λ ys. option_map (λ zs. ys ++ zs) (joined f xs)) (f x)
