-- The text of items in groups, item by item.
use Rattle.std.specs.Prelude.{ℕ, List, [], ◌∷◌, ◌++◌, ◌==◌, if◌then◌else◌, Option, Some, None, codes, decimal}

-- What stands before an item with this key, where the item before it has the key of the option: a comma within a group,
-- and else the end of one and the beginning of the next.
abbrev pub opening : Option ℕ → ℕ → List ℕ
opening None k = codes "[[" ++ decimal k ++ codes ",["
opening (Some j) k = if j == k then codes "," else codes "]],[" ++ decimal k ++ codes ",["

-- what stands behind the last item
abbrev pub closing : Option ℕ → List ℕ
closing None = codes "[]"
closing (Some j) = codes "]]]"

-- the text of items from the one behind that of the option
abbrev pub grouped_from : {A : Type 0} → (A → ℕ) → (A → List ℕ) → Option ℕ → List A → List ℕ
grouped_from key text last [] = closing last
grouped_from key text last (x ∷ xs) = opening last (key x) ++ (text x ++ grouped_from key text (Some (key x)) xs)
