-- The lines of a text.
use Rattle.std.specs.Prelude.{◌≡◌, ℕ, ◌-◌, ◌⊎◌, false, take, drop, length, nat_eq, List, [], ◌∷◌, ◌++◌}
use Rattle.std.specs.Prelude.{if◌then◌else◌, ◌==◌}
use Rattle.std.specs.List.{AllByRecursion, ends_with, slice_split}

-- what stands before, between and after the line feeds
abbrev pub lines : List ℕ → List (List ℕ)
lines input = slice_split (λ b. b == 10) input

-- a line without the one carriage return at its end
abbrev pub without_return : List ℕ → List ℕ
without_return line = if ends_with nat_eq line (13 ∷ []) then take (length line - 1) line else line

-- no line ends within the bytes
abbrev pub HasNoFeed : List ℕ → Type 0
HasNoFeed bytes = AllByRecursion (λ b. (b == 10) ≡ false) bytes

-- nothing, or bytes of which the last is a line feed
abbrev pub AreWholeLines : List ℕ → Type 0
AreWholeLines front = (front ≡ []) ⊎ ((bytes : List ℕ) × (front ≡ bytes ++ 10 ∷ []))

-- the last n bytes of a text
abbrev pub last_bytes : ℕ → List ℕ → List ℕ
last_bytes n text = drop (length text - n) text
