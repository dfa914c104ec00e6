-- Lines and columns of bytes, and places of bytes outside comments.
use Rattle.std.specs.Prelude.{◌≡◌, ◌<◌, ℕ, ◌+◌, ◌-◌, List, [], ◌∷◌, take, length, ◌==◌, ◌||◌, if◌then◌else◌, Bool}
use Rattle.std.specs.Prelude.{false, true, Option, Some, None, slice_get}
use Rattle.chr_syntax.specs.Bytes.{line_feed, percent, without_comments}

-- the number of line feeds
abbrev pub feeds : List ℕ → ℕ
feeds [] = 0
feeds (b ∷ bs) = if b == 10 then 1 + feeds bs else feeds bs

-- the number of bytes since the last line feed, where n stand since the last one before these
abbrev pub since : ℕ → List ℕ → ℕ
since n [] = n
since n (b ∷ bs) = if b == 10 then since 0 bs else since (n + 1) bs

-- lines and columns count from 1, columns in bytes
abbrev pub line_at : List ℕ → ℕ → ℕ
line_at text at = 1 + feeds (take at text)

abbrev pub column_at : List ℕ → ℕ → ℕ
column_at text at = 1 + since 0 (take at text)

-- whether a comment goes on after this byte
abbrev pub goes_on : Bool → ℕ → Bool
goes_on in_comment b = if b == line_feed then false else (in_comment || (b == percent))

abbrev pub place_from : Bool → ℕ → ℕ → List ℕ → Option ℕ
place_from in_comment left i [] = None
place_from in_comment left i (b ∷ bs) =
    if goes_on in_comment b then place_from true left (i + 1) bs
    else (if left == 0 then Some i else place_from false (left - 1) (i + 1) bs)

-- where the byte stands that is outside comments and has n such bytes before it
abbrev pub place_outside : List ℕ → ℕ → Option ℕ
place_outside text n = place_from false n 0 text

-- The byte at the place is the one that stands after n bytes outside comments, and before it stand just these.
abbrev pub PlacesAreOutside : Type 0
PlacesAreOutside =
    (text : List ℕ) (n i : ℕ) → place_outside text n ≡ Some i
    → (i < length text) × (slice_get text i ≡ slice_get (without_comments text) n)
    × (without_comments (take i text) ≡ take n (without_comments text))
