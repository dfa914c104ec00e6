-- A log's bytes as a list of texts: each behind a gate, and ended by a line feed.
use Rattle.std.specs.Prelude.{◌≡◌, ◌≢◌, ◌⊎◌, ℕ, List, [], ◌∷◌, ◌++◌, length, map, ◌==◌, if◌then◌else◌, Vec}
use Rattle.std.specs.Prelude.{Option, Some, None, ⊤}
use Rattle.std.specs.declared.alloc.Global.{Global}

-- The gate of a record that counts, '='; what stands for a gate that is closed, and for a byte that is not there yet;
-- and the end of a text.
abbrev pub gate : ℕ
gate = 61

abbrev pub blank : ℕ
blank = 0

abbrev pub line_feed : ℕ
line_feed = 10

-- what a list of vectors holds
abbrev pub texts_in : List (Vec ℕ Global) → List (List ℕ)
texts_in vs = map (λ v. v.items) vs

-- the bytes of a text's record
abbrev pub record_bytes : List ℕ → List ℕ
record_bytes text = gate ∷ text ++ line_feed ∷ []

abbrev pub bytes_of : List (List ℕ) → List ℕ
bytes_of [] = []
bytes_of (text ∷ texts) = record_bytes text ++ bytes_of texts

-- The texts of the whole records, read from between two records, or from behind this front of a text. A closed gate, a
-- blank in a text and the end of the bytes end them.
abbrev pub read_from : Option (List ℕ) → List ℕ → List (List ℕ)
read_from s [] = []
read_from None (b ∷ bytes) = if b == gate then read_from (Some []) bytes else []
read_from (Some text) (b ∷ bytes) =
    if b == line_feed then text ∷ read_from None bytes
    else if b == blank then []
    else read_from (Some (text ++ b ∷ [])) bytes

abbrev pub records_of : List ℕ → List (List ℕ)
records_of bytes = read_from None bytes

-- how many bytes the whole records take
abbrev pub size_of : List ℕ → ℕ
size_of bytes = length (bytes_of (records_of bytes))

-- the bytes are records, and nothing behind them
abbrev pub IsWhole : List ℕ → Type 0
IsWhole bytes = bytes ≡ bytes_of (records_of bytes)

-- no line feed and no blank stands in the text
abbrev pub IsText : List ℕ → Type 0
IsText [] = ⊤
IsText (b ∷ bytes) = (b ≢ line_feed) × (b ≢ blank) × IsText bytes

abbrev pub AreTexts : List (List ℕ) → Type 0
AreTexts [] = ⊤
AreTexts (text ∷ texts) = IsText text × AreTexts texts

-- xs is a front of ys
abbrev pub IsFront : {A : Type 0} → List A → List A → Type 0
IsFront {A} xs ys = (more : List A) × (ys ≡ xs ++ more)

-- the first bytes are those of `whole`, up to its end, or up to a blank
abbrev pub IsFaded : List ℕ → List ℕ → Type 0
IsFaded [] whole = ⊤
IsFaded (b ∷ bytes) [] = b ≡ blank
IsFaded (b ∷ bytes) (w ∷ whole) = (b ≡ blank) ⊎ ((b ≡ w) × IsFaded bytes whole)
