-- The laws of records.
use Rattle.std.specs.Prelude.{◌≡◌, ◌≢◌, ℕ, ◌+◌, ◌<◌, List, [], ◌∷◌, ◌++◌, drop, length, All}
use Rattle.chr_records.specs.Checksums.{crc_of}
use Rattle.chr_records.specs.Damages.{line_count}
use Rattle.chr_records.specs.Records.{gate, bytes_of, records_of, size_of, AreTexts, IsFront, IsFaded}

-- what was written is read back, and then whatever the rest stands for
abbrev pub AreReadBack : Type 0
AreReadBack =
    (texts : List (List ℕ)) (rest : List ℕ) → AreTexts texts
    → records_of (bytes_of texts ++ rest) ≡ texts ++ records_of rest

-- a gate that is not open ends the records, whatever stands behind it
abbrev pub AreEnded : Type 0
AreEnded =
    (texts : List (List ℕ)) (b : ℕ) (rest : List ℕ) → AreTexts texts → b ≢ gate
    → records_of (bytes_of texts ++ b ∷ rest) ≡ texts

-- the bytes are those of their whole records, each a text, and an end that stands for nothing
pub record AreSplit (bytes : List ℕ) : Type 0 where
  pub end : List ℕ
  pub split : bytes ≡ bytes_of (records_of bytes) ++ end
  pub texts : AreTexts (records_of bytes)
  pub nothing : records_of end ≡ []

abbrev pub AllAreSplit : Type 0
AllAreSplit = (bytes : List ℕ) → AreSplit bytes

-- a front of the bytes stands for a front of the records
abbrev pub FrontsStand : Type 0
FrontsStand = (front rest : List ℕ) → IsFront (records_of front) (records_of (front ++ rest))

-- Whoever has read a front goes on at the end of its whole records, without the bytes before it.
abbrev pub ReadingGoesOn : Type 0
ReadingGoesOn =
    (front rest : List ℕ)
    → records_of (front ++ rest) ≡ records_of front ++ records_of (drop (size_of front) (front ++ rest))

-- where a byte is missing or blank, a front of the records is left
abbrev pub FadedAreFronts : Type 0
FadedAreFronts = (bytes whole : List ℕ) → IsFaded bytes whole → IsFront (records_of bytes) (records_of whole)

-- each record ends one line
abbrev pub LinesAreRecords : Type 0
LinesAreRecords =
    (texts : List (List ℕ)) (rest : List ℕ) → AreTexts texts
    → line_count (bytes_of texts ++ rest) ≡ length texts + line_count rest

-- messages that differ in one byte have different sums
abbrev pub ChangesAreTold : Type 0
ChangesAreTold =
    (front rest : List ℕ) (a b : ℕ) → All (λ x. x < 256) front → All (λ x. x < 256) rest → a < 256 → b < 256
    → crc_of (front ++ a ∷ rest) ≡ crc_of (front ++ b ∷ rest) → a ≡ b
