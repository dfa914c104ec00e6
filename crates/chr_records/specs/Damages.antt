-- Records with a right checksum, and what stands behind the last of them.
use Rattle.std.specs.Prelude.{◌≡◌, ℕ, ◌<◌, ◌==◌, List, ◌++◌, length, map, count_by}
use Rattle.chr_records.specs.Records.{line_feed, bytes_of, record_bytes, IsText, AreTexts}
use Rattle.chr_records.specs.Checksums.{text_of}
use Rattle.chr_records.specs.declared.damage.Damage.{Damage}

-- how many line feeds there are
abbrev pub line_count : List ℕ → ℕ
line_count bytes = count_by (λ b. b == line_feed) bytes

-- the record of this message stands in front, and then a rest
pub record BeginsWithMessage (bytes message rest : List ℕ) : Type 0 where
  pub split : bytes ≡ record_bytes (text_of message) ++ rest
  pub text : IsText message

abbrev pub BeginsWithNone : List ℕ → Type 0
BeginsWithNone bytes = (message rest : List ℕ) → BeginsWithMessage bytes message rest → ⊥

-- the records of these messages stand in front, and then a rest
pub record HasMessages (bytes : List ℕ) (messages : List (List ℕ)) (rest : List ℕ) : Type 0 where
  pub split : bytes ≡ bytes_of (map text_of messages) ++ rest
  pub texts : AreTexts messages

-- behind the records of some messages no line ends
pub record IsSound (bytes : List ℕ) : Type 0 where
  pub messages : List (List ℕ)
  pub rest : List ℕ
  pub front : HasMessages bytes messages rest
  pub none : line_count rest ≡ 0

-- behind the records of some messages, of which there are as many as can be, lines end
pub record IsDamaged (bytes : List ℕ) (damage : Damage) : Type 0 where
  pub messages : List (List ℕ)
  pub rest : List ℕ
  pub front : HasMessages bytes messages rest
  pub no_more : BeginsWithNone rest
  pub records : length messages ≡ damage.records
  pub place : length (bytes_of (map text_of messages)) ≡ damage.place
  pub lines : line_count rest ≡ damage.lines
  pub some : 0 < damage.lines
