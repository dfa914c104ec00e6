-- A text has one answer.
use Rattle.std.proofs.Common.{◌≡◌, ◌<◌, ◌⊎◌, ℕ, length, sym, ◌∙◌, inl, inr}
use Rattle.std.specs.Prelude.{Result, Ok, Err}
use Rattle.chr_read.specs.Meanings.{Meaning}
use Rattle.chr_read.specs.declared.fault.ReadFault.{ReadFault}
use Rattle.chr_read.specs.declared.fault.Fault.{Fault}
use Rattle.chr_read.specs.declared.fault.ReadFault.TheVariants.{Bad, Memory, TooLong}
use Rattle.chr_read.specs.declared.reader.TheConstants.{MAX_TEXT}
use Rattle.chr_read.specs.ProgramTexts.{IsProgramText, IsRefusedText, ProgramsHaveOneMeaning, RefusedTextsAreNoPrograms}
use Rattle.chr_read.specs.ProgramTexts.{TextsHaveOneFault, TextsHaveSomeAnswer}
use Rattle.chr_read.specs.working.TextsRead.{text_read}
use Rattle.chr_read.proofs.TextsRead.{TextMeans, text_means, programs, refused}

pub some_answer : TextsHaveSomeAnswer
some_answer text = by (text_read text) (text_means text)
  where
    by : (r : Result Meaning ReadFault) → TextMeans text r
        → ((m : Meaning) × IsProgramText text m) ⊎ ((n : Fault) × (k : ℕ) × IsRefusedText text n k)
        ⊎ (MAX_TEXT < length text)
    by (Ok m) h = inl (m, h)
    by (Err TooLong) h = inr (inr h)
    by (Err Memory) h = absurd h
    by (Err (Bad n k)) h = inr (inl (n, k, h))

pub one_meaning : ProgramsHaveOneMeaning
one_meaning text m n p q =
    let e : ◌≡◌ {A = Result Meaning ReadFault} (Ok m) (Ok n) = sym ((programs text m).1 p) ∙ (programs text n).1 q in cc

pub apart : RefusedTextsAreNoPrograms
apart text m n k p q =
    absurd (let e : ◌≡◌ {A = Result Meaning ReadFault} (Ok m) (Err (Bad n k)) = sym ((programs text m).1 p)
    ∙ (refused text n k).1 q in cc)

pub one_fault : TextsHaveOneFault
one_fault text n m k j p q =
    let e : ◌≡◌ {A = Result Meaning ReadFault} (Err (Bad n k)) (Err (Bad m j)) = sym ((refused text n k).1 p)
    ∙ (refused text m j).1 q in (cc, cc)
