-- The texts that are programs, and what is wrong with the others, in the grammar's own words.
use Rattle.std.specs.Prelude.{◌≡◌, ◌≤◌, ◌<◌, ◌+◌, ◌⊎◌, ℕ, List, [], ◌∷◌, ◌++◌, length, true, false, Result, Ok, Err}
use Rattle.std.specs.List.{list_all, slice_split}
use Rattle.chr_base.specs.declared.program.Program.{Program}
use Rattle.chr_syntax.specs.Bytes.{is_layout, is_stop, is_text, without_comments}
use Rattle.chr_syntax.specs.Clauses.{Form}
use Rattle.chr_syntax.specs.Lexemes.{AreClause}
use Rattle.chr_read.specs.declared.reader.TheConstants.{MAX_TEXT}
use Rattle.chr_read.specs.declared.fault.Fault.{Fault}
use Rattle.chr_read.specs.declared.fault.Fault.TheVariants as fault
use Rattle.chr_read.specs.declared.fault.ReadFault.{ReadFault}
use Rattle.chr_read.specs.declared.fault.ReadFault.TheVariants.{TooLong, Bad, Memory}
use Rattle.chr_read.specs.Numbers.{number_of_fault}
use Rattle.chr_read.specs.Meanings.{Meaning, Progress, nothing, meaning_of}
use Rattle.chr_read.specs.Faults.{fault_test}
use Rattle.chr_read.specs.Reading.{with_form}

-- ---- clauses

-- The clause has this fault, after what the clauses before it made. The faults of forms are looked for only where it
-- has one.
abbrev pub HasFault : Progress → List ℕ → Fault → Type 0
HasFault q c fault.BadByte = is_text c ≡ false
HasFault q c fault.Syntax = (f : Form) → ¬ (AreClause f c)
HasFault q c fault.Unended = ⊥
HasFault q c n = (f : Form) × AreClause f c × (fault_test n q f ≡ true)

-- what stands after the last full stop has this fault
abbrev pub HasRestFault : List ℕ → Fault → Type 0
HasRestFault c fault.BadByte = is_text c ≡ false
HasRestFault c fault.Unended = list_all is_layout c ≡ false
HasRestFault c n = ⊥

-- n is a fault for which Has holds, and the one with the least number
abbrev pub IsLeast : (Fault → Type 0) → Fault → Type 0
IsLeast Has n = Has n × ((m : Fault) → Has m → number_of_fault n ≤ number_of_fault m)

-- clauses one after another, each of some form and without a fault, lead from q to r
abbrev pub Makes : Progress → List (List ℕ) → Progress → Type 0
Makes q [] r = q ≡ r
Makes q (c ∷ cs) r = (f : Form) × AreClause f c × ((n : Fault) → ¬ (HasFault q c n)) × Makes (with_form q f) cs r

-- ---- texts

abbrev pub IsShort : List ℕ → Type 0
IsShort text = length text ≤ MAX_TEXT

-- The text is a program of this meaning: clauses without faults, and layout alone after the last full stop.
abbrev pub IsProgramText : List ℕ → Meaning → Type 0
IsProgramText text m = IsShort text × (cs : List (List ℕ)) × (rest : List ℕ) × (q : Progress)
    × (slice_split is_stop (without_comments text) ≡ cs ++ rest ∷ []) × Makes nothing cs q
    × ((n : Fault) → ¬ (HasRestFault rest n)) × (m ≡ q.meaning)

-- the least fault of a clause, or of the rest where no clause follows
abbrev pub IsLeastAt : List (List ℕ) → Progress → List ℕ → Fault → Type 0
IsLeastAt [] q c n = IsLeast (HasRestFault c) n
IsLeastAt (d ∷ ds) q c n = IsLeast (HasFault q c) n

-- The text is refused with the fault n at the clause k: the clauses before it have no faults, and n is its least.
abbrev pub IsRefusedText : List ℕ → Fault → ℕ → Type 0
IsRefusedText text n k = IsShort text
    × (before : List (List ℕ)) × (c : List ℕ) × (after : List (List ℕ)) × (q : Progress)
    × (slice_split is_stop (without_comments text) ≡ before ++ c ∷ after) × (k ≡ length before + 1)
    × Makes nothing before q × IsLeastAt after q c n

-- an answer says what the text is, and where memory ran out that it is short
abbrev pub IsAnswer : List ℕ → Result Program ReadFault → Type 0
IsAnswer text (Ok p) = IsProgramText text (meaning_of p)
IsAnswer text (Err TooLong) = MAX_TEXT < length text
IsAnswer text (Err (Bad n k)) = IsRefusedText text n k
IsAnswer text (Err Memory) = IsShort text

-- ---- a text has one answer

abbrev pub TextsHaveSomeAnswer : Type 0
TextsHaveSomeAnswer = (text : List ℕ)
    → ((m : Meaning) × IsProgramText text m) ⊎ ((n : Fault) × (k : ℕ) × IsRefusedText text n k)
    ⊎ (MAX_TEXT < length text)

-- of each meaning that a text has there is a program
abbrev pub MeaningsHavePrograms : Type 0
MeaningsHavePrograms = (text : List ℕ) (m : Meaning) → IsProgramText text m → (p : Program) × (meaning_of p ≡ m)

abbrev pub ProgramsHaveOneMeaning : Type 0
ProgramsHaveOneMeaning = (text : List ℕ) (m n : Meaning) → IsProgramText text m → IsProgramText text n → m ≡ n

abbrev pub RefusedTextsAreNoPrograms : Type 0
RefusedTextsAreNoPrograms = (text : List ℕ) (m : Meaning) (n : Fault) (k : ℕ)
    → IsProgramText text m → ¬ (IsRefusedText text n k)

abbrev pub TextsHaveOneFault : Type 0
TextsHaveOneFault = (text : List ℕ) (n m : Fault) (k j : ℕ)
    → IsRefusedText text n k → IsRefusedText text m j → (n ≡ m) × (k ≡ j)
