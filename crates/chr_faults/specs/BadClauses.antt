-- The bad clauses of a text, each with its least fault.
use Rattle.std.specs.Prelude.{◌≡◌, ◌<◌, ◌⊎◌, ◌+◌, ℕ, zero, suc, List, [], ◌∷◌, length, if◌then◌else◌, ◌==◌}
use Rattle.chr_read.specs.declared.reader.TheConstants.{MAX_TEXT}
use Rattle.chr_read.specs.declared.fault.Fault.{Fault}
use Rattle.chr_read.specs.Meanings.{Meaning}
use Rattle.chr_read.specs.ProgramTexts.{IsShort, IsProgramText, IsRefusedText}
use Rattle.chr_syntax.specs.Bytes.{is_stop, without_comments}
use Rattle.chr_faults.specs.declared.limits.TheConstants.{MAX_TOLD_FAULTS}
use Rattle.chr_faults.specs.declared.faults.BadClause.{BadClause}
use Rattle.chr_faults.specs.declared.faults.TextFaults.{TextFaults}
use Rattle.chr_faults.specs.declared.faults.TextFaults.TheVariants.{TooLong, Clauses}

-- the number of the clause after the byte, which stands in the clause n or is its full stop
abbrev pub clause_after : ℕ → ℕ → ℕ
clause_after n b = if is_stop b then n + 1 else n

-- The bytes, which begin in the clause n, without the clause k and its full stop.
abbrev pub apart_from : ℕ → ℕ → List ℕ → List ℕ
apart_from k n [] = []
apart_from k n (b ∷ bs) =
    if n == k then apart_from k (clause_after n b) bs else b ∷ apart_from k (clause_after n b) bs

-- the text without comments, and without the clause k, counted from 1, and its full stop
abbrev pub without_clause : ℕ → List ℕ → List ℕ
without_clause k text = apart_from k 1 (without_comments text)

abbrev pub IsProgram : List ℕ → Type 0
IsProgram text = (m : Meaning) × IsProgramText text m

-- the text is too long, or has a bad clause
abbrev pub IsRefused : List ℕ → Type 0
IsRefused text = (MAX_TEXT < length text) ⊎ ((n : Fault) × (k : ℕ) × IsRefusedText text n k)

-- The first bad clauses of a text, `limit` at most, each with its least fault. A clause after a bad one is read as if
-- the bad one were not there: it is the first bad clause of the text without those before it. These are `gone`
-- clauses, and count in its number.
abbrev pub AreBadClauses : (limit gone : ℕ) → List ℕ → List BadClause → Type 0
AreBadClauses zero gone text bad = bad ≡ []
AreBadClauses (suc limit) gone text [] = IsProgram text
AreBadClauses (suc limit) gone text (b ∷ more) = (k : ℕ) × IsRefusedText text b.fault k
    × (b.number ≡ gone + k) × AreBadClauses limit (gone + 1) (without_clause k text) more

-- what is wrong with a text
abbrev pub AreFaults : List ℕ → TextFaults → Type 0
AreFaults text TooLong = MAX_TEXT < length text
AreFaults text (Clauses bad) = AreBadClauses MAX_TOLD_FAULTS 0 text bad.items

-- the first is the one that the text is refused with; there is none only in a program
abbrev pub TellsFirstOf : List ℕ → List BadClause → Type 0
TellsFirstOf text [] = IsProgram text
TellsFirstOf text (b ∷ more) = IsRefusedText text b.fault b.number

abbrev pub TellsFirst : List ℕ → TextFaults → Type 0
TellsFirst text TooLong = MAX_TEXT < length text
TellsFirst text (Clauses bad) = TellsFirstOf text bad.items

-- each stands after the one before it
abbrev pub AreRising : List BadClause → Type 0
AreRising [] = Unit {0}
AreRising (b ∷ []) = Unit {0}
AreRising (b ∷ c ∷ more) = (b.number < c.number) × AreRising (c ∷ more)

abbrev pub AreInOrder : TextFaults → Type 0
AreInOrder TooLong = Unit {0}
AreInOrder (Clauses bad) = AreRising bad.items

-- ---- a text has one list of them

abbrev pub TextsHaveBadClauses : Type 0
TextsHaveBadClauses = (limit gone : ℕ) (text : List ℕ) → IsShort text
    → (bad : List BadClause) × AreBadClauses limit gone text bad

abbrev pub BadClausesAreOne : Type 0
BadClausesAreOne = (limit gone : ℕ) (text : List ℕ) (bad other : List BadClause)
    → AreBadClauses limit gone text bad → AreBadClauses limit gone text other → bad ≡ other
