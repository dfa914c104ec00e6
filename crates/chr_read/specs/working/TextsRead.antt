-- The meaning of a text as it is read: clause by clause, up to the first bad one.
use Rattle.std.specs.Prelude.{◌≡◌, ◌<◌, ◌+◌, ◌↔◌, ℕ, List, [], ◌∷◌, length, nat_le, Bool, Option, Some, None, Result}
use Rattle.std.specs.Prelude.{Ok, Err, if◌then◌else◌}
use Rattle.chr_syntax.specs.Bytes.{is_text, pieces, without_comments}
use Rattle.chr_syntax.specs.working.Forms.{clause_of}
use Rattle.chr_syntax.specs.Clauses.{Form}
use Rattle.chr_syntax.specs.Outcomes.{rest_fault}
use Rattle.chr_syntax.specs.declared.fault.RestFault.{RestFault}
use Rattle.chr_syntax.specs.declared.fault.RestFault.TheVariants as rest
use Rattle.chr_read.specs.declared.reader.TheConstants.{MAX_TEXT}
use Rattle.chr_read.specs.declared.fault.Fault.{Fault}
use Rattle.chr_read.specs.declared.fault.Fault.TheVariants as fault
use Rattle.chr_read.specs.declared.fault.ReadFault.{ReadFault}
use Rattle.chr_read.specs.declared.fault.ReadFault.TheVariants.{TooLong, Bad}
use Rattle.chr_read.specs.Faults.{fault_test}
use Rattle.chr_read.specs.Meanings.{Meaning, Progress, nothing}
use Rattle.chr_read.specs.Reading.{with_form}
use Rattle.chr_read.specs.ProgramTexts.{IsProgramText, IsRefusedText}

-- ---- the least fault

-- the faults of forms by their numbers
abbrev pub by_number : List Fault
by_number =
    fault.Propagation ∷ fault.Undeclared ∷ fault.DeclaredTwice ∷ fault.Limit ∷ fault.Unbound ∷ fault.NumberRange
    ∷ fault.WeightFault ∷ []

-- the first that passes
abbrev pub first_of : (Fault → Bool) → List Fault → Option Fault
first_of p [] = None
first_of p (n ∷ ns) = if p n then Some n else first_of p ns

-- the least fault of a clause of this form
abbrev pub fault_in : Progress → Form → Option Fault
fault_in q f = first_of (λ n. fault_test n q f) by_number

-- ---- a clause

abbrev pub checked : Progress → Form → Option Fault → Result Progress Fault
checked q f None = Ok (with_form q f)
checked q f (Some n) = Err n

abbrev pub formed : Progress → Option Form → Result Progress Fault
formed q None = Err fault.Syntax
formed q (Some f) = checked q f (fault_in q f)

-- a clause, after what stands before it
unfoldable pub clause_read : Progress → List ℕ → Result Progress Fault
clause_read q bytes = if is_text bytes then formed q (clause_of bytes) else Err fault.BadByte

abbrev pub fault_of_rest : Option RestFault → Option Fault
fault_of_rest None = None
fault_of_rest (Some rest.BadByte) = Some fault.BadByte
fault_of_rest (Some rest.Unended) = Some fault.Unended

abbrev pub with_rest : Progress → Option Fault → Result Progress Fault
with_rest q None = Ok q
with_rest q (Some n) = Err n

-- what stands after the last full stop
unfoldable pub rest_read : Progress → List ℕ → Result Progress Fault
rest_read q bytes = with_rest q (fault_of_rest (rest_fault bytes))

-- ---- a text

-- a fault is that of the clause with this number
abbrev pub in_clause : ℕ → Result Progress Fault → Result Progress ReadFault
in_clause k (Ok q) = Ok q
in_clause k (Err n) = Err (Bad n k)

infixl 10 ◌>>=◌
abbrev pub ◌>>=◌ : {A B E : Type 0} → Result A E → (A → Result B E) → Result B E
(Ok x) >>= f = f x
(Err e) >>= f = Err e

-- The clauses in order, the first of them with the number k, and last of all what stands after the last full stop: all
-- that they mean, or the first bad clause with its least fault.
abbrev pub pieces_read : ℕ → Progress → List (List ℕ) → Result Progress ReadFault
pieces_read k q [] = Ok q
pieces_read k q (c ∷ []) = in_clause k (rest_read q c)
pieces_read k q (c ∷ d ∷ cs) = in_clause k (clause_read q c) >>= λ r. pieces_read (k + 1) r (d ∷ cs)

abbrev pub meaning_in : Result Progress ReadFault → Result Meaning ReadFault
meaning_in r = r >>= λ q. Ok q.meaning

-- the meaning of a text
unfoldable pub text_read : List ℕ → Result Meaning ReadFault
text_read text =
    if nat_le (length text) MAX_TEXT then meaning_in (pieces_read 1 nothing (pieces (without_comments text)))
    else Err TooLong

-- ---- what it says of a text

-- what is read as a program is one, and each program is read
abbrev pub ProgramsAreRead : Type 0
ProgramsAreRead = (text : List ℕ) (m : Meaning) → text_read text ≡ Ok m ↔ IsProgramText text m

-- what is refused has that fault at that clause, and each such text is refused
abbrev pub BadTextsAreRefused : Type 0
BadTextsAreRefused = (text : List ℕ) (n : Fault) (k : ℕ) → text_read text ≡ Err (Bad n k) ↔ IsRefusedText text n k

abbrev pub LongTextsAreRefused : Type 0
LongTextsAreRefused = (text : List ℕ) → text_read text ≡ Err TooLong ↔ MAX_TEXT < length text
