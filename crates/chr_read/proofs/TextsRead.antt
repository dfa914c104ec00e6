-- The clauses of a text, one after another, in the grammar's own words.
use Rattle.std.proofs.Common.{◌≡◌, ◌+◌, ◌<◌, ℕ, List, [], ◌∷◌, ◌++◌, length, Bool, true, false, cond, nat_le, Result}
use Rattle.std.proofs.Common.{Ok, Err, refl, sym, ap, ◌∙◌, subst, arith}
use Rattle.std.proofs.lemmas.Bool.Decides.{nat_tests}
use Rattle.chr_base.specs.declared.program.Program.{Program}
use Rattle.chr_syntax.specs.Bytes.{pieces, without_comments}
use Rattle.chr_syntax.specs.Clauses.{Form}
use Rattle.chr_syntax.specs.Lexemes.{AreClause}
use Rattle.chr_read.specs.declared.reader.TheConstants.{MAX_TEXT}
use Rattle.chr_read.specs.declared.fault.Fault.{Fault}
use Rattle.chr_read.specs.declared.fault.ReadFault.{ReadFault}
use Rattle.chr_read.specs.declared.fault.ReadFault.TheVariants.{TooLong, Bad, Memory}
use Rattle.chr_read.specs.Meanings.{Meaning, Progress, nothing, meaning_of}
use Rattle.chr_read.specs.Reading.{with_form}
use Rattle.chr_read.specs.working.TextsRead.{clause_read, rest_read, in_clause, pieces_read, meaning_in, text_read}
use Rattle.chr_read.specs.working.TextsRead.{◌>>=◌, ProgramsAreRead, BadTextsAreRefused, LongTextsAreRefused}
use Rattle.chr_read.specs.ProgramTexts.{HasFault, HasRestFault, Makes, IsShort, IsProgramText, IsLeastAt, IsRefusedText}
use Rattle.chr_read.specs.ProgramTexts.{IsAnswer}
use Rattle.chr_read.specs.working.Outcomes.{IsReadAs}
use Rattle.chr_syntax.proofs.Texts.{some_piece}
use Rattle.chr_read.proofs.LeastFaults.{ClauseMeans, clause_means, RestMeans, rest_means, good, bad, good_rest}
use Rattle.chr_read.proofs.LeastFaults.{bad_rest}

abbrev pub Pieces : Type 0
Pieces = List (List ℕ)

-- ---- what is read

abbrev pub PiecesMean : ℕ → Progress → Pieces → Result Progress ReadFault → Type 0
PiecesMean k q l (Ok r) = (cs : Pieces) × (rest : List ℕ) × (l ≡ cs ++ rest ∷ []) × Makes q cs r
    × ((n : Fault) → ¬ (HasRestFault rest n))
PiecesMean k q l (Err TooLong) = ⊥
PiecesMean k q l (Err Memory) = ⊥
PiecesMean k q l (Err (Bad n j)) = (before : Pieces) × (c : List ℕ) × (after : Pieces) × (p : Progress)
    × (l ≡ before ++ c ∷ after) × (j ≡ length before + k) × Makes q before p × IsLeastAt after p c n

at_end : (k : ℕ) (q : Progress) (c : List ℕ) (o : Result Progress Fault) → RestMeans q c o
    → PiecesMean k q (c ∷ []) (in_clause k o)
at_end k q c (Ok r) m = ([], c, refl, m.1, m.0)
at_end k q c (Err n) m = ([], c, [], q, refl, omega arith, refl, m)

before_more : (k : ℕ) (q r : Progress) (c : List ℕ) (l : Pieces) (f : Form) → AreClause f c
    → ((n : Fault) → ¬ (HasFault q c n)) → with_form q f ≡ r
    → (o : Result Progress ReadFault) → PiecesMean (k + 1) r l o → PiecesMean k q (c ∷ l) o
before_more k q r c l f a none is (Ok s) m =
    let P : Progress → Type 0 = λ p. Makes p m.0 s in
    (c ∷ m.0, m.1, ap (λ x. c ∷ x) m.2, (f, a, none, subst P (sym is) m.3), m.4)
before_more k q r c l f a none is (Err TooLong) m = m
before_more k q r c l f a none is (Err Memory) m = m
before_more k q r c l f a none is (Err (Bad n j)) m =
    let P : Progress → Type 0 = λ p. Makes p m.0 m.3 in
    (c ∷ m.0, m.1, m.2, m.3, ap (λ x. c ∷ x) m.4, omega (arith, m.5), (f, a, none, subst P (sym is) m.6), m.7)

in_front : (k : ℕ) (q : Progress) (c d : List ℕ) (ds : Pieces) (o : Result Progress Fault) → ClauseMeans q c o
    → ((r : Progress) → PiecesMean (k + 1) r (d ∷ ds) (pieces_read (k + 1) r (d ∷ ds)))
    → PiecesMean k q (c ∷ d ∷ ds) (in_clause k o >>= λ r. pieces_read (k + 1) r (d ∷ ds))
in_front k q c d ds (Ok r) m later = before_more k q r c (d ∷ ds) m.0 m.1 m.2 m.3 (pieces_read (k + 1) r (d ∷ ds))
    (later r)
in_front k q c d ds (Err n) m later = ([], c, d ∷ ds, q, refl, omega arith, refl, m)

pieces_mean : (k : ℕ) (q : Progress) (c : List ℕ) (cs : Pieces) → PiecesMean k q (c ∷ cs) (pieces_read k q (c ∷ cs))
pieces_mean k q c [] = at_end k q c (rest_read q c) (rest_means q c)
pieces_mean k q c (d ∷ ds) = in_front k q c d ds (clause_read q c) (clause_means q c) (λ r. pieces_mean (k + 1) r d ds)

-- ---- a program text is read as a program, and a refused text is refused

read_good : (k : ℕ) (q : Progress) (cs : Pieces) (rest : List ℕ) (r : Progress) → Makes q cs r
    → ((n : Fault) → ¬ (HasRestFault rest n))
    → pieces_read k q (cs ++ rest ∷ []) ≡ Ok r
read_good k q [] rest r is none = ap (in_clause k) (good_rest q rest none) ∙ ap Ok is
read_good k q (c ∷ []) rest r m none =
    ap (λ o. in_clause k o >>= λ p. pieces_read (k + 1) p (rest ∷ [])) (good q c m.0 m.1 m.2)
    ∙ read_good (k + 1) (with_form q m.0) [] rest r m.3 none
read_good k q (c ∷ d ∷ ds) rest r m none =
    ap (λ o. in_clause k o >>= λ p. pieces_read (k + 1) p (d ∷ (ds ++ rest ∷ []))) (good q c m.0 m.1 m.2)
    ∙ read_good (k + 1) (with_form q m.0) (d ∷ ds) rest r m.3 none

at_clause : (k : ℕ) (q : Progress) (c : List ℕ) (after : Pieces) (n : Fault) → IsLeastAt after q c n
    → pieces_read k q (c ∷ after) ≡ Err (Bad n k)
at_clause k q c [] n l = ap (in_clause k) (bad_rest q c n l)
at_clause k q c (d ∷ ds) n l = ap (λ o. in_clause k o >>= λ p. pieces_read (k + 1) p (d ∷ ds)) (bad q c n l)

numbered : (n : Fault) (i j : ℕ) → i ≡ j → ◌≡◌ {A = Result Progress ReadFault} (Err (Bad n i)) (Err (Bad n j))
numbered n i j e = ap (λ x. Err (Bad n x)) e

read_bad : (k : ℕ) (q : Progress) (before : Pieces) (c : List ℕ) (after : Pieces) (p : Progress) (n : Fault)
    → Makes q before p → IsLeastAt after p c n
    → pieces_read k q (before ++ c ∷ after) ≡ Err (Bad n (length before + k))
read_bad k q [] c after p n is l =
    ap (λ x. pieces_read k x (c ∷ after)) is ∙ at_clause k p c after n l ∙ numbered n k (0 + k) (omega arith)
read_bad k q (b ∷ []) c after p n m l =
    ap (λ o. in_clause k o >>= λ x. pieces_read (k + 1) x (c ∷ after)) (good q b m.0 m.1 m.2)
    ∙ read_bad (k + 1) (with_form q m.0) [] c after p n m.3 l
    ∙ numbered n _ _ (omega arith)
read_bad k q (b ∷ d ∷ ds) c after p n m l =
    ap (λ o. in_clause k o >>= λ x. pieces_read (k + 1) x (d ∷ (ds ++ c ∷ after))) (good q b m.0 m.1 m.2)
    ∙ read_bad (k + 1) (with_form q m.0) (d ∷ ds) c after p n m.3 l
    ∙ numbered n _ _ (omega arith)

-- ---- texts

abbrev pub TextMeans : List ℕ → Result Meaning ReadFault → Type 0
TextMeans text (Ok m) = IsProgramText text m
TextMeans text (Err TooLong) = MAX_TEXT < length text
TextMeans text (Err Memory) = ⊥
TextMeans text (Err (Bad n k)) = IsRefusedText text n k

from_pieces : (text : List ℕ) (l : Pieces) → IsShort text → pieces (without_comments text) ≡ l
    → (o : Result Progress ReadFault) → PiecesMean 1 nothing l o → TextMeans text (meaning_in o)
from_pieces text l short is (Ok r) m = (short, m.0, m.1, r, is ∙ m.2, m.3, m.4, refl)
from_pieces text l short is (Err TooLong) m = absurd m
from_pieces text l short is (Err Memory) m = m
from_pieces text l short is (Err (Bad n k)) m = (short, m.0, m.1, m.2, m.3, is ∙ m.4, m.5, m.6, m.7)

read_pieces : (text : List ℕ) → IsShort text → TextMeans text
    (meaning_in (pieces_read 1 nothing (pieces (without_comments text))))
read_pieces text short =
    let s = some_piece (without_comments text) in
    let P : Pieces → Type 0 = λ l. TextMeans text (meaning_in (pieces_read 1 nothing l)) in
    subst P (sym s.2) (from_pieces text (s.0 ∷ s.1) short s.2 (pieces_read 1 nothing (s.0 ∷ s.1))
    (pieces_mean 1 nothing s.0 s.1))

pub text_means : (text : List ℕ) → TextMeans text (text_read text)
unfolding text_read
text_means text = by (nat_le (length text) MAX_TEXT) refl
  where
    by : (b : Bool) → nat_le (length text) MAX_TEXT ≡ b
        → TextMeans text (cond b (meaning_in (pieces_read 1 nothing (pieces (without_comments text)))) (Err TooLong))
    by true is = read_pieces text (grind (arith, nat_tests))
    by false is = grind (arith, nat_tests)

pub short_read : (text : List ℕ) → IsShort text → text_read text
    ≡ meaning_in (pieces_read 1 nothing (pieces (without_comments text)))
unfolding text_read
short_read text short =
    let e : nat_le (length text) MAX_TEXT ≡ true = grind (arith, nat_tests) in
    ap (λ b. cond b (meaning_in (pieces_read 1 nothing (pieces (without_comments text)))) (Err TooLong)) e

long_read : (text : List ℕ) → MAX_TEXT < length text → text_read text ≡ Err TooLong
unfolding text_read
long_read text long =
    let e : nat_le (length text) MAX_TEXT ≡ false = grind (arith, nat_tests) in
    ap (λ b. cond b (meaning_in (pieces_read 1 nothing (pieces (without_comments text)))) (Err TooLong)) e

pub programs : ProgramsAreRead
programs text m = (
  λ h. (let P : Result Meaning ReadFault → Type 0 = TextMeans text in subst P h (text_means text)),
  λ (short, cs, rest, q, is, made, none, same).
      short_read text short ∙ ap (λ l. meaning_in (pieces_read 1 nothing l)) is
      ∙ ap meaning_in (read_good 1 nothing cs rest q made none) ∙ ap Ok (sym same),
)

pub refused : BadTextsAreRefused
refused text n k = (
  λ h. (let P : Result Meaning ReadFault → Type 0 = TextMeans text in subst P h (text_means text)),
  λ (short, before, c, after, q, is, number, made, least).
      short_read text short ∙ ap (λ l. meaning_in (pieces_read 1 nothing l)) is
      ∙ ap meaning_in (read_bad 1 nothing before c after q n made least) ∙ ap (λ x. Err (Bad n x)) (sym number),
)

pub long : LongTextsAreRefused
long text = (
  λ h. (let P : Result Meaning ReadFault → Type 0 = TextMeans text in subst P h (text_means text)),
  λ more. long_read text more,
)

-- ---- answers

pub answers : (text : List ℕ) (r : Result Program ReadFault) → IsReadAs r (text_read text)
    → (r ≡ Err Memory → IsShort text) → IsAnswer text r
answers text (Ok p) h short = (programs text (meaning_of p)).0 h
answers text (Err TooLong) h short = (long text).0 h
answers text (Err Memory) h short = short refl
answers text (Err (Bad n k)) h short = (refused text n k).0 h
