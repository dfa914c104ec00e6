-- Each text has one list of bad clauses.
use Rattle.std.proofs.Common.{◌≡◌, ◌⊎◌, ◌<◌, ◌≤◌, ◌+◌, ℕ, zero, suc, List, [], ◌∷◌, length, inl, inr, refl, sym, ap}
use Rattle.std.proofs.Common.{◌∙◌, subst, arith}
use Rattle.chr_read.specs.declared.fault.Fault.{Fault}
use Rattle.chr_read.specs.declared.reader.TheConstants.{MAX_TEXT}
use Rattle.chr_read.specs.Meanings.{Meaning}
use Rattle.chr_read.specs.ProgramTexts.{IsShort, IsProgramText, IsRefusedText}
use Rattle.chr_read.proofs.OneAnswer.{some_answer, apart, one_fault}
use Rattle.chr_faults.specs.declared.faults.BadClause.{BadClause}
use Rattle.chr_faults.specs.BadClauses.{AreBadClauses, TextsHaveBadClauses, BadClausesAreOne, without_clause}
use Rattle.chr_faults.proofs.Shorter.{length_without_clause}

abbrev Lists : (limit gone : ℕ) (text : List ℕ) → Type 0
Lists limit gone text = (bad : List BadClause) × AreBadClauses limit gone text bad

lists : (limit gone : ℕ) (text : List ℕ) → IsShort text → ((k : ℕ) → Lists limit (gone + 1) (without_clause k text))
    → (((m : Meaning) × IsProgramText text m) ⊎ ((n : Fault) × (k : ℕ) × IsRefusedText text n k)
    ⊎ (MAX_TEXT < length text)) → Lists (suc limit) gone text
lists limit gone text s more (inl p) = ([], p)
lists limit gone text s more (inr (inl r)) = (
  record { number = gone + r.1; fault = r.0 } ∷ (more r.1).0,
  (r.1, r.2, refl, (more r.1).1),
)
lists limit gone text s more (inr (inr long)) = absurd (omega (arith, s, long))

short : (k : ℕ) (text : List ℕ) → IsShort text → IsShort (without_clause k text)
short k text s = let h : length (without_clause k text) ≤ length text = length_without_clause k text in
    omega (arith, s, h)

pub some : TextsHaveBadClauses
some zero gone text s = ([], refl)
some (suc limit) gone text s = lists limit gone text s
    (λ k. some limit (gone + 1) (without_clause k text) (short k text s)) (some_answer text)

same : (b c : BadClause) → b.number ≡ c.number → b.fault ≡ c.fault → b ≡ c
same b c n f = subst (λ x. b ≡ record { number = x; fault = c.fault }) n
    (subst (λ y. b ≡ record { number = b.number; fault = y }) f refl)

both : (b c : BadClause) (bs cs : List BadClause) → b ≡ c → bs ≡ cs → b ∷ bs ≡ c ∷ cs
both b c bs cs e es = subst (λ x. b ∷ bs ≡ x ∷ cs) e (subst (λ xs. b ∷ bs ≡ b ∷ xs) es refl)

pub one : BadClausesAreOne
one zero gone text bad other h k = h ∙ sym k
one (suc limit) gone text [] [] h k = refl
one (suc limit) gone text [] (c ∷ cs) h k = absurd (apart text h.0 c.fault k.0 h.1 k.1)
one (suc limit) gone text (b ∷ bs) [] h k = absurd (apart text k.0 b.fault h.0 k.1 h.1)
one (suc limit) gone text (b ∷ bs) (c ∷ cs) h k =
    let e = one_fault text b.fault c.fault h.0 k.0 h.1 k.1 in
    let number : b.number ≡ c.number = h.2 ∙ ap (λ j. gone + j) e.1 ∙ sym k.2 in
    let rest : AreBadClauses limit (gone + 1) (without_clause k.0 text) bs =
    subst (λ j. AreBadClauses limit (gone + 1) (without_clause j text) bs) e.1 h.3 in
    both b c bs cs (same b c number e.0) (one limit (gone + 1) (without_clause k.0 text) bs cs rest k.3)
