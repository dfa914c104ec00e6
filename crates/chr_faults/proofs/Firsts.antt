-- The first bad clause of a text.
use Rattle.std.proofs.Common.{◌≡◌, ℕ, suc, ◌+◌, ◌-◌, ◌<◌, ◌≤◌, List, [], ◌∷◌, ◌++◌, inl, inr, refl, sym, subst, arith}
use Rattle.std.proofs.Common.{append_assoc, append-nil}
use Rattle.std.specs.Prelude.{Option, Some, None, IfSome, IfNone}
use Rattle.chr_read.specs.ProgramTexts.{IsRefusedText}
use Rattle.chr_faults.specs.declared.faults.BadClause.{BadClause}
use Rattle.chr_faults.specs.declared.faults.TextFaults.{TextFaults}
use Rattle.chr_faults.specs.declared.faults.TextFaults.TheVariants.{TooLong, Clauses}
use Rattle.chr_faults.specs.working.TextsWithout.{AreNone}
use Rattle.chr_faults.specs.declared.limits.TheConstants.{MAX_TOLD_FAULTS}
use Rattle.chr_faults.specs.BadClauses.{AreBadClauses, TellsFirst, TellsFirstOf, IsProgram, IsRefused, without_clause}

first : (limit : ℕ) (text : List ℕ) (bad : List BadClause) → AreBadClauses (suc limit) 0 text bad
    → TellsFirstOf text bad
first limit text [] h = h
first limit text (b ∷ more) h =
    let same : h.0 ≡ b.number = omega (arith, h.2) in
    subst (λ k. IsRefusedText text b.fault k) same h.1

pub first_is : (text : List ℕ) (bad : List BadClause) → AreBadClauses MAX_TOLD_FAULTS 0 text bad → TellsFirstOf text bad
first_is text bad h = first 19 text bad h

-- ---- one after another

-- what completes the bad clauses of what is left completes those of the text
abbrev pub IsCompleted : (gone : ℕ) (text left : List ℕ) (bad : List BadClause) → Type 0
IsCompleted gone text left bad = (more : List BadClause) → AreBadClauses (MAX_TOLD_FAULTS - gone) gone left more
    → AreBadClauses MAX_TOLD_FAULTS 0 text (bad ++ more)

next : (room gone : ℕ) (left : List ℕ) (b : BadClause) (more : List BadClause) (k : ℕ) → room ≡ suc (room - 1)
    → IsRefusedText left b.fault k → b.number ≡ gone + k
    → AreBadClauses (room - 1) (gone + 1) (without_clause k left) more → AreBadClauses room gone left (b ∷ more)
next room gone left b more k e r n h = subst (λ x. AreBadClauses x gone left (b ∷ more)) (sym e) (k, r, n, h)

pub one_more : (gone : ℕ) (text left : List ℕ) (bad : List BadClause) (b : BadClause) (k : ℕ) → gone < MAX_TOLD_FAULTS
    → IsRefusedText left b.fault k → b.number ≡ gone + k
    → IsCompleted gone text left bad → IsCompleted (gone + 1) text (without_clause k left) (bad ++ b ∷ [])
one_more gone text left bad b k lt r n done more h =
    let room : MAX_TOLD_FAULTS - gone ≡ suc ((MAX_TOLD_FAULTS - gone) - 1) = omega arith in
    let less : MAX_TOLD_FAULTS - (gone + 1) ≡ (MAX_TOLD_FAULTS - gone) - 1 = omega arith in
    let rest = subst (λ x. AreBadClauses x (gone + 1) (without_clause k left) more) less h in
    subst (λ xs. AreBadClauses MAX_TOLD_FAULTS 0 text xs) (sym (append_assoc bad (b ∷ []) more))
    (done (b ∷ more) (next (MAX_TOLD_FAULTS - gone) gone left b more k room r n rest))

stop : (room gone : ℕ) (left : List ℕ) → room ≡ suc (room - 1) → IsProgram left → AreBadClauses room gone left []
stop room gone left e p = subst (λ x. AreBadClauses x gone left []) (sym e) p

pub no_more : (gone : ℕ) (text left : List ℕ) (bad : List BadClause) → gone < MAX_TOLD_FAULTS → IsProgram left
    → IsCompleted gone text left bad → AreBadClauses MAX_TOLD_FAULTS 0 text bad
no_more gone text left bad lt p done =
    let room : MAX_TOLD_FAULTS - gone ≡ suc ((MAX_TOLD_FAULTS - gone) - 1) = omega arith in
    subst (λ xs. AreBadClauses MAX_TOLD_FAULTS 0 text xs) (append-nil bad)
    (done [] (stop (MAX_TOLD_FAULTS - gone) gone left room p))

pub full : (gone : ℕ) (text left : List ℕ) (bad : List BadClause) → MAX_TOLD_FAULTS ≤ gone
    → IsCompleted gone text left bad → AreBadClauses MAX_TOLD_FAULTS 0 text bad
full gone text left bad le done =
    let room : 0 ≡ MAX_TOLD_FAULTS - gone = omega arith in
    subst (λ xs. AreBadClauses MAX_TOLD_FAULTS 0 text xs) (append-nil bad)
    (done [] (subst (λ x. AreBadClauses x gone left []) room refl))

pub none_left : (o : Option BadClause) (text left : List ℕ) → text ≡ left → o ≡ None → IfNone o (IsProgram text)
    → IsProgram left
none_left o text left e n h = subst IsProgram e (subst (λ x. IfNone x (IsProgram text)) n h)

pub some_left : (o : Option BadClause) (b : BadClause) (text left : List ℕ) → text ≡ left → o ≡ Some b
    → IfSome o (λ x. IsRefusedText text x.fault x.number) → IsRefusedText left b.fault b.number
some_left o b text left e n h = subst (λ t. IsRefusedText t b.fault b.number) e
    (subst (λ x. IfSome x (λ y. IsRefusedText text y.fault y.number)) n h)

refused_list : (text : List ℕ) (bad : List BadClause) → TellsFirstOf text bad → ¬ (bad ≡ []) → IsRefused text
refused_list text [] h some = absurd (some refl)
refused_list text (b ∷ more) h some = inr (b.fault, b.number, h)

-- a text with faults is refused
pub refused_faults : (text : List ℕ) (faults : TextFaults) → TellsFirst text faults → ¬ (AreNone faults)
    → IsRefused text
refused_faults text TooLong h some = inl h
refused_faults text (Clauses bad) h some = refused_list text bad.items h some
