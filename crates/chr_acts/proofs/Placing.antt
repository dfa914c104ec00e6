-- A receipt stands at one place of a journal: the first that has its seat and number.
use Rattle.std.specs.Prelude.{◌==◌}
use Rattle.std.specs.List.{Contains, before_first, after_first, position_or_len}
use Rattle.std.proofs.Common.{arith, ◌≡◌, ℕ, zero, suc, ◌+◌, ◌<◌, ◌≤◌, true, false, cond, eq-eqb}
use Rattle.std.proofs.Common.{List, [], ◌∷◌, ◌++◌, length, get_or, refl, sym, ap, ◌∙◌, subst}
use Rattle.std.proofs.lemmas.Bool.Decides.{nat_tests}
use Rattle.std.proofs.lemmas.List.Sums.{sum_by_push, position_or_len_is, split_at_first}
use Rattle.chr_base.specs.declared.program.Program.{Program}
use Rattle.chr_replica.specs.Replicas.{Replica}
use Rattle.chr_acts.specs.declared.entry.Entry.{Entry}
use Rattle.chr_acts.specs.Journals.{Leads, IsLegal, count_of}
use Rattle.chr_acts.specs.Receipts.{is_of, IsPlaced}

-- each entry has its seat's next number
abbrev Numbered : List Entry → List Entry → Type 0
Numbered before [] = Unit {0}
Numbered before (e ∷ es) = (e.number ≡ count_of e.seat before + 1) × Numbered (before ++ e ∷ []) es

leads_numbered : (p : Program) (before : List Entry) (s : Replica) (es : List Entry) (t : Replica)
    → Leads p before s es t → Numbered before es
leads_numbered p before s [] t h = tt
leads_numbered p before s (e ∷ es) t h = (h.1, leads_numbered p (before ++ e ∷ []) h.0 es t h.3)

counts : (n : ℕ) (before : List Entry) (e : Entry) → count_of n (before ++ e ∷ [])
    ≡ count_of n before + cond (e.seat == n) 1 0
counts n before e = sum_by_push (λ (x : Entry). cond (x.seat == n) 1 0) before e

counts_own : (before : List Entry) (e : Entry) → count_of e.seat (before ++ e ∷ []) ≡ count_of e.seat before + 1
counts_own before e = counts e.seat before e
    ∙ ap (λ b. count_of e.seat before + cond b 1 0) (eq-eqb e.seat e.seat refl)

-- the number of an entry is past those that its seat had before
later : (before es : List Entry) → Numbered before es → (k : ℕ) (d : Entry) → k < length es
    → count_of (get_or es k d).seat before + 1 ≤ (get_or es k d).number
later before [] h k d lt = absurd (omega arith)
later before (e ∷ es) h zero d lt = omega (arith, h.0)
later before (e ∷ es) h (suc k) d lt =
    let x = get_or es k d in
    omega (arith, later (before ++ e ∷ []) es h.1 k d (omega arith), counts x.seat before e)

-- the numbers of a seat rise
rises : (before es : List Entry) → Numbered before es → (j k : ℕ) (d : Entry) → j < k → k < length es
    → (get_or es j d).seat ≡ (get_or es k d).seat → (get_or es j d).number < (get_or es k d).number
rises before [] h j k d lt inside same = absurd (omega arith)
rises before (e ∷ es) h j zero d lt inside same = absurd (omega arith)
rises before (e ∷ es) h zero (suc k) d lt inside same =
    let x = get_or es k d in
    let own = later (before ++ e ∷ []) es h.1 k d (omega arith) in
    omega (arith, h.0, subst (λ n. count_of n (before ++ e ∷ []) + 1 ≤ x.number) (sym same) own, counts_own before e)
rises before (e ∷ es) h (suc j) (suc k) d lt inside same =
    rises (before ++ e ∷ []) es h.1 j k d (omega arith) (omega arith) same

differs : (r x : Entry) → (x.seat ≡ r.seat → x.number < r.number) → is_of r x ≡ false
differs r x h = grind (arith, nat_tests)

placed : (es : List Entry) (r : Entry) → Numbered [] es → Contains es r → IsPlaced es r
placed es r numbered c =
    let k = c.0 in
    let at : is_of r (get_or es k r) ≡ true = grind (arith, nat_tests) in
    let none : (j : ℕ) → j < k → is_of r (get_or es j r) ≡ false =
    λ j lt.
    differs r (get_or es j r) (subst (λ (x : Entry). (get_or es j r).seat ≡ x.seat
    → (get_or es j r).number < x.number) c.2 (rises [] es numbered j k r lt c.1)) in
    let place : position_or_len (is_of r) es ≡ k = position_or_len_is (is_of r) es k r (omega arith) none (λ _. at) in (
      after_first (is_of r) es,
      split_at_first (is_of r) es r (omega (arith, place, c.1))
          ∙ ap (λ x. before_first (is_of r) es ++ x ∷ after_first (is_of r) es)
          (ap (λ i. get_or es i r) place ∙ c.2),
    )

pub is_placed : (p : Program) (es : List Entry) (s : Replica) (r : Entry) → IsLegal p es s → Contains es r
    → IsPlaced es r
is_placed p es s r legal c = placed es r (leads_numbered p [] _ es s legal) c
