-- The output for an input is determined.
use Rattle.std.specs.Prelude.{◌≡◌, ℕ, pos, zero, suc, ◌-◌, ◌<◌, ◌⊎◌, List, [], ◌∷◌, ◌++◌, map, Result, Ok, Err, Some}
use Rattle.std.specs.Prelude.{slice_get, length, codes}
use Rattle.std.specs.Fmt.{decimal}
use Rattle.std.proofs.Common.{refl, sym, ap, subst, ◌∙◌, arith, inl, inr}
use Rattle.std.proofs.lemmas.Bool.{cases_lt}
use Rattle.chr_base.specs.declared.rule.Rule.{Rule}
use Rattle.chr_base.specs.declared.program.Program.{Program}
use Rattle.chr_base.specs.Rules.{Valuation}
use Rattle.chr_base.specs.declared.weight.Weight.{Weight}
use Rattle.chr_base.specs.ProgramTests.{Declaration, some_paired}
use Rattle.chr_base.specs.Programs.{declarations, rules_of}
use Rattle.chr_base.specs.Texts.{store_text}
use Rattle.chr_weights.specs.Weights.{AreLowering, IsLowering, weight_by}
use Rattle.chr_weights.proofs.Ranks.{lowers_rank_by, rank_by}
use Rattle.chr_join.specs.declared.coverage.Coverage.{Coverage}
use Rattle.chr_join.specs.declared.refused.Cause.{Cause}
use Rattle.chr_join.specs.declared.refused.Cause.TheVariants as cause
use Rattle.chr_join.specs.Once.{SameRefusal, AcceptedOnce, RefusedOnce, NeverBoth, AcceptedAreConfluent}
use Rattle.chr_read.specs.Meanings.{meaning_of}
use Rattle.chr_read.specs.Numbers.{number_of_fault}
use Rattle.chr_read.specs.ProgramTexts.{IsShort, IsAnswer, ProgramsHaveOneMeaning, RefusedTextsAreNoPrograms}
use Rattle.chr_read.specs.ProgramTexts.{TextsHaveOneFault}
use Rattle.chr_read.specs.declared.fault.ReadFault.{ReadFault}
use Rattle.chr_read.specs.declared.fault.ReadFault.TheVariants as fault
use Rattle.chr_report.specs.declared.running.Status.{Status}
use Rattle.chr_report.specs.declared.running.Status.TheVariants.{Accepted, Refused}
use Rattle.chr_report.specs.declared.wanted.Wanted.{Wanted}
use Rattle.chr_answers.specs.Lines.{lines}
use Rattle.chr_report.specs.Inputs.{text_of, commands_of}
use Rattle.chr_answers.specs.OneText.{FirstAnswersAreOne}
use Rattle.chr_report.specs.OneOutput.{OutputsAreOne}
use Rattle.chr_weights.specs.Weights.{IsFirstNotLowered}
use Rattle.chr_report.specs.Outputs.{not_lowered_text, accepted_text, IsRefusedByWeights, IsCauseLine}
use Rattle.chr_report.specs.Outputs.{IsRefusedByOverlaps, IsAnswered, IsRulesOutput, IsReadOutput, asked}
use Rattle.chr_report.specs.Overlaps.{overlap_text}
use Rattle.chr_join.proofs.UnnamedRules.{unnamed, all_unnamed}
use Rattle.chr_report.proofs.UnnamedVerdicts.{output_unnamed}

-- what the crates below say of texts, verdicts and answers
pub record VerdictLaws : Type 0 where
  pub meaning : ProgramsHaveOneMeaning
  pub apart : RefusedTextsAreNoPrograms
  pub fault : TextsHaveOneFault
  pub confluent : AcceptedAreConfluent
  pub accepted : AcceptedOnce
  pub refused : RefusedOnce
  pub either : NeverBoth
  pub answers : FirstAnswersAreOne

zeros : Valuation
zeros x = pos 0

rule_at : (rules : List Rule) (i : ℕ) → i < length rules → (r : Rule) × (slice_get rules i ≡ Some r)
rule_at [] i l = absurd (omega arith)
rule_at (r ∷ rules) zero l = (r, refl)
rule_at (r ∷ rules) (suc i) l = rule_at rules i (omega (arith, l))

module _ (ds : List Declaration) (rules : List Rule) where
  -- a rule that is told as the first that does not lower does not
  not_lowered : (i : ℕ) (b a : Weight) → IsFirstNotLowered ds rules i b a → (r : Rule) → slice_get rules (i - 1)
      ≡ Some r → IsLowering (weight_by ds) r → ⊥
  not_lowered i b a h r e lowers =
      let x = h.weight_before r zeros e in
      let y = h.weight_after r zeros e in
      h.not_lowered (rw (x, y) (lowers zeros))

  told_rule : (i : ℕ) (b a : Weight) → IsFirstNotLowered ds rules i b a → (r : Rule)
      × (slice_get rules (i - 1) ≡ Some r)
  told_rule i b a h = let f = h.first in let w = h.within in rule_at rules (i - 1) (omega (arith, f, w))

  not_both : (i : ℕ) (b a : Weight) → IsFirstNotLowered ds rules i b a → AreLowering (weight_by ds) rules → ⊥
  not_both i b a h lowers = let r = told_rule i b a h in not_lowered i b a h r.0 r.1 (lowers (i - 1) r.0 r.1)

  not_later : (i : ℕ) (b a : Weight) (j : ℕ) (d c : Weight) → IsFirstNotLowered ds rules i b a
      → IsFirstNotLowered ds rules j d c → i < j → ⊥
  not_later i b a j d c h g l =
      let r = told_rule i b a h in
      let f = h.first in
      not_lowered i b a h r.0 r.1 (g.earlier (i - 1) r.0 (omega (arith, f, l)) r.1)

  one_rule : (i : ℕ) (b a : Weight) (j : ℕ) (d c : Weight) → IsFirstNotLowered ds rules i b a
      → IsFirstNotLowered ds rules j d c → i ≡ j
  one_rule i b a j d c h g =
      elim (cases_lt i j) as (λ _. i ≡ j) [
        | inl l ↦ absurd (not_later i b a j d c h g l)
        | inr m ↦ elim (cases_lt j i) as (λ _. i ≡ j) [
          | inl l ↦ absurd (not_later j d c i b a g h l)
          | inr n ↦ omega
              (arith, m, n)
        ]
      ]

  by_weights : (out out' : List ℕ) → IsRefusedByWeights ds rules out → IsRefusedByWeights ds rules out' → out ≡ out'
  by_weights out out' h g =
      let i = one_rule h.rule h.before h.after g.rule g.before g.after h.first g.first in
      let r = told_rule h.rule h.before h.after h.first in
      let e : slice_get rules (g.rule - 1) ≡ Some r.0 = subst (λ n. slice_get rules (n - 1) ≡ Some r.0) i r.1 in
      let b : h.before ≡ g.before = h.first.weight_before r.0 zeros r.1 ∙ sym (g.first.weight_before r.0 zeros e) in
      let a : h.after ≡ g.after = h.first.weight_after r.0 zeros r.1 ∙ sym (g.first.weight_after r.0 zeros e) in
      h.out_is ∙ (λ k. not_lowered_text (some_paired ds) (i k) (b k) (a k) ++ 10 ∷ []) ∙ sym g.out_is

  one_line : (e g : Cause) (out out' : List ℕ) → SameRefusal e g → IsCauseLine ds e out → IsCauseLine ds g out'
      → out ≡ out'
  one_line (cause.Fails f) (cause.Fails g) out out' s h k =
      h ∙ (λ i. (codes "refused 21: " ++ overlap_text (s.overlap i) ++ codes "; store "
      ++ store_text ds (s.left_start i) ++ codes "; left " ++ store_text ds (s.left_end i) ++ codes "; right "
      ++ store_text ds (s.right_end i)) ++ 10 ∷ []) ∙ sym k
  one_line (cause.Fails f) (cause.TooManyTypes t) out out' s h k = absurd s
  one_line (cause.Fails f) cause.Memory out out' s h k = absurd s
  one_line (cause.TooManyTypes t) (cause.Fails g) out out' s h k = absurd s
  one_line (cause.TooManyTypes t) (cause.TooManyTypes u) out out' s h k =
      h ∙ (λ i. (codes "refused 22: " ++ overlap_text (s.0 i) ++ codes "; classes " ++ decimal (s.1 i)) ++ 10 ∷ [])
      ∙ sym k
  one_line (cause.TooManyTypes t) cause.Memory out out' s h k = absurd s
  one_line cause.Memory g out out' s h k = absurd h

  no_memory : (e : Cause) (out : List ℕ) → IsCauseLine ds e out → e ≡ cause.Memory → ⊥
  no_memory e out h m = subst (λ x. IsCauseLine ds x out) m h

  by_overlaps : VerdictLaws → (coverage : Coverage) (out out' : List ℕ) → IsRefusedByOverlaps coverage ds rules out
      → IsRefusedByOverlaps coverage ds rules out' → out ≡ out'
  by_overlaps laws coverage out out' h g =
      one_line h.cause g.cause out out' (laws.refused coverage rules h.cause g.cause h.first g.first
      (no_memory h.cause out h.line) (no_memory g.cause out' g.line)) h.line g.line

  one_answer : VerdictLaws → (wanted : Wanted) (commands : List (List ℕ)) (out out' : List ℕ)
      → IsAnswered ds rules wanted commands out → IsAnswered ds rules wanted commands out' → out ≡ out'
  one_answer laws wanted commands out out' h g =
      let cases = laws.accepted wanted.coverage rules h.cases g.cases h.accepted g.accepted in
      let confluent = laws.confluent wanted.coverage rules (rank_by ds) h.cases (lowers_rank_by ds rules h.lowers)
      h.accepted in
      let t = laws.answers ds rules confluent wanted.replicas commands h.answers g.answers h.answered g.answered in
      h.out_is ∙ (λ i. accepted_text (length rules) (cases i) ++ 10 ∷ t i) ∙ sym g.out_is

  never_both : VerdictLaws → (wanted : Wanted) (commands : List (List ℕ)) (out out' : List ℕ)
      → IsAnswered ds rules wanted commands out → IsRefusedByWeights ds rules out'
      ⊎ IsRefusedByOverlaps wanted.coverage ds rules out' → ⊥
  never_both laws wanted commands out out' h (inl w) = not_both w.rule w.before w.after w.first h.lowers
  never_both laws wanted commands out out' h (inr o) =
      no_memory o.cause out' o.line (laws.either wanted.coverage rules h.cases o.cause h.accepted o.first)

  rules_output : VerdictLaws → (wanted : Wanted) (commands : List (List ℕ)) (s s' : Status) (out out' : List ℕ)
      → IsRulesOutput ds rules wanted commands s out → IsRulesOutput ds rules wanted commands s' out' → (s ≡ s')
      × (out ≡ out')
  rules_output laws wanted commands Accepted Accepted out out' h g =
      (refl, one_answer laws wanted commands out out' h g)
  rules_output laws wanted commands Accepted Refused out out' h g =
      absurd (never_both laws wanted commands out out' h g)
  rules_output laws wanted commands Refused Accepted out out' h g =
      absurd (never_both laws wanted commands out' out g h)
  rules_output laws wanted commands Refused Refused out out' (inl h) (inl g) = (refl, by_weights out out' h g)
  rules_output laws wanted commands Refused Refused out out' (inl h) (inr g) =
      absurd (not_both h.rule h.before h.after h.first g.lowers)
  rules_output laws wanted commands Refused Refused out out' (inr h) (inl g) =
      absurd (not_both g.rule g.before g.after g.first h.lowers)
  rules_output laws wanted commands Refused Refused out out' (inr h) (inr g) =
      (refl, by_overlaps laws wanted.coverage out out' h g)

-- programs of one meaning have one output
same_output : VerdictLaws → (p q : Program) → meaning_of p ≡ meaning_of q → (wanted : Wanted) (commands : List (List ℕ))
    (s s' : Status) (out out' : List ℕ) → IsReadOutput (Ok p) wanted commands s out
    → IsReadOutput (Ok q) wanted commands s' out' → (s ≡ s') × (out ≡ out')
same_output laws p q e wanted commands s s' out out' h g =
    rules_output (declarations q) (map unnamed (rules_of q)) laws wanted commands s s' out out'
    (subst (λ rs. IsRulesOutput (declarations q) rs wanted commands s out)
    (all_unnamed (rules_of p) (rules_of q) (ap (λ m. m.rules) e))
    (subst (λ ds. IsRulesOutput ds (map unnamed (rules_of p)) wanted commands s out) (ap (λ m. m.declarations) e)
    (output_unnamed (declarations p) (rules_of p) wanted commands s out h)))
    (output_unnamed (declarations q) (rules_of q) wanted commands s' out' g)

-- no text is too long and short
long : {A : Type 0} (text : List ℕ) → 65536 < length text → IsShort text → A
long text l m = absurd (omega (arith, l, m))

-- two answers of one text lead to one output
one_of_text : VerdictLaws → (text : List ℕ) (wanted : Wanted) (commands : List (List ℕ)) (s s' : Status)
    (out out' : List ℕ) (a b : Result Program ReadFault) → IsAnswer text a → IsAnswer text b
    → IsReadOutput a wanted commands s out → IsReadOutput b wanted commands s' out' → (s ≡ s') × (out ≡ out')
one_of_text laws text wanted commands s s' out out' (Ok p) (Ok q) r t h g =
    same_output laws p q (laws.meaning text (meaning_of p) (meaning_of q) r t) wanted commands s s' out out' h g
one_of_text laws text wanted commands s s' out out' (Ok p) (Err fault.TooLong) r t h g = long text t r.0
one_of_text laws text wanted commands s s' out out' (Ok p) (Err (fault.Bad n k)) r t h g =
    absurd (laws.apart text (meaning_of p) n k r t)
one_of_text laws text wanted commands s s' out out' (Err fault.TooLong) (Ok p) r t h g = long text r t.0
one_of_text laws text wanted commands s s' out out' (Err (fault.Bad n k)) (Ok p) r t h g =
    absurd (laws.apart text (meaning_of p) n k t r)
one_of_text laws text wanted commands s s' out out' (Err fault.TooLong) (Err fault.TooLong) r t h g =
    (h.0 ∙ sym g.0, h.1 ∙ sym g.1)
one_of_text laws text wanted commands s s' out out' (Err fault.TooLong) (Err (fault.Bad n k)) r t h g = long text r t.0
one_of_text laws text wanted commands s s' out out' (Err (fault.Bad n k)) (Err fault.TooLong) r t h g = long text t r.0
one_of_text laws text wanted commands s s' out out' (Err (fault.Bad n k)) (Err (fault.Bad m j)) r t h g =
    let e = laws.fault text n m k j r t in (
      h.0 ∙ sym g.0,
      h.1 ∙ (λ i. codes "refused " ++ decimal (number_of_fault (e.0 i)) ++ codes ": clause "
          ++ decimal (e.1 i) ++ 10 ∷ []) ∙ sym g.1,
    )
one_of_text laws text wanted commands s s' out out' (Err fault.Memory) b r t h g = absurd h.1
one_of_text laws text wanted commands s s' out out' (Ok p) (Err fault.Memory) r t h g = absurd g.1
one_of_text laws text wanted commands s s' out out' (Err fault.TooLong) (Err fault.Memory) r t h g = absurd g.1
one_of_text laws text wanted commands s s' out out' (Err (fault.Bad n k)) (Err fault.Memory) r t h g = absurd g.1

pub one_output : VerdictLaws → OutputsAreOne
one_output laws verb wanted input s s' out out' h g = one_of_text laws (text_of (lines input)) wanted
    (asked verb (commands_of (lines input))) s s' out out' h.0 g.0 h.1 g.1 h.2 g.2
