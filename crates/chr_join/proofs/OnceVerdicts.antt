-- Rules have one verdict.
use Rattle.std.specs.Prelude.{◌≡◌, ℕ, ◌+◌, List, [], ◌∷◌, ◌++◌, length}
use Rattle.std.proofs.Common.{refl, sym, ap, subst, ◌∙◌}
use Rattle.chr_base.specs.declared.rule.Rule.{Rule}
use Rattle.chr_types.specs.OrderTypes.{In}
use Rattle.chr_overlaps.specs.declared.overlap.Overlap.{Overlap}
use Rattle.chr_overlaps.specs.declared.cases.Case.{Case}
use Rattle.chr_join.specs.declared.coverage.Coverage.{Coverage}
use Rattle.chr_join.specs.Coverages.{IsTooManyBy}
use Rattle.chr_join.specs.declared.refused.Failure.{Failure}
use Rattle.chr_join.specs.declared.refused.TooManyTypes.{TooManyTypes}
use Rattle.chr_join.specs.declared.refused.Cause.{Cause}
use Rattle.chr_join.specs.declared.refused.Cause.TheVariants as cause
use Rattle.chr_join.specs.Sides.{IsJoinable}
use Rattle.chr_join.specs.Verdicts.{HasJoinableCasesBy, HaveJoinableCasesBy, IsFirstBy, IsFirstCaseBy}
use Rattle.chr_join.specs.Explanations.{Explains, ExplainsFirstBy, IsRefusalBy}
use Rattle.chr_join.specs.Once.{SameFailure, AcceptedOnce, RefusedOnce, NeverBoth}
use Rattle.chr_join.proofs.Lists.{in_middle, all_in, first_once}
use Rattle.chr_join.proofs.Verdicts.{joinable_in}
use Rattle.chr_join.proofs.SideSteps.{side_once}
use Rattle.chr_join.proofs.OnceLists.{one_overlaps}
use Rattle.chr_join.proofs.CoverageLists.{one_cases_by, cases_or_many_by, one_number_by}

-- ---- sides

not_joinable : (rules : List Rule) (c : Case) (f : Failure) → Explains rules c f → ¬ (IsJoinable rules c)
not_joinable rules c f e j =
    let left = side_once rules c.store c.left j.left.0 e.left.rest j.end f.left_end j.left.1 e.left.runs in
    let right = side_once rules c.store c.right j.right.0 e.right.rest j.end f.right_end j.right.1 e.right.runs in
    e.differ (sym left.1 ∙ right.1)

one_explanation : (rules : List Rule) (c : Case) (f g : Failure) → f.overlap ≡ g.overlap → Explains rules c f
    → Explains rules c g → SameFailure f g
one_explanation rules c f g overlap a b =
    let left = side_once rules c.store c.left a.left.rest b.left.rest f.left_end g.left_end a.left.runs b.left.runs in
    let right = side_once rules c.store c.right a.right.rest b.right.rest f.right_end g.right_end a.right.runs
    b.right.runs in
    record {
      overlap = overlap;
      left_start = a.left.start ∙ sym b.left.start;
      left_steps = a.left.steps ∙ ap (λ rest. c.left ∷ rest) left.0 ∙ sym b.left.steps;
      left_end = left.1;
      right_start = a.right.start ∙ sym b.right.start;
      right_steps = a.right.steps ∙ ap (λ rest. c.right ∷ rest) right.0 ∙ sym b.right.steps;
      right_end = right.1;
    }

-- ---- what is first

one_first : (coverage : Coverage) (rules : List Rule) (o p : Overlap) → IsFirstBy coverage rules o
    → IsFirstBy coverage rules p → ¬ ((n : ℕ) × HasJoinableCasesBy coverage rules o n)
    → ¬ ((n : ℕ) × HasJoinableCasesBy coverage rules p n) → o ≡ p
one_first coverage rules o p a b =
    first_once {A = Overlap} (λ q. (n : ℕ) × HasJoinableCasesBy coverage rules q n) a.before b.before o p a.after
    b.after (one_overlaps rules _ _ a.listed b.listed) a.joinable b.joinable

one_first_case : (coverage : Coverage) (rules : List Rule) (o : Overlap) (c d : Case) → IsFirstCaseBy coverage rules o c
    → IsFirstCaseBy coverage rules o d → ¬ (IsJoinable rules c) → ¬ (IsJoinable rules d) → c ≡ d
one_first_case coverage rules o c d a b = first_once (IsJoinable rules) a.before b.before c d a.after b.after
    (one_cases_by coverage rules o _ _ a.listed b.listed) a.joinable b.joinable

-- ---- what refuses an overlap

failing_case : (coverage : Coverage) (rules : List Rule) (f : Failure) → ExplainsFirstBy coverage rules f
    → ¬ ((n : ℕ) × HasJoinableCasesBy coverage rules f.overlap n)
failing_case coverage rules f h j =
    let first = h.first in
    let same = one_cases_by coverage rules f.overlap (first.before ++ h.case ∷ first.after) j.1.cases first.listed
    j.1.listed in
    not_joinable rules h.case f h.explains (all_in (IsJoinable rules) j.1.cases h.case j.1.joinable
    (subst (In h.case) same (in_middle first.before h.case first.after)))

too_many : (coverage : Coverage) (rules : List Rule) (o : Overlap) (k : ℕ) → IsTooManyBy coverage rules o k
    → ¬ ((n : ℕ) × HasJoinableCasesBy coverage rules o n)
too_many coverage rules o k many j = cases_or_many_by coverage rules o j.1.cases k j.1.listed many

-- ---- accepted rules

one_count : (coverage : Coverage) (rules : List Rule) (o : Overlap) (n m : ℕ) → HasJoinableCasesBy coverage rules o n
    → HasJoinableCasesBy coverage rules o m → n ≡ m
one_count coverage rules o n m a b = a.number ∙ ap length
    (one_cases_by coverage rules o a.cases b.cases a.listed b.listed) ∙ sym b.number

one_total : (coverage : Coverage) (rules : List Rule) (os : List Overlap) (n m : ℕ)
    → HaveJoinableCasesBy coverage rules os n → HaveJoinableCasesBy coverage rules os m → n ≡ m
one_total coverage rules [] n m a b = a ∙ sym b
one_total coverage rules (o ∷ os) n m a b =
    let here = one_count coverage rules o a.0 b.0 a.2 b.2 in
    let rest = one_total coverage rules os a.1 b.1 a.3 b.3 in
    a.4 ∙ (λ t. here t + rest t) ∙ sym b.4

pub accepted_once : AcceptedOnce
accepted_once coverage rules n m a b =
    one_total coverage rules b.overlaps n m (subst (λ os. HaveJoinableCasesBy coverage rules os n)
    (one_overlaps rules a.overlaps b.overlaps a.listed b.listed) a.joinable) b.joinable

-- ---- refused rules

pub never_both : NeverBoth
never_both coverage rules n e a h = by e h
  where
    joinable : (o : Overlap) → IsFirstBy coverage rules o → (m : ℕ) × HasJoinableCasesBy coverage rules o m
    joinable o first =
        let same = one_overlaps rules (first.before ++ o ∷ first.after) a.overlaps first.listed a.listed in
        joinable_in coverage rules a.overlaps n o a.joinable (subst (In o) same (in_middle first.before o first.after))

    by : (e : Cause) → IsRefusalBy coverage rules e → e ≡ cause.Memory
    by (cause.Fails f) h = absurd (failing_case coverage rules f h.1 (joinable f.overlap h.0))
    by (cause.TooManyTypes t) h = absurd (too_many coverage rules t.overlap t.classes h.1 (joinable t.overlap h.0))
    by cause.Memory h = refl

fails_once : (coverage : Coverage) (rules : List Rule) (f g : Failure) → IsRefusalBy coverage rules (cause.Fails f)
    → IsRefusalBy coverage rules (cause.Fails g) → SameFailure f g
fails_once coverage rules f g h k =
    let overlap = one_first coverage rules f.overlap g.overlap h.0 k.0 (failing_case coverage rules f h.1)
    (failing_case coverage rules g k.1) in
    let first : IsFirstCaseBy coverage rules g.overlap h.1.case =
    subst (λ o. IsFirstCaseBy coverage rules o h.1.case) overlap h.1.first in
    let case = one_first_case coverage rules g.overlap h.1.case k.1.case first k.1.first
    (not_joinable rules h.1.case f h.1.explains) (not_joinable rules k.1.case g k.1.explains) in
    one_explanation rules k.1.case f g overlap (subst (λ c. Explains rules c f) case h.1.explains) k.1.explains

fails_or_many : (coverage : Coverage) (rules : List Rule) (f : Failure) (t : TooManyTypes)
    → IsRefusalBy coverage rules (cause.Fails f) → IsRefusalBy coverage rules (cause.TooManyTypes t) → ⊥
fails_or_many coverage rules f t h k =
    let overlap = one_first coverage rules f.overlap t.overlap h.0 k.0 (failing_case coverage rules f h.1)
    (too_many coverage rules t.overlap t.classes k.1) in
    let first : IsFirstCaseBy coverage rules t.overlap h.1.case =
    subst (λ o. IsFirstCaseBy coverage rules o h.1.case) overlap h.1.first in
    cases_or_many_by coverage rules t.overlap (first.before ++ h.1.case ∷ first.after) t.classes first.listed k.1

many_once : (coverage : Coverage) (rules : List Rule) (t u : TooManyTypes)
    → IsRefusalBy coverage rules (cause.TooManyTypes t) → IsRefusalBy coverage rules (cause.TooManyTypes u)
    → (t.overlap ≡ u.overlap) × (t.classes ≡ u.classes)
many_once coverage rules t u h k =
    let overlap = one_first coverage rules t.overlap u.overlap h.0 k.0 (too_many coverage rules t.overlap t.classes h.1)
    (too_many coverage rules u.overlap u.classes k.1) in (
      overlap,
      one_number_by coverage rules u.overlap t.classes u.classes
          (subst (λ o. IsTooManyBy coverage rules o t.classes) overlap h.1) k.1,
    )

pub refused_once : RefusedOnce
refused_once coverage rules (cause.Fails f) (cause.Fails g) h k _ _ = fails_once coverage rules f g h k
refused_once coverage rules (cause.Fails f) (cause.TooManyTypes t) h k _ _ = fails_or_many coverage rules f t h k
refused_once coverage rules (cause.Fails f) cause.Memory h k _ n = n refl
refused_once coverage rules (cause.TooManyTypes t) (cause.Fails g) h k _ _ = fails_or_many coverage rules g t k h
refused_once coverage rules (cause.TooManyTypes t) (cause.TooManyTypes u) h k _ _ = many_once coverage rules t u h k
refused_once coverage rules (cause.TooManyTypes t) cause.Memory h k _ n = n refl
refused_once coverage rules cause.Memory g h k n _ = absurd (n refl)
