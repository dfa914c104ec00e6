-- What is written for rules is what is written for them without their names.
use Rattle.std.specs.Prelude.{◌≡◌, ℕ, ◌-◌, ◌≤◌, ◌⊎◌, Bool, true, false, List, [], ◌∷◌, ◌++◌, map, slice_index_or}
use Rattle.std.specs.Prelude.{replicate, Result, Ok, Err, Option, Some, None, MatchOption}
use Rattle.std.specs.Bool.{MatchBool}
use Rattle.std.specs.List.{All}
use Rattle.std.specs.FinMap as finite
use Rattle.std.proofs.Common.{sym, ap, subst, ◌∙◌, inl, inr}
use Rattle.std.proofs.lemmas.List.{length-map}
use Rattle.chr_base.specs.declared.atom.Atom.{Atom}
use Rattle.chr_base.specs.declared.rule.Rule.{Rule}
use Rattle.chr_base.specs.declared.derivation.Step.{Step as StepValue}
use Rattle.chr_base.specs.declared.weight.Weight.{Weight}
use Rattle.chr_base.specs.Weights.{total_weight}
use Rattle.chr_base.specs.Rules.{atoms_at, heads_of, HasNoStep}
use Rattle.chr_base.specs.Stores.{Store}
use Rattle.chr_base.specs.ProgramTests.{Declaration}
use Rattle.chr_weights.specs.Weights.{AreLowering, IsLowering, weight_by, IsFirstNotLowered}
use Rattle.chr_confluence.specs.Overlaps.{equations_of}
use Rattle.chr_confluence.specs.Unifiers.{HasNoUnifier}
use Rattle.chr_rewrite.specs.Derivations.{IsApplicable, LeadsTo, IsLeastStep, IsPlainDerivation, IsPlainComputation}
use Rattle.chr_overlaps.specs.declared.overlap.Overlap.{Overlap}
use Rattle.chr_overlaps.specs.declared.cases.Case.{Case}
use Rattle.chr_overlaps.specs.OverlapLists.{AreOverlaps}
use Rattle.chr_overlaps.specs.CaseLists.{AreListed, AreCases, IsTooMany}
use Rattle.chr_confluence.specs.Sorts.{Sorts, FitRule, Fit}
use Rattle.chr_confluence.specs.SortedCases.{all_equations}
use Rattle.chr_sorting.specs.FinestSorts.{AreShort, AreFinest}
use Rattle.chr_sorting.specs.SortedCaseLists.{AreSortedListed, AreSortedCases, HasTooManyCombinations}
use Rattle.chr_join.specs.declared.coverage.Coverage.{Coverage}
use Rattle.chr_join.specs.declared.coverage.Coverage.TheVariants.{Joint, Sorted}
use Rattle.chr_join.specs.declared.refused.Failure.{Failure}
use Rattle.chr_join.specs.declared.refused.Cause.{Cause}
use Rattle.chr_join.specs.declared.refused.Cause.TheVariants as cause
use Rattle.chr_join.specs.Sides.{IsSideComputation, IsJoinable}
use Rattle.chr_join.specs.Coverages.{AreCasesBy, IsTooManyBy}
use Rattle.chr_join.specs.Verdicts.{HasJoinableCasesBy, HaveJoinableCasesBy, IsAcceptedBy, IsFirstBy, IsFirstCaseBy}
use Rattle.chr_join.specs.Explanations.{Explains, IsRefusalBy}
use Rattle.chr_ops.specs.Operations.{Operations, told_store}
use Rattle.chr_json.specs.Commands.{Said, show, tell, sync, summary, lacks, merge}
use Rattle.chr_json.specs.Lines.{is_blank_line}
use Rattle.chr_json.specs.Reads.{line_said}
use Rattle.chr_json.specs.declared.fault.LineFault.{LineFault}
use Rattle.chr_json.specs.declared.fault.LineFault.TheVariants as fault
use Rattle.chr_report.specs.declared.running.Status.{Status}
use Rattle.chr_report.specs.declared.running.Status.TheVariants.{Accepted, Refused}
use Rattle.chr_answers.specs.declared.reply.Refusal.TheVariants as refusal
use Rattle.chr_report.specs.declared.wanted.Wanted.{Wanted}
use Rattle.chr_answers.specs.Lines.{without_return}
use Rattle.chr_answers.specs.Answers.{held_by, OneAnswers, AnswersAt, ShowsNormalForm, AnswersShow, AnswersRead}
use Rattle.chr_answers.specs.Answers.{AnswersFirst, AnswersAll, AnswersRefusal}
use Rattle.chr_report.specs.Outputs.{accepted_text, IsAnswered, IsRulesOutput}
use Rattle.chr_join.proofs.UnnamedRules.{unnamed, at_unnamed, from_unnamed, by_unnamed, rest_unnamed, normal_unnamed}
use Rattle.chr_join.proofs.UnnamedRules.{overlap_unnamed, overlap_named, constants_unnamed}

module _ (rules : List Rule) where
  abbrev bare : List Rule
  bare = map unnamed rules

  -- ---- derivations

  abbrev step_at : (s : Store) (st : StepValue) → IsApplicable rules s st → IsApplicable bare s st
  step_at s st h = record {
    rule = unnamed h.rule;
    numbered = h.numbered;
    named =
        at_unnamed rules (st.rule - 1) h.rule h.named;
    instance = h.instance;
    there = h.there;
  }

  takes : (s t : Store) (st : StepValue) → LeadsTo rules st s t → LeadsTo bare st s t
  takes s t st h = (step_at s st h.0, (h.1.0, h.1.1, by_unnamed h.0.rule h.1.0 s t h.1.2))

  no_step : (r : Rule) (s : Store) → HasNoStep r s → HasNoStep (unnamed r) s
  no_step r s h v t step = h v t (record { guard = step.guard; there = step.there; after = step.after })

  least_step : (s : Store) (st : StepValue) → IsLeastStep rules s st → IsLeastStep bare s st
  least_step s st h = record {
    at = step_at s st h.at;
    least_rule = λ i x l e. (let r = from_unnamed rules i x e in
        subst (λ y. HasNoStep y s) r.2 (no_step r.0 s (h.least_rule i r.0 l r.1)));
    least_heads = h.least_heads;
  }

  plain_steps : (steps : List StepValue) (s t : Store) → IsPlainDerivation rules steps s t
      → IsPlainDerivation bare steps s t
  plain_steps [] s t h = h
  plain_steps (st ∷ steps) s t h = (h.0, least_step s st h.1, takes s h.0 st h.2, plain_steps steps h.0 t h.3)

  plain_runs : (steps : List StepValue) (s t : Store) → IsPlainComputation rules steps s t
      → IsPlainComputation bare steps s t
  plain_runs steps s t h = (plain_steps steps s t h.0, rest_unnamed rules t h.1)

  side_runs : (s t : Store) (st : StepValue) (steps : List StepValue) → IsSideComputation rules s st steps t
      → IsSideComputation bare s st steps t
  side_runs s t st steps h = (h.0, takes s h.0 st h.1, plain_runs steps h.0 t h.2)

  joinable : (c : Case) → IsJoinable rules c → IsJoinable bare c
  joinable c h = record {
    end = h.end;
    left = (h.left.0, side_runs c.store h.end c.left h.left.0 h.left.1);
    right =
        (h.right.0, side_runs c.store h.end c.right h.right.0 h.right.1);
  }

  -- ---- overlaps and cases

  are_overlaps : (os : List Overlap) → AreOverlaps rules os → AreOverlaps bare os
  are_overlaps os h = record {
    each = λ o i. (let is = h.each o i in (
      is.0,
      is.1,
      (is.2.0, is.2.1, overlap_unnamed rules is.0 is.1 o.matching.items is.2.2),
    ));
    all = λ o is. h.all o (is.0, is.1, (is.2.0, is.2.1, overlap_named rules is.0 is.1 o.matching.items is.2.2));
    rise = h.rise;
  }

  are_listed : (o : Overlap) (r1 r2 : Rule) (cs : List Case) → AreListed rules o r1 r2 cs
      → AreListed bare o (unnamed r1) (unnamed r2) cs
  are_listed o r1 r2 cs h = record {
    classes = h.classes;
    representatives = h.representatives;
    solves = h.solves;
    types = (h.types.0, constants_unnamed rules h.types.0 h.types.1, h.types.2);
    within = h.within;
    cases_are = h.cases_are;
  }

  are_cases : (o : Overlap) (cs : List Case) → AreCases rules o cs → AreCases bare o cs
  are_cases o cs h = record {
    rule1 = unnamed h.rule1;
    rule2 = unnamed h.rule2;
    first = at_unnamed rules (o.first - 1) h.rule1 h.first;
    second = at_unnamed rules (o.second - 1) h.rule2 h.second;
    listed = elim h.listed as (λ _. (HasNoUnifier (equations_of h.rule1 h.rule2 o.matching.items) × (cs ≡ []))
        ⊎ AreListed bare o (unnamed h.rule1) (unnamed h.rule2) cs)
        [ inl n ↦ inl n | inr l ↦ inr (are_listed o h.rule1 h.rule2 cs l) ];
  }

  too_many : (o : Overlap) (n : ℕ) → IsTooMany rules o n → IsTooMany bare o n
  too_many o n h = record {
    rule1 = unnamed h.rule1;
    rule2 = unnamed h.rule2;
    first = at_unnamed rules (o.first - 1) h.rule1 h.first;
    second = at_unnamed rules (o.second - 1) h.rule2 h.second;
    classes = h.classes;
    solves = h.solves;
    number = h.number;
    constants = h.constants;
    are_constants = constants_unnamed rules h.constants h.are_constants;
    more = h.more;
  }

  -- ---- sorts

  fits : (s : Sorts) → Fit s rules → Fit s bare
  fits s h i x e =
      let r = from_unnamed rules i x e in
      let f = h i r.0 r.1 in
      subst (FitRule s) r.2 (record { variables = f.variables; constants = f.constants; compared = f.compared })

  named_fits : (s : Sorts) → Fit s bare → Fit s rules
  named_fits s h i r e =
      let f = h i (unnamed r) (at_unnamed rules i r e) in
      record { variables = f.variables; constants = f.constants; compared = f.compared }

  are_finest : (s : Sorts) → AreFinest rules s → AreFinest bare s
  are_finest s h = record {
    short = λ i x e. (let r = from_unnamed rules i x e in subst (λ y. AreShort (heads_of y)) r.2 (h.short i r.0 r.1));
    fit = fits s h.fit;
    finest = λ p f. h.finest p (named_fits p f);
    named = h.named;
    rise = h.rise;
    values = h.values;
  }

  are_sorted_listed : (s : Sorts) (o : Overlap) (r1 r2 : Rule) (cs : List Case) → AreSortedListed s o r1 r2 cs
      → AreSortedListed s o (unnamed r1) (unnamed r2) cs
  are_sorted_listed s o r1 r2 cs h = record {
    classes = h.classes;
    combinations = h.combinations;
    solves = h.solves;
    all = h.all;
    within = h.within;
    cases_are = h.cases_are;
  }

  are_sorted_cases : (s : Sorts) (o : Overlap) (cs : List Case) → AreSortedCases s rules o cs
      → AreSortedCases s bare o cs
  are_sorted_cases s o cs h = record {
    rule1 = unnamed h.rule1;
    rule2 = unnamed h.rule2;
    first = at_unnamed rules (o.first - 1) h.rule1 h.first;
    second = at_unnamed rules (o.second - 1) h.rule2 h.second;
    listed = elim h.listed as (λ _. (HasNoUnifier (all_equations h.rule1 h.rule2 o.matching.items) × (cs ≡ []))
        ⊎ AreSortedListed s o (unnamed h.rule1) (unnamed h.rule2) cs)
        [ inl n ↦ inl n | inr l ↦ inr (are_sorted_listed s o h.rule1 h.rule2 cs l) ];
  }

  too_many_combinations : (s : Sorts) (o : Overlap) (n : ℕ) → HasTooManyCombinations s rules o n
      → HasTooManyCombinations s bare o n
  too_many_combinations s o n h = record {
    rule1 = unnamed h.rule1;
    rule2 = unnamed h.rule2;
    first = at_unnamed rules (o.first - 1) h.rule1 h.first;
    second = at_unnamed rules (o.second - 1) h.rule2 h.second;
    classes = h.classes;
    solves = h.solves;
    number = h.number;
    many = h.many;
  }

  -- ---- verdicts

  are_cases_by : (coverage : Coverage) (o : Overlap) (cs : List Case) → AreCasesBy coverage rules o cs
      → AreCasesBy coverage bare o cs
  are_cases_by Joint o cs h = are_cases o cs h
  are_cases_by Sorted o cs h = (h.0, are_finest h.0 h.1, are_sorted_cases h.0 o cs h.2)

  too_many_by : (coverage : Coverage) (o : Overlap) (n : ℕ) → IsTooManyBy coverage rules o n
      → IsTooManyBy coverage bare o n
  too_many_by Joint o n h = too_many o n h
  too_many_by Sorted o n h = (h.0, are_finest h.0 h.1, too_many_combinations h.0 o n h.2)

  all_joinable : (cs : List Case) → All (IsJoinable rules) cs → All (IsJoinable bare) cs
  all_joinable cs h k d l = joinable (slice_index_or cs k d) (h k d l)

  has_joinable : (coverage : Coverage) (o : Overlap) (n : ℕ) → HasJoinableCasesBy coverage rules o n
      → HasJoinableCasesBy coverage bare o n
  has_joinable coverage o n h = record {
    cases = h.cases;
    listed = are_cases_by coverage o h.cases h.listed;
    joinable =
        all_joinable h.cases h.joinable;
    number = h.number;
  }

  have_joinable : (coverage : Coverage) (os : List Overlap) (n : ℕ) → HaveJoinableCasesBy coverage rules os n
      → HaveJoinableCasesBy coverage bare os n
  have_joinable coverage [] n h = h
  have_joinable coverage (o ∷ os) n h = (
    h.0,
    h.1,
    has_joinable coverage o h.0 h.2,
    have_joinable coverage os h.1 h.3,
    h.4,
  )

  is_accepted : (coverage : Coverage) (n : ℕ) → IsAcceptedBy coverage rules n → IsAcceptedBy coverage bare n
  is_accepted coverage n h = record {
    overlaps = h.overlaps;
    listed = are_overlaps h.overlaps h.listed;
    joinable =
        have_joinable coverage h.overlaps n h.joinable;
  }

  is_first : (coverage : Coverage) (o : Overlap) → IsFirstBy coverage rules o → IsFirstBy coverage bare o
  is_first coverage o h = record {
    before = h.before;
    after = h.after;
    listed = are_overlaps (h.before ++ o ∷ h.after) h.listed;
    joinable = λ k d l. (let j = h.joinable k d l in (
      j.0,
      has_joinable coverage
          (slice_index_or h.before k d) j.0 j.1,
    ));
  }

  is_first_case : (coverage : Coverage) (o : Overlap) (c : Case) → IsFirstCaseBy coverage rules o c
      → IsFirstCaseBy coverage bare o c
  is_first_case coverage o c h = record {
    before = h.before;
    after = h.after;
    listed =
        are_cases_by coverage o (h.before ++ c ∷ h.after) h.listed;
    joinable = all_joinable h.before h.joinable;
  }

  explains : (c : Case) (f : Failure) → Explains rules c f → Explains bare c f
  explains c f h = record {
    left = record {
      start = h.left.start;
      rest = h.left.rest;
      steps = h.left.steps;
      runs =
          side_runs c.store f.left_end c.left h.left.rest h.left.runs;
    };
    right = record {
      start = h.right.start;
      rest = h.right.rest;
      steps = h.right.steps;
      runs =
          side_runs c.store f.right_end c.right h.right.rest h.right.runs;
    };
    differ = h.differ;
  }

  is_refusal : (coverage : Coverage) (e : Cause) → IsRefusalBy coverage rules e → IsRefusalBy coverage bare e
  is_refusal coverage (cause.Fails f) h = (
    is_first coverage f.overlap h.0,
    record {
      case = h.1.case;
      first = is_first_case coverage f.overlap h.1.case h.1.first;
      explains =
          explains h.1.case f h.1.explains;
    },
  )
  is_refusal coverage (cause.TooManyTypes t) h = (
    is_first coverage t.overlap h.0,
    too_many_by coverage t.overlap t.classes h.1,
  )
  is_refusal coverage cause.Memory h = h

  lower : (w : Atom → Weight) → AreLowering w rules → AreLowering w bare
  lower w h i x e = let r = from_unnamed rules i x e in subst (IsLowering w) r.2 (h i r.0 r.1)

  -- ---- outputs

  module _ (ds : List Declaration) where
    first_not_lowered : (i : ℕ) (b a : Weight) → IsFirstNotLowered ds rules i b a → IsFirstNotLowered ds bare i b a
    first_not_lowered i b a h = record {
      first = h.first;
      within = subst (λ n. i ≤ n) (sym (length-map rules unnamed)) h.within;
      earlier = λ j x l e. (let r = from_unnamed rules j x e in
          subst (IsLowering (weight_by ds)) r.2 (h.earlier j r.0 l r.1));
      weight_before = λ x v e. (let r = from_unnamed rules (i - 1) x e in
          subst (λ y. b ≡ total_weight (weight_by ds) (atoms_at v y.removed.items)) r.2 (h.weight_before r.0 v r.1));
      weight_after = λ x v e. (let r = from_unnamed rules (i - 1) x e in
          subst (λ y. a ≡ total_weight (weight_by ds) (atoms_at v y.body.items)) r.2 (h.weight_after r.0 v r.1));
      not_lowered = h.not_lowered;
    }

    shows : (told : Store) (text : List ℕ) → ShowsNormalForm ds rules told text → ShowsNormalForm ds bare told text
    shows told text h = record {
      store = h.store;
      normal_form = normal_unnamed rules told h.store h.normal_form;
      text_is = h.text_is;
    }

    one_shows : (old : List Operations) (r : ℕ) (text : List ℕ) (new : List Operations) (m : Operations)
        → OneAnswers old r (AnswersShow ds rules) text new m → OneAnswers old r (AnswersShow ds bare) text new m
    one_shows old r text new m h = record {
      after = h.after;
      answers =
          (shows (told_store m) text h.answers.0, h.answers.1);
      others = h.others;
    }

    answers_show : (old : List Operations) (r : ℕ) (text : List ℕ) (new : List Operations)
        → AnswersAt old r (AnswersShow ds rules) text new → AnswersAt old r (AnswersShow ds bare) text new
    answers_show old r text new h = by (held_by old r) h
      where
        by : (o : Option Operations) → MatchOption o (AnswersRefusal refusal.NoReplica old text new)
            (OneAnswers old r (AnswersShow ds rules) text new)
            → MatchOption o (AnswersRefusal refusal.NoReplica old text new)
            (OneAnswers old r (AnswersShow ds bare) text new)
        by None h = h
        by (Some m) h = one_shows old r text new m h

    answers_read : (old : List Operations) (said : Result Said LineFault) (text : List ℕ) (new : List Operations)
        → AnswersRead ds rules old said text new → AnswersRead ds bare old said text new
    answers_read old (Ok (show r)) text new h = answers_show old r text new h
    answers_read old (Ok (tell r o n ws)) text new h = h
    answers_read old (Ok (sync a b)) text new h = h
    answers_read old (Ok (summary r)) text new h = h
    answers_read old (Ok (lacks r rs v)) text new h = h
    answers_read old (Ok (merge r os)) text new h = h
    answers_read old (Err fault.BadLine) text new h = h
    answers_read old (Err fault.Shape) text new h = h
    answers_read old (Err fault.Memory) text new h = absurd h

    answers_all : (ls : List (List ℕ)) (old : List Operations) (out : List ℕ) → AnswersAll ds rules ls old out
        → AnswersAll ds bare ls old out
    answers_all [] old out h = h
    answers_all (l ∷ ls) old out h = by (is_blank_line (without_return l)) h (answers_all ls)
      where
        by : (b : Bool) → MatchBool b (AnswersAll ds rules ls old out)
            (AnswersFirst ds rules old (without_return l) out (AnswersAll ds rules ls))
            → ((now : List Operations) (rest : List ℕ) → AnswersAll ds rules ls now rest
            → AnswersAll ds bare ls now rest)
            → MatchBool b (AnswersAll ds bare ls old out)
            (AnswersFirst ds bare old (without_return l) out (AnswersAll ds bare ls))
        by true h more = more old out h
        by false h more = record {
          text = h.text;
          new = h.new;
          rest = h.rest;
          answers = answers_read old (line_said (without_return l)) h.text h.new h.answers;
          more = more h.new h.rest h.more;
          out_is = h.out_is;
        }

    answered : (wanted : Wanted) (commands : List (List ℕ)) (out : List ℕ) → IsAnswered ds rules wanted commands out
        → IsAnswered ds bare wanted commands out
    answered wanted commands out h = record {
      lowers = lower (weight_by ds) h.lowers;
      cases = h.cases;
      accepted = is_accepted wanted.coverage h.cases h.accepted;
      answers = h.answers;
      answered = answers_all commands (replicate wanted.replicas finite.empty) h.answers h.answered;
      out_is = h.out_is ∙ ap (λ n. accepted_text n h.cases ++ 10 ∷ h.answers) (sym (length-map rules unnamed));
    }

pub output_unnamed : (ds : List Declaration) (rules : List Rule) (wanted : Wanted) (commands : List (List ℕ))
    (status : Status) (out : List ℕ)
    → IsRulesOutput ds rules wanted commands status out
    → IsRulesOutput ds (map unnamed rules) wanted commands status out
output_unnamed ds rules wanted commands Accepted out h = answered rules ds wanted commands out h
output_unnamed ds rules wanted commands Refused out (inl h) =
    inl (record {
      rule = h.rule;
      before = h.before;
      after = h.after;
      first =
          first_not_lowered rules ds h.rule h.before h.after h.first;
      out_is = h.out_is;
    })
output_unnamed ds rules wanted commands Refused out (inr h) =
    inr (record {
      lowers = lower rules (weight_by ds) h.lowers;
      cause = h.cause;
      first =
          is_refusal rules wanted.coverage h.cause h.first;
      line = h.line;
    })
