-- By each coverage an overlap has one list of cases, or else too many of them.
use Rattle.std.specs.Prelude.{◌≡◌, ℕ, ◌-◌, ◌⊎◌, ℤ, List, [], length, map, Some, slice_get}
use Rattle.std.specs.List.{filter}
use Rattle.std.proofs.Common.{sym, ap, subst, ◌∙◌, arith, inl, inr}
use Rattle.std.proofs.lemmas.Option.{same_Some}
use Rattle.chr_base.specs.declared.rule.Rule.{Rule}
use Rattle.chr_confluence.specs.Unifiers.{Substitution, IsMostGeneralUnifier, HasNoUnifier}
use Rattle.chr_confluence.specs.Representatives.{guards_hold}
use Rattle.chr_confluence.proofs.Solutions.{one_solution}
use Rattle.chr_confluence.specs.Sorts.{Sorts}
use Rattle.chr_confluence.specs.SortedCases.{all_equations, class_sorts}
use Rattle.chr_overlaps.specs.declared.overlap.Overlap.{Overlap}
use Rattle.chr_overlaps.specs.declared.cases.Case.{Case}
use Rattle.chr_overlaps.specs.CaseLists.{case_at}
use Rattle.chr_sorting.specs.FinestSorts.{AreFinest}
use Rattle.chr_sorting.specs.SortedCaseLists.{AreCombinations, AreSortedListed, AreSortedCases, HasTooManyCombinations}
use Rattle.chr_sorting.proofs.OneCombinations.{combinations_one}
use Rattle.chr_sorting.proofs.OneFinest.{finest_have_one_cases, finest_have_as_many}
use Rattle.chr_join.specs.declared.coverage.Coverage.{Coverage}
use Rattle.chr_join.specs.declared.coverage.Coverage.TheVariants.{Joint, Sorted}
use Rattle.chr_join.specs.Coverages.{AreCasesBy, IsTooManyBy}
use Rattle.chr_join.proofs.OnceLists.{solved_meet, one_cases, cases_or_many, one_number}

-- ---- by the same sorts

module _ (s : Sorts) (rules : List Rule) (finest : AreFinest rules s) (o : Overlap) where
  abbrev Listed : Rule → Rule → List Case → Type 0
  Listed r1 r2 cs = (HasNoUnifier (all_equations r1 r2 o.matching.items) × (cs ≡ [])) ⊎ AreSortedListed s o r1 r2 cs

  -- the listing at these rules, which are those of the overlap
  listed_at : (cs : List Case) (r1 r2 : Rule) → slice_get rules (o.first - 1) ≡ Some r1 → slice_get rules (o.second - 1)
      ≡ Some r2 → AreSortedCases s rules o cs → Listed r1 r2 cs
  listed_at cs r1 r2 first second are =
      subst (λ r. Listed r1 r cs) (same_Some _ _ (sym are.second ∙ second))
      (subst (λ r. Listed r are.rule2 cs) (same_Some _ _ (sym are.first ∙ first)) are.listed)

  module _ (r1 r2 : Rule) where
    abbrev Solves : Substitution → Type 0
    Solves σ = IsMostGeneralUnifier σ (all_equations r1 r2 o.matching.items)

    one_classes : (σ τ : Substitution) → Solves σ → Solves τ → σ ≡ τ
    one_classes σ τ a b = λ i x. one_solution σ τ (all_equations r1 r2 o.matching.items) a b x i

    -- under one unifier there is one list of combinations
    same_combinations : (σ τ : Substitution) (rs ts : List (List ℤ)) → σ ≡ τ
        → AreCombinations s (class_sorts s σ r1 r2) rs → AreCombinations s (class_sorts s τ r1 r2) ts → rs ≡ ts
    same_combinations σ τ rs ts same a b = combinations_one s (class_sorts s τ r1 r2) rs ts finest.rise
        (subst (λ υ. AreCombinations s (class_sorts s υ r1 r2) rs) same a) b

    one_listed : (cs ds : List Case) → AreSortedListed s o r1 r2 cs → AreSortedListed s o r1 r2 ds → cs ≡ ds
    one_listed cs ds a b = a.cases_are ∙ (λ i. map (case_at o r1 r2 (classes i))
        (filter (guards_hold (classes i) r1 r2) (combinations i))) ∙ sym b.cases_are
      where
        classes : a.classes ≡ b.classes
        classes = one_classes a.classes b.classes a.solves b.solves

        combinations : a.combinations ≡ b.combinations
        combinations = same_combinations a.classes b.classes a.combinations b.combinations classes a.all b.all

  one_sorted : (cs ds : List Case) → AreSortedCases s rules o cs → AreSortedCases s rules o ds → cs ≡ ds
  one_sorted cs ds a b = by (listed_at cs b.rule1 b.rule2 b.first b.second a) b.listed
    where
      by : Listed b.rule1 b.rule2 cs → Listed b.rule1 b.rule2 ds → cs ≡ ds
      by (inl x) (inl y) = x.1 ∙ sym y.1
      by (inl x) (inr y) = absurd (solved_meet y.classes _ y.solves x.0)
      by (inr x) (inl y) = absurd (solved_meet x.classes _ x.solves y.0)
      by (inr x) (inr y) = one_listed b.rule1 b.rule2 cs ds x y

  sorted_or_many : (cs : List Case) (n : ℕ) → AreSortedCases s rules o cs → HasTooManyCombinations s rules o n → ⊥
  sorted_or_many cs n are many = by (listed_at cs many.rule1 many.rule2 many.first many.second are)
    where
      by : Listed many.rule1 many.rule2 cs → ⊥
      by (inl x) = solved_meet many.classes _ many.solves x.0
      by (inr x) =
          let classes = one_classes many.rule1 many.rule2 x.classes many.classes x.solves many.solves in
          let same = ap length (same_combinations many.rule1 many.rule2 x.classes many.classes x.combinations
          many.many.0 classes x.all many.many.1) in
          let few = x.within in
          let more = many.many.2 in
          omega (arith, same, few, more)

  one_sorted_number : (n m : ℕ) → HasTooManyCombinations s rules o n → HasTooManyCombinations s rules o m → n ≡ m
  one_sorted_number n m a b = a.number ∙ (λ i. length (class_sorts s (classes i) (one i) (two i))) ∙ sym b.number
    where
      one : a.rule1 ≡ b.rule1
      one = same_Some a.rule1 b.rule1 (sym a.first ∙ b.first)

      two : a.rule2 ≡ b.rule2
      two = same_Some a.rule2 b.rule2 (sym a.second ∙ b.second)

      mine : IsMostGeneralUnifier a.classes (all_equations b.rule1 b.rule2 o.matching.items)
      mine = subst (λ r. IsMostGeneralUnifier a.classes (all_equations b.rule1 r o.matching.items)) two
          (subst (λ r. IsMostGeneralUnifier a.classes (all_equations r a.rule2 o.matching.items)) one a.solves)

      classes : a.classes ≡ b.classes
      classes = one_classes b.rule1 b.rule2 a.classes b.classes mine b.solves

-- ---- by each coverage

pub one_cases_by : (coverage : Coverage) (rules : List Rule) (o : Overlap) (cs ds : List Case)
    → AreCasesBy coverage rules o cs → AreCasesBy coverage rules o ds → cs ≡ ds
one_cases_by Joint rules o cs ds a b = one_cases rules o cs ds a b
one_cases_by Sorted rules o cs ds a b = one_sorted a.0 rules a.1 o cs ds a.2
    (finest_have_one_cases rules b.0 a.0 b.1 a.1 o ds b.2)

pub cases_or_many_by : (coverage : Coverage) (rules : List Rule) (o : Overlap) (cs : List Case) (n : ℕ)
    → AreCasesBy coverage rules o cs → IsTooManyBy coverage rules o n → ⊥
cases_or_many_by Joint rules o cs n a b = cases_or_many rules o cs n a b
cases_or_many_by Sorted rules o cs n a b = sorted_or_many a.0 rules a.1 o cs n a.2
    (finest_have_as_many rules b.0 a.0 b.1 a.1 o n b.2)

pub one_number_by : (coverage : Coverage) (rules : List Rule) (o : Overlap) (n m : ℕ) → IsTooManyBy coverage rules o n
    → IsTooManyBy coverage rules o m → n ≡ m
one_number_by Joint rules o n m a b = one_number rules o n m a b
one_number_by Sorted rules o n m a b = one_sorted_number a.0 rules a.1 o n m a.2
    (finest_have_as_many rules b.0 a.0 b.1 a.1 o m b.2)
