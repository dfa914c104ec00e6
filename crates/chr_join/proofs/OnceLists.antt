-- Rules have one list of overlaps, and an overlap has one list of cases, or else too many order types.
use Rattle.chr_overlaps.proofs.OneList.{overlap_listed}
use Rattle.std.specs.Prelude.{◌≡◌, ℕ, pos, ◌-◌, List, [], ◌⊎◌, length, map, Some, slice_get}
use Rattle.std.specs.List.{filter}
use Rattle.std.proofs.Common.{sym, ap, subst, ◌∙◌, inl, inr}
use Rattle.std.proofs.lemmas.Option.{same_Some}
use mathlib.Core.Bool.{true≢false}
use Rattle.std.specs.Ordering.{is_lt}
use Rattle.std.specs.declared.cmp.Ordering.TheVariants.{Less}
use Rattle.std.proofs.lemmas.Cmp.{nat_list_cmp_total, tied_itself}
use Rattle.chr_base.specs.declared.term.Term.{Term}
use Rattle.chr_base.specs.declared.rule.Rule.{Rule}
use Rattle.chr_types.specs.OrderTypes.{In, MoreTypesThan}
use Rattle.chr_types.proofs.RisingLists.{same_members}
use Rattle.chr_types.specs.Representatives.{AreTypes}
use Rattle.chr_types.proofs.OneList.{one_list}
use Rattle.chr_types.proofs.TooMany.{not_more}
use Rattle.chr_confluence.specs.Unifiers.{Substitution, IsMostGeneralUnifier, HasNoUnifier}
use Rattle.chr_confluence.specs.Overlaps.{equations_of}
use Rattle.chr_confluence.specs.Representatives.{AreRepresentatives, free_variables, guards_hold}
use Rattle.chr_confluence.proofs.ConstantLaws.{one_constants}
use Rattle.chr_confluence.proofs.Solutions.{spread, spread_constant, one_solution}
use Rattle.chr_overlaps.specs.declared.overlap.Overlap.{Overlap}
use Rattle.chr_overlaps.specs.declared.cases.Case.{Case}
use Rattle.chr_overlaps.specs.OverlapLists.{overlap_cmp, entries, AreOverlaps}
use Rattle.chr_overlaps.specs.declared.cases.TheConstants.{MAX_TYPES}
use Rattle.chr_overlaps.specs.CaseLists.{case_at, AreListed, AreCases, IsTooMany}

-- ---- overlaps

same_overlap : (o p : Overlap) → o.first ≡ p.first → o.second ≡ p.second → o.matching.items ≡ p.matching.items → o ≡ p
same_overlap o p first second matching = λ t. record {
  first = first t;
  second = second t;
  matching =
      record { items = matching t };
}

pub one_overlaps : (rules : List Rule) (os ps : List Overlap) → AreOverlaps rules os → AreOverlaps rules ps → os ≡ ps
one_overlaps rules os ps a b =
    same_members {A = Overlap} (λ o p. overlap_cmp o p ≡ Less)
    (λ o h. true≢false (sym (ap is_lt h) ∙ ap is_lt (tied_itself nat_list_cmp_total (entries o))))
    (λ o p q h g. nat_list_cmp_total.trans (entries o) (entries p) (entries q) h g)
    os ps a.rise b.rise (over os ps a b) (over ps os b a)
  where
    over : (os ps : List Overlap) → AreOverlaps rules os → AreOverlaps rules ps → (o : Overlap) → In o os → In o ps
    over os ps a b o i =
        let is = a.each o i in
        let there = overlap_listed rules ps b is.0 is.1 o.matching.items is.2.2 in
        subst (λ p. In p ps) (same_overlap there.0 o (there.2 ∙ sym is.2.0) (there.3 ∙ sym is.2.1) there.4) there.1

-- ---- cases

-- classes that solve equations show a valuation that meets them
pub solved_meet : (σ : Substitution) (es : List (Term × Term)) → IsMostGeneralUnifier σ es → HasNoUnifier es → ⊥
solved_meet σ es solves none = none (spread σ (λ _. pos 0))
    (solves.met (spread σ (λ _. pos 0)) (spread_constant σ (λ _. pos 0) solves.classes))

one_listed : (rules : List Rule) (o : Overlap) (r1 r2 : Rule) (cs ds : List Case) → AreListed rules o r1 r2 cs
    → AreListed rules o r1 r2 ds → cs ≡ ds
one_listed rules o r1 r2 cs ds a b = a.cases_are ∙ (λ t. map (case_at o r1 r2 (classes t))
    (filter (guards_hold (classes t) r1 r2) (representatives t))) ∙ sym b.cases_are
  where
    classes : a.classes ≡ b.classes
    classes = λ t x. one_solution a.classes b.classes (equations_of r1 r2 o.matching.items) a.solves b.solves x t

    representatives : a.representatives ≡ b.representatives
    representatives =
        let n = length (free_variables b.classes r1 r2) in
        let mine : AreRepresentatives rules r1 r2 b.classes a.representatives =
        subst (λ σ. AreRepresentatives rules r1 r2 σ a.representatives) classes a.types in
        one_list n b.types.0 a.representatives b.representatives b.types.1.rise
        (subst (λ cs. AreTypes n cs a.representatives) (one_constants rules mine.0 b.types.0 mine.1 b.types.1)
        mine.2) b.types.2

abbrev Listed : List Rule → Overlap → Rule → Rule → List Case → Type 0
Listed rules o r1 r2 cs = (HasNoUnifier (equations_of r1 r2 o.matching.items) × (cs ≡ [])) ⊎ AreListed rules o r1 r2 cs

-- the listing at these rules, which are those of the overlap
listed_at : (rules : List Rule) (o : Overlap) (cs : List Case) (r1 r2 : Rule) → slice_get rules (o.first - 1) ≡ Some r1
    → slice_get rules (o.second - 1) ≡ Some r2 → AreCases rules o cs → Listed rules o r1 r2 cs
listed_at rules o cs r1 r2 first second are =
    subst (λ r. Listed rules o r1 r cs) (same_Some _ _ (sym are.second ∙ second))
    (subst (λ r. Listed rules o r are.rule2 cs) (same_Some _ _ (sym are.first ∙ first)) are.listed)

pub one_cases : (rules : List Rule) (o : Overlap) (cs ds : List Case) → AreCases rules o cs → AreCases rules o ds
    → cs ≡ ds
one_cases rules o cs ds a b = by (listed_at rules o cs b.rule1 b.rule2 b.first b.second a) b.listed
  where
    by : Listed rules o b.rule1 b.rule2 cs → Listed rules o b.rule1 b.rule2 ds → cs ≡ ds
    by (inl x) (inl y) = x.1 ∙ sym y.1
    by (inl x) (inr y) = absurd (solved_meet y.classes _ y.solves x.0)
    by (inr x) (inl y) = absurd (solved_meet x.classes _ x.solves y.0)
    by (inr x) (inr y) = one_listed rules o b.rule1 b.rule2 cs ds x y

-- ---- too many order types

pub cases_or_many : (rules : List Rule) (o : Overlap) (cs : List Case) (n : ℕ) → AreCases rules o cs
    → IsTooMany rules o n → ⊥
cases_or_many rules o cs n are many = by (listed_at rules o cs many.rule1 many.rule2 many.first many.second are)
  where
    by : Listed rules o many.rule1 many.rule2 cs → ⊥
    by (inl x) = solved_meet many.classes _ many.solves x.0
    by (inr x) =
        let classes : x.classes ≡ many.classes = λ t y. one_solution x.classes many.classes
        (equations_of many.rule1 many.rule2 o.matching.items) x.solves many.solves y t in
        let number : n ≡ length (free_variables x.classes many.rule1 many.rule2) =
        many.number ∙ (λ t. length (free_variables (sym classes t) many.rule1 many.rule2)) in
        let constants = one_constants rules many.constants x.types.0 many.are_constants x.types.1 in
        not_more MAX_TYPES (length (free_variables x.classes many.rule1 many.rule2)) x.types.0 x.representatives
        x.types.2 x.within
        (subst (λ k. MoreTypesThan MAX_TYPES k x.types.0) number
        (subst (λ cs. MoreTypesThan MAX_TYPES n cs) constants many.more))

pub one_number : (rules : List Rule) (o : Overlap) (n m : ℕ) → IsTooMany rules o n → IsTooMany rules o m → n ≡ m
one_number rules o n m a b = a.number ∙ (λ t. length (free_variables (classes t) (one t) (two t))) ∙ sym b.number
  where
    one : a.rule1 ≡ b.rule1
    one = same_Some a.rule1 b.rule1 (sym a.first ∙ b.first)

    two : a.rule2 ≡ b.rule2
    two = same_Some a.rule2 b.rule2 (sym a.second ∙ b.second)

    mine : IsMostGeneralUnifier a.classes (equations_of b.rule1 b.rule2 o.matching.items)
    mine = subst (λ r. IsMostGeneralUnifier a.classes (equations_of b.rule1 r o.matching.items)) two
        (subst (λ r. IsMostGeneralUnifier a.classes (equations_of r a.rule2 o.matching.items)) one a.solves)

    classes : a.classes ≡ b.classes
    classes = λ t x. one_solution a.classes b.classes (equations_of b.rule1 b.rule2 o.matching.items) mine b.solves x t
