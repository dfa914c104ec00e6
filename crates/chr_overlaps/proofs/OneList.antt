-- An overlap has one list of cases, or too many order types, and not both.
use Rattle.std.specs.Prelude.{◌≡◌, ℕ, ℤ, pos, ◌+◌, ◌-◌, ◌≤◌, List, [], length, map, Some, slice_get}
use Rattle.std.specs.List.{filter}
use Rattle.std.proofs.Common.{refl, sym, ap, subst, ◌∙◌, inl, inr}
use Rattle.std.proofs.lemmas.Option.{same_Some}
use Rattle.chr_base.specs.declared.rule.Rule.{Rule}
use Rattle.chr_types.specs.OrderTypes.{In, MoreTypesThan}
use Rattle.chr_types.specs.Representatives.{AreTypes}
use Rattle.chr_confluence.specs.Unifiers.{Substitution, IsMostGeneralUnifier, HasNoUnifier}
use Rattle.chr_confluence.specs.Overlaps.{IsOverlap, equations_of}
use Rattle.chr_confluence.specs.Constants.{AreConstants}
use Rattle.chr_confluence.specs.Representatives.{free_variables, guards_hold}
use Rattle.chr_confluence.proofs.ConstantLaws.{one_constants}
use Rattle.chr_confluence.proofs.Solutions.{spread, spread_constant, one_solution}
use Rattle.chr_overlaps.specs.declared.overlap.Overlap.{Overlap}
use Rattle.chr_overlaps.specs.declared.cases.Case.{Case}
use Rattle.chr_overlaps.specs.declared.unify.Unified.{Unified}
use Rattle.chr_overlaps.specs.OverlapLists.{AreOverlaps}
use Rattle.chr_overlaps.specs.CaseLists.{case_at, AreCases, IsTooMany}
use Rattle.chr_overlaps.specs.declared.cases.TheConstants.{MAX_TYPES}
use Rattle.chr_overlaps.specs.working.Unifiers.{classes_of, IsUnified}

-- an overlap of two rules is listed under their numbers
pub overlap_listed : (rules : List Rule) (os : List Overlap) → AreOverlaps rules os → (i j : ℕ) (m : List ℕ)
    → IsOverlap rules i j m
    → (o : Overlap) × In o os × (o.first ≡ i + 1) × (o.second ≡ j + 1) × (o.matching.items ≡ m)
overlap_listed rules os are i j m h = (
  record { first = i + 1; second = j + 1; matching = record { items = m } },
  are.all (record { first = i + 1; second = j + 1; matching = record { items = m } }) (i, j, (refl, refl, h)),
  refl,
  refl,
  refl,
)

-- the two answers
pub no_cases : (rules : List Rule) (o : Overlap) (r1 r2 : Rule) (cs : List Case) → slice_get rules (o.first - 1)
    ≡ Some r1 → slice_get rules (o.second - 1) ≡ Some r2
    → HasNoUnifier (equations_of r1 r2 o.matching.items) → cs ≡ [] → AreCases rules o cs
no_cases rules o r1 r2 cs a b none e = record { rule1 = r1; rule2 = r2; first = a; second = b; listed = inl (none, e) }

pub listed_cases : (rules : List Rule) (o : Overlap) (r1 r2 : Rule) (u : Unified) (constants : List ℤ)
    (rs : List (List ℤ)) (cs : List Case)
    → slice_get rules (o.first - 1) ≡ Some r1 → slice_get rules (o.second - 1) ≡ Some r2 → AreConstants rules constants
    → IsMostGeneralUnifier (classes_of u) (equations_of r1 r2 o.matching.items) → IsUnified r1 r2 u
    → AreTypes (length u.free.items) constants rs → length rs ≤ MAX_TYPES
    → cs ≡ map (case_at o r1 r2 (classes_of u)) (filter (guards_hold (classes_of u) r1 r2) rs) → AreCases rules o cs
listed_cases rules o r1 r2 u constants rs cs a b are solves is types within e = record {
  rule1 = r1;
  rule2 = r2;
  first = a;
  second = b;
  listed = inr (record {
    classes = classes_of u;
    representatives = rs;
    solves = solves;
    types = (constants, are, subst (λ fs. AreTypes (length fs) constants rs) is.free types);
    within = within;
    cases_are = e;
  });
}

pub too_many : (rules : List Rule) (o : Overlap) (r1 r2 : Rule) (u : Unified) (constants : List ℤ) (n : ℕ)
    → slice_get rules (o.first - 1) ≡ Some r1 → slice_get rules (o.second - 1) ≡ Some r2 → AreConstants rules constants
    → IsMostGeneralUnifier (classes_of u) (equations_of r1 r2 o.matching.items) → IsUnified r1 r2 u
    → (n ≡ length u.free.items) × MoreTypesThan MAX_TYPES (length u.free.items) constants → IsTooMany rules o n
too_many rules o r1 r2 u constants n a b are solves is more = record {
  rule1 = r1;
  rule2 = r2;
  first = a;
  second = b;
  classes = classes_of u;
  solves = solves;
  number = more.0 ∙ ap length is.free;
  constants = constants;
  are_constants = are;
  more = subst (λ k. MoreTypesThan MAX_TYPES k constants) (sym more.0) more.1;
}

-- whether the cases are too many does not hang on how it is told
pub not_too_many : (rules : List Rule) (o : Overlap) (r1 r2 : Rule) (u : Unified) (constants : List ℤ) (n : ℕ)
    → slice_get rules (o.first - 1) ≡ Some r1 → slice_get rules (o.second - 1) ≡ Some r2 → AreConstants rules constants
    → IsMostGeneralUnifier (classes_of u) (equations_of r1 r2 o.matching.items) → IsUnified r1 r2 u
    → (MoreTypesThan MAX_TYPES (length u.free.items) constants → ⊥) → IsTooMany rules o n → ⊥
not_too_many rules o r1 r2 u constants n a b are solves is none t =
    let one : t.rule1 ≡ r1 = same_Some t.rule1 r1 (sym t.first ∙ a) in
    let two : t.rule2 ≡ r2 = same_Some t.rule2 r2 (sym t.second ∙ b) in
    let theirs : IsMostGeneralUnifier t.classes (equations_of r1 r2 o.matching.items) =
    subst (λ r. IsMostGeneralUnifier t.classes (equations_of r1 r o.matching.items)) two
    (subst (λ r. IsMostGeneralUnifier t.classes (equations_of r t.rule2 o.matching.items)) one t.solves) in
    let same : t.classes ≡ classes_of u = (λ i x. one_solution t.classes (classes_of u)
    (equations_of r1 r2 o.matching.items) theirs solves x i) in
    let k : n ≡ length u.free.items = t.number ∙ (λ i. length (free_variables (same i) (one i) (two i)))
    ∙ ap length (sym is.free) in
    none (subst (λ cs. MoreTypesThan MAX_TYPES (length u.free.items) cs)
    (one_constants rules t.constants constants t.are_constants are)
    (subst (λ m. MoreTypesThan MAX_TYPES m t.constants) k t.more))

-- what has a most general unifier does not have none, however the rules are told
pub never_clash : (rules : List Rule) (o : Overlap) (r1 r2 : Rule) (σ : Substitution) (m : List ℕ)
    → slice_get rules (o.first - 1) ≡ Some r1 → slice_get rules (o.second - 1) ≡ Some r2
    → m ≡ o.matching.items → IsMostGeneralUnifier σ (equations_of r1 r2 m)
    → (s1 s2 : Rule) → slice_get rules (o.first - 1) ≡ Some s1 → slice_get rules (o.second - 1) ≡ Some s2
    → HasNoUnifier (equations_of s1 s2 o.matching.items) → ⊥
never_clash rules o r1 r2 σ m a b same solves s1 s2 c d none =
    let one : s1 ≡ r1 = same_Some s1 r1 (sym c ∙ a) in
    let two : s2 ≡ r2 = same_Some s2 r2 (sym d ∙ b) in
    let here : HasNoUnifier (equations_of r1 r2 m) = subst HasNoUnifier (λ i. equations_of (one i) (two i) (sym same i))
    none in
    here (spread σ (λ _. pos 0)) (solves.met (spread σ (λ _. pos 0)) (spread_constant σ (λ _. pos 0) solves.classes))

-- an overlap in which two constants would be one has no order types
pub never_many : (rules : List Rule) (o : Overlap) (r1 r2 : Rule) (n : ℕ) → slice_get rules (o.first - 1) ≡ Some r1
    → slice_get rules (o.second - 1) ≡ Some r2
    → HasNoUnifier (equations_of r1 r2 o.matching.items) → IsTooMany rules o n → ⊥
never_many rules o r1 r2 n a b none t = never_clash rules o t.rule1 t.rule2 t.classes o.matching.items t.first t.second
    refl t.solves r1 r2 a b none
