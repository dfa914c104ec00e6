-- What is said of an overlap's rules holds of the rules that are read at their places.
use Rattle.std.specs.Prelude.{◌≡◌, ℤ, List, [], Option, Some, None, IfSome, IfNone, Result, IfOk, if◌then◌else◌}
use Rattle.std.proofs.Common.{refl, sym, subst, ◌∙◌}
use Rattle.std.proofs.lemmas.Option.{same_Some}
use Rattle.chr_base.specs.declared.rule.Rule.{Rule}
use Rattle.chr_confluence.specs.Unifiers.{IsMostGeneralUnifier, HasNoUnifier}
use Rattle.chr_confluence.specs.Overlaps.{equations_of}
use Rattle.chr_confluence.specs.Representatives.{guards_hold}
use Rattle.chr_confluence.specs.SortedCases.{all_equations}
use Rattle.chr_overlaps.specs.declared.overlap.Overlap.{Overlap}
use Rattle.chr_overlaps.specs.declared.cases.Case.{Case}
use Rattle.chr_overlaps.specs.declared.unify.Unified.{Unified}
use Rattle.chr_overlaps.specs.CaseLists.{case_at, AreCases}
use Rattle.chr_overlaps.specs.UnifiedOverlaps.{AreRulesOf, IsUnifiedAt, IsSortedUnifiedAt, HasNoSortedUnifier}
use Rattle.chr_overlaps.specs.UnifiedOverlaps.{HasUnified}
use Rattle.chr_overlaps.specs.working.Unifiers.{classes_of, IsUnified}
use Rattle.chr_overlaps.proofs.OneList.{no_cases}

pub rules_once : (rules : List Rule) (o : Overlap) (r1 r2 s1 s2 : Rule) → AreRulesOf rules o r1 r2
    → AreRulesOf rules o s1 s2 → (r1 ≡ s1) × (r2 ≡ s2)
rules_once rules o r1 r2 s1 s2 a b = (same_Some r1 s1 (sym a.0 ∙ b.0), same_Some r2 s2 (sym a.1 ∙ b.1))

-- an overlap whose heads are made one has its rules' heads, guards and free classes
pub unified_has : (rules : List Rule) (o : Overlap) (u : Unified) → IsUnifiedAt rules o u → HasUnified rules o u
unified_has rules o u is = record { rule1 = is.rule1; rule2 = is.rule2; are_rules = is.are_rules; unified = is.unified }

pub sorted_unified_has : (rules : List Rule) (o : Overlap) (u : Unified) → IsSortedUnifiedAt rules o u
    → HasUnified rules o u
sorted_unified_has rules o u is = record {
  rule1 = is.rule1;
  rule2 = is.rule2;
  are_rules = is.are_rules;
  unified =
      is.unified;
}

pub unified_in : (rules : List Rule) (o : Overlap) (r1 r2 : Rule) (u : Unified) → AreRulesOf rules o r1 r2
    → HasUnified rules o u → IsUnified r1 r2 u
unified_in rules o r1 r2 u a is =
    let e = rules_once rules o is.rule1 is.rule2 r1 r2 is.are_rules a in
    subst (λ r. IsUnified r1 r u) e.1 (subst (λ r. IsUnified r is.rule2 u) e.0 is.unified)

pub none_unified : {X : Type 0} (rules : List Rule) (o : Overlap) (r1 r2 : Rule) (found : Option X)
    → AreRulesOf rules o r1 r2 → IfNone found (HasNoUnifier (equations_of r1 r2 o.matching.items))
    → IfNone found (AreCases rules o [])
none_unified rules o r1 r2 None a h = no_cases rules o r1 r2 [] a.0 a.1 h refl
none_unified rules o r1 r2 (Some x) a h = h

pub is_unified : (rules : List Rule) (o : Overlap) (r1 r2 : Rule) (found : Option Unified) → AreRulesOf rules o r1 r2
    → IfSome found (λ u. IsMostGeneralUnifier (classes_of u) (equations_of r1 r2 o.matching.items))
    → IfSome found (IsUnified r1 r2) → IfSome found (IsUnifiedAt rules o)
is_unified rules o r1 r2 None a s u = s
is_unified rules o r1 r2 (Some x) a s u = record { rule1 = r1; rule2 = r2; are_rules = a; solves = s; unified = u }

pub none_sorted : {X : Type 0} (rules : List Rule) (o : Overlap) (r1 r2 : Rule) (found : Option X)
    → AreRulesOf rules o r1 r2 → IfNone found (HasNoUnifier (all_equations r1 r2 o.matching.items))
    → IfNone found (HasNoSortedUnifier rules o)
none_sorted rules o r1 r2 None a h = record { rule1 = r1; rule2 = r2; are_rules = a; none = h }
none_sorted rules o r1 r2 (Some x) a h = h

pub is_sorted : (rules : List Rule) (o : Overlap) (r1 r2 : Rule) (found : Option Unified) → AreRulesOf rules o r1 r2
    → IfSome found (λ u. IsMostGeneralUnifier (classes_of u) (all_equations r1 r2 o.matching.items))
    → IfSome found (IsUnified r1 r2) → IfSome found (IsSortedUnifiedAt rules o)
is_sorted rules o r1 r2 None a s u = s
is_sorted rules o r1 r2 (Some x) a s u = record { rule1 = r1; rule2 = r2; are_rules = a; solves = s; unified = u }

pub case_in : {E : Type 0} (rules : List Rule) (o : Overlap) (r1 r2 s1 s2 : Rule) (u : Unified) (zs : List ℤ)
    (result : Result (Option Case) E) → AreRulesOf rules o r1 r2 → AreRulesOf rules o s1 s2
    → IfOk result (λ found. found ≡ (if guards_hold (classes_of u) r1 r2 zs then Some
    (case_at o r1 r2 (classes_of u) zs) else None))
    → IfOk result (λ found. found ≡ (if guards_hold (classes_of u) s1 s2 zs then Some
    (case_at o s1 s2 (classes_of u) zs) else None))
case_in rules o r1 r2 s1 s2 u zs result a b h =
    let e = rules_once rules o r1 r2 s1 s2 a b in
    subst (λ (r : Rule × Rule). IfOk result (λ found. found
    ≡ (if guards_hold (classes_of u) r.0 r.1 zs then Some (case_at o r.0 r.1 (classes_of u) zs) else None)))
    (λ i. (e.0 i, e.1 i)) h
