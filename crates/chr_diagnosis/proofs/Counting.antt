-- Overlaps that are counted one after another.
use Rattle.std.specs.Prelude.{◌≡◌, ℕ, zero, suc, ◌+◌, ◌<◌, List, [], ◌∷◌, ◌++◌, length, map, take, get_or}
use Rattle.std.specs.Prelude.{Option, Some, None}
use Rattle.std.specs.List.{All, AllZip}
use Rattle.std.proofs.Common.{sym, ap, subst, ◌∙◌, arith, inl, inr}
use Rattle.std.proofs.lemmas.List.{map-append, take_more}
use Rattle.std.proofs.lemmas.List.Elements.{All-push}
use Rattle.chr_base.specs.declared.rule.Rule.{Rule}
use Rattle.chr_overlaps.specs.declared.overlap.Overlap.{Overlap}
use Rattle.chr_overlaps.specs.CaseLists.{AreCases, IsTooMany}
use Rattle.chr_join.specs.declared.coverage.Coverage.{Coverage}
use Rattle.chr_join.specs.declared.coverage.Coverage.TheVariants.{Joint, Sorted}
use Rattle.chr_join.specs.Numbers.{HasNumber}
use Rattle.chr_diagnosis.specs.declared.diagnosis.Counted.{Counted}
use Rattle.chr_diagnosis.specs.Diagnoses.{IsCountedBy}
use Rattle.chr_diagnosis.specs.working.Numbers.{AreNumbersBy, number_at}

-- the first k overlaps are counted
abbrev pub AreCountedTo : Coverage → List Rule → ℕ → List Overlap → List Counted → Type 0
AreCountedTo coverage rules k os counts = (map (λ c. c.overlap) counts ≡ take k os)
    × All (IsCountedBy coverage rules) counts

pub one_more : (coverage : Coverage) (rules : List Rule) (k : ℕ) (os : List Overlap) (o : Overlap)
    (counts new : List Counted) (c : Counted) → k < length os → o ≡ get_or os k o → c.overlap ≡ o
    → IsCountedBy coverage rules c → new ≡ counts ++ c ∷ []
    → AreCountedTo coverage rules k os counts → AreCountedTo coverage rules (k + 1) os new
one_more coverage rules k os o counts new c l e is counted pushed h = (
  ap (map (λ x. x.overlap)) pushed ∙ map-append (λ x. x.overlap) counts (c ∷ []) ∙ ap (λ xs. xs ++ c.overlap ∷ []) h.0
      ∙ ap (λ x. take k os ++ x ∷ []) (is ∙ e) ∙ sym (take_more os k o l),
  subst (All (IsCountedBy coverage rules)) (sym pushed) (All-push (IsCountedBy coverage rules) counts c h.1 counted),
)

-- an overlap with its number is counted
with_number : (rules : List Rule) (o : Overlap) (n : Option ℕ) (c : Counted) → HasNumber rules o n → c.overlap ≡ o
    → c.cases ≡ number_at (n ∷ []) 0 → IsCountedBy Joint rules c
with_number rules o (Some n) c h is number =
    inl (h.0, subst (λ p. AreCases rules p h.0) (sym is) h.1, number ∙ h.2)
with_number rules o None c h is number = inr (h.0, subst (λ p. IsTooMany rules p h.0) (sym is) h.1, number)

-- so is one whose number stands at its place
pub counted_at_place : (coverage : Coverage) (rules : List Rule) (os : List Overlap) (ns : List (Option ℕ)) (k : ℕ)
    (o : Overlap) (c : Counted) → AreNumbersBy coverage rules os ns → k < length os → o ≡ get_or os k o
    → c.overlap ≡ o → c.cases ≡ number_at ns k → IsCountedBy coverage rules c
counted_at_place Sorted rules os ns k o c none l e is number = number ∙ ap (λ ms. number_at ms k) none
counted_at_place Joint rules [] ns k o c h l e is number = absurd (omega (arith, l))
counted_at_place Joint rules (p ∷ os) [] k o c h l e is number = absurd h
counted_at_place Joint rules (p ∷ os) (n ∷ ns) zero o c h l e is number = with_number rules p n c h.0 (is ∙ e) number
counted_at_place Joint rules (p ∷ os) (n ∷ ns) (suc k) o c h l e is number =
    counted_at_place Joint rules os ns k o c h.1 (omega (arith, l)) e is number
