-- The stores that a derivation passes through.
use Rattle.std.specs.Prelude.{◌≡◌, ℕ, zero, suc, ◌-◌, ◌≤◌, List, [], ◌∷◌, ◌++◌, length, take, drop, get_or}
use Rattle.std.specs.Prelude.{Result, Ok, Err, OnOk}
use Rattle.std.proofs.Common.{refl, sym, ap, subst, append_assoc, ◌∙◌}
use Rattle.chr_base.proofs.Bindings.{first_rest}
use Rattle.chr_base.specs.declared.rule.Rule.{Rule}
use Rattle.chr_base.specs.declared.derivation.Step.{Step}
use Rattle.chr_base.specs.Stores.{Store}
use Rattle.chr_rewrite.specs.Derivations.{IsApplicable, LeadsTo, IsDerivation}
use Rattle.chr_rewrite.proofs.DerivationLemmas.{LeadsTo-once}
use Rattle.chr_diagnosis.specs.Diagnoses.{PassesThrough}

abbrev pub Derives : List Rule → List Step → Store → Type 0
Derives rules steps s = (t : Store) × IsDerivation rules steps s t

-- the first steps of a derivation are one
pub first_steps : (rules : List Rule) (n : ℕ) (steps : List Step) (s t : Store) → IsDerivation rules steps s t
    → Derives rules (take n steps) s
first_steps rules zero steps s t h = (s, refl)
first_steps rules (suc n) [] s t h = (s, refl)
first_steps rules (suc n) (st ∷ steps) s t h =
    let more = first_steps rules n steps h.0 t h.2 in
    (more.0, (h.0, h.1, more.1))

-- the steps after the first
abbrev pub rest_of : List Step → List Step
rest_of steps = take (length steps - 1) (drop 1 steps)

cut : (steps : List Step) (st : Step) → 1 ≤ length steps → st ≡ get_or steps 0 st → st ∷ rest_of steps ≡ steps
cut steps st l e = subst (λ x. x ∷ rest_of steps ≡ steps) (sym e) (first_rest steps st l)

-- the first step of a derivation is applicable
pub applicable_first : (rules : List Rule) (steps : List Step) (st : Step) (s : Store) → 1 ≤ length steps
    → st ≡ get_or steps 0 st → Derives rules steps s → IsApplicable rules s st
applicable_first rules steps st s l e h =
    let d : Derives rules (st ∷ rest_of steps) s = subst (λ xs. Derives rules xs s) (sym (cut steps st l e)) h in
    d.1.1.0

-- and from where it leads the others are a derivation
pub derives_on : (rules : List Rule) (steps : List Step) (st : Step) (s u : Store) → 1 ≤ length steps
    → st ≡ get_or steps 0 st → Derives rules steps s → LeadsTo rules st s u → Derives rules (rest_of steps) u
derives_on rules steps st s u l e h leads =
    let d : Derives rules (st ∷ rest_of steps) s = subst (λ xs. Derives rules xs s) (sym (cut steps st l e)) h in
    (d.0, subst (λ x. IsDerivation rules (rest_of steps) x d.0) (LeadsTo-once rules st s d.1.0 u d.1.1 leads) d.1.2)

-- with the first step they pass through one store more
pub passes_on : (rules : List Rule) (steps : List Step) (st : Step) (s u : Store) (stores : List Store)
    → 1 ≤ length steps → st ≡ get_or steps 0 st → LeadsTo rules st s u → PassesThrough rules (rest_of steps) u stores
    → PassesThrough rules steps s (u ∷ stores)
passes_on rules steps st s u stores l e leads h =
    subst (λ xs. PassesThrough rules xs s (u ∷ stores)) (cut steps st l e) (leads, h)

pub stores_passed : {E : Type 0} (rules : List Rule) (steps : List Step) (st : Step) (s u : Store)
    (old more new : List Store) (r : Result Unit E) → 1 ≤ length steps → st ≡ get_or steps 0 st → LeadsTo rules st s u
    → more ≡ old ++ u ∷ []
    → OnOk r ((passed : List Store) × (new ≡ more ++ passed) × PassesThrough rules (rest_of steps) u passed)
    → OnOk r ((passed : List Store) × (new ≡ old ++ passed) × PassesThrough rules steps s passed)
stores_passed rules steps st s u old more new (Ok x) l e leads pushed h = (
  u ∷ h.0,
  h.1 ∙ ap (λ xs. xs ++ h.0) pushed ∙ append_assoc old (u ∷ []) h.0,
  passes_on rules steps st s u h.0 l e leads h.2,
)
stores_passed rules steps st s u old more new (Err x) l e leads pushed h = h
