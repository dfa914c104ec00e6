-- Programs that are the same take the same steps, and so reach the same stores.
use Rattle.std.specs.Prelude.{◌≡◌, ℕ, zero, suc, List, ◌++◌, map, Option, Some, None, slice_get, IsTrue, option_map}
use Rattle.std.proofs.Common.{refl, sym, ap, ◌∙◌, subst}
use Rattle.std.proofs.lemmas.Option.{none-some, same_Some, slice_get-map}
use Rattle.chr_base.specs.declared.rule.Rule.{Rule}
use Rattle.chr_base.specs.FinBag.{◌⊕◌, ◌⊖◌, IsWithin}
use Rattle.chr_base.specs.Laws.{SameProgramsStepAlike, SameProgramsReachAlike}
use Rattle.chr_base.specs.Programs.{rules_of}
use Rattle.chr_base.specs.Rewriting.{Runs}
use Rattle.chr_base.specs.Rules.{Step, StepBy, Valuation, atoms_at, guard_holds}
use Rattle.chr_base.specs.Sameness.{Parts, parts_of}
use Rattle.chr_base.specs.Stores.{Store, store_of}

-- a step by the parts of a rule
record StepOf (p : Parts) (v : Valuation) (s t : Store) : Type 0 where
  guard : IsTrue (guard_holds v p.guard)
  there : IsWithin (store_of (atoms_at v (p.kept ++ p.removed))) s
  after : t ≡ (s ⊖ store_of (atoms_at v p.removed)) ⊕ store_of (atoms_at v p.body)

-- a rule with the same parts takes the same steps
pub same_rule : (r q : Rule) (v : Valuation) (s t : Store) → parts_of r ≡ parts_of q → StepBy r v s t → StepBy q v s t
same_rule r q v s t e h =
    let g : StepOf (parts_of q) v s t = subst (λ p. StepOf p v s t) e
    (record { guard = h.guard; there = h.there; after = h.after }) in
    record { guard = g.guard; there = g.there; after = g.after }

-- the rule in the same place
pub rule_there : (rs qs : List Rule) (i : ℕ) (r : Rule) → map parts_of rs ≡ map parts_of qs → slice_get rs i ≡ Some r
    → (q : Rule) × (slice_get qs i ≡ Some q) × (parts_of r ≡ parts_of q)
rule_there rs qs i r e h = by (slice_get qs i) refl
  where
    both : option_map parts_of (slice_get qs i) ≡ Some (parts_of r)
    both = sym (slice_get-map parts_of qs i) ∙ ap (λ l. slice_get l i) (sym e) ∙ slice_get-map parts_of rs i
        ∙ ap (option_map parts_of) h

    by : (o : Option Rule) → slice_get qs i ≡ o → (q : Rule) × (slice_get qs i ≡ Some q) × (parts_of r ≡ parts_of q)
    by None g = absurd (none-some (parts_of r) (ap (option_map parts_of) (sym g) ∙ both))
    by (Some q) g = (q, g, sym (same_Some (parts_of q) (parts_of r) (ap (option_map parts_of) (sym g) ∙ both)))

pub same_step : (rs qs : List Rule) (s t : Store) → map parts_of rs ≡ map parts_of qs → Step rs s t → Step qs s t
same_step rs qs s t e h = let f = rule_there rs qs h.0 h.1 e h.3 in
    (h.0, f.0, h.2, f.1, same_rule h.1 f.0 h.2 s t f.2 h.4)

pub same_programs_step_alike : SameProgramsStepAlike
same_programs_step_alike p q same s t = (
  λ h. same_step (rules_of p) (rules_of q) s t same.1 h,
  λ h. same_step (rules_of q) (rules_of p) s t (sym same.1) h,
)

pub same_runs : (rs qs : List Rule) (n : ℕ) (s t : Store) → map parts_of rs ≡ map parts_of qs → Runs (Step rs) n s t
    → Runs (Step qs) n s t
same_runs rs qs zero s t e h = h
same_runs rs qs (suc n) s t e h = (h.0, same_step rs qs s h.0 e h.1, same_runs rs qs n h.0 t e h.2)

pub same_programs_reach_alike : SameProgramsReachAlike
same_programs_reach_alike p q same s t = (
  λ h. (h.0, same_runs (rules_of p) (rules_of q) h.0 s t same.1 h.1),
  λ h. (h.0, same_runs (rules_of q) (rules_of p) h.0 s t (sym same.1) h.1),
)
