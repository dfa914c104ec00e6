-- Rules whose cases are joinable are locally confluent.
use Rattle.std.specs.Prelude.{◌≡◌, ℕ, ◌≤◌, Bool, List, Some, slice_get}
use Rattle.std.proofs.Common.{arith, inl, inr}
use Rattle.std.proofs.lemmas.Bool.{cases_lt}
use Rattle.chr_base.specs.declared.atom.Atom.{Atom}
use Rattle.chr_base.specs.declared.rule.Rule.{Rule}
use Rattle.chr_base.specs.Stores.{Store}
use Rattle.chr_base.specs.Rules.{Step, StepBy, Valuation}
use Rattle.chr_base.specs.Rewriting.{AreJoinable, IsLocallyConfluent}
use Rattle.chr_base.proofs.Rewriting.{reaches_after, reaches_itself}
use Rattle.chr_base.specs.Values.{Each}
use Rattle.chr_confluence.specs.Cases.{case_store, CasesAreJoinable}
use Rattle.chr_base.proofs.Each.{each_within}
use Rattle.chr_confluence.proofs.CaseSteps.{peak, case_joins}

module _ (p : Atom → Bool) (rules : List Rule) (cases : CasesAreJoinable p rules) where
  ordered : (s t u : Store) → Each p s → (i j : ℕ) (r1 r2 : Rule) (v1 v2 : Valuation) → slice_get rules i ≡ Some r1
      → slice_get rules j ≡ Some r2 → i ≤ j → StepBy r1 v1 s t → StepBy r2 v2 s u → AreJoinable (Step rules) t u
  ordered s t u each i j r1 r2 v1 v2 at1 at2 l st1 st2 =
      elim (peak r1 r2 v1 v2 s t u st1 st2) as (λ _. AreJoinable (Step rules) t u) [
        | inl c ↦ (
          c.0,
          reaches_after (Step rules) t c.0 c.0 (j, r2, v2, at2, c.1) (reaches_itself (Step rules) c.0),
          reaches_after (Step rules) u c.0 c.0 (i, r1, v1, at1, c.2) (reaches_itself (Step rules) c.0),
        )
        | inr c ↦ case_joins r1 r2 v1 v2 s t u st1 st2 rules c.0 c.1 c.2
            (cases i j r1 r2 at1 at2 l c.0 v1 v2 c.1 (each_within p (case_store r1 r2 c.0 v1 v2) s c.2 each))
      ]

  turned : (t u : Store) → AreJoinable (Step rules) u t → AreJoinable (Step rules) t u
  turned t u j = (j.0, j.2, j.1)

  -- Cases that join make the peaks join.
  pub peaks_join : IsLocallyConfluent (Step rules) (Each p)
  peaks_join s t u each h g =
      elim (cases_lt h.0 g.0) as (λ _. AreJoinable (Step rules) t u) [
        | inl l ↦ ordered s t u each h.0 g.0 h.1 g.1 h.2 g.2 h.3 g.3 (omega arith) h.4 g.4
        | inr l ↦ turned t u (ordered s u t each g.0 h.0 g.1 h.1 g.2 h.2 g.3 h.3 l g.4 h.4)
      ]
