-- Where rules are confluent and lower a weight, each joint case is joinable.
use Rattle.std.specs.Prelude.{◌≡◌, ℕ, List}
use Rattle.std.proofs.Common.{inl, inr}
use Rattle.chr_base.specs.declared.atom.Atom.{Atom}
use Rattle.chr_base.specs.declared.rule.Rule.{Rule}
use Rattle.chr_base.specs.declared.derivation.Step.{Step as StepValue}
use Rattle.chr_base.specs.Stores.{Store}
use Rattle.chr_base.proofs.SameStores.{same_or}
use Rattle.chr_confluence.specs.Lowering.{RulesLower}
use Rattle.chr_confluence.specs.laws.ListedCases.{FailingListedRefutes}
use Rattle.chr_overlaps.specs.declared.cases.Case.{Case}
use Rattle.chr_rewrite.specs.Derivations.{IsApplicable}
use Rattle.chr_rewrite.proofs.PlainThere.{leads_on, plain_there}
use Rattle.chr_join.specs.declared.coverage.Coverage.TheVariants.{Joint}
use Rattle.chr_join.specs.Sides.{IsJoinable, SideEnds}
use Rattle.chr_join.specs.working.Counting.{JointCasesJoin}
use Rattle.chr_join.proofs.CaseSteps.{CaseLaws, case_steps}
use Rattle.chr_join.proofs.Confluent.{apart_refutes}
use Rattle.chr_join.proofs.Lists.{from_each}
use Rattle.chr_join.proofs.SideSteps.{joined}

module _ (rules : List Rule) (w : Atom → ℕ) (lowers : RulesLower w rules) where
  -- a side has an end
  end_there : (s : Store) (st : StepValue) → IsApplicable rules s st → (t : Store) × SideEnds rules s st t
  end_there s st at =
      let u = leads_on rules s st at in
      let p = plain_there rules w lowers u.0 in
      (p.1, (p.0, (u.0, u.1, p.2)))

  -- both sides end in one store, or they end apart
  joins_or : (c : Case) → IsApplicable rules c.store c.left × IsApplicable rules c.store c.right
      → ((t u : Store) → SideEnds rules c.store c.left t → SideEnds rules c.store c.right u → ¬ (t ≡ u) → ⊥)
      → IsJoinable rules c
  joins_or c at never =
      let x = end_there c.store c.left at.0 in
      let y = end_there c.store c.right at.1 in
      elim (same_or x.0 y.0) as (λ _. IsJoinable rules c) [
        | inl e ↦ joined rules c x.0 y.0 e x.1 y.1
        | inr n ↦ absurd (never x.0 y.0 x.1 y.1 n)
      ]

pub confluent_joins : FailingListedRefutes → CaseLaws → JointCasesJoin
confluent_joins law laws rules w lowers confluent o of cs are = from_each (IsJoinable rules) cs (λ c i.
    joins_or rules w lowers c (case_steps laws Joint rules o cs of are c i)
    (λ t u l r n. apart_refutes law laws rules o of cs are c i t u l r n confluent))
