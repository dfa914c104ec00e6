-- From single steps and plain derivations to the sides of cases.
use Rattle.std.specs.Prelude.{◌≡◌, ℕ, ◌-◌, List, ◌∷◌, Result, Ok, Err, IfOk, get_or}
use Rattle.std.proofs.Common.{refl, sym, subst, ◌∙◌}
use Rattle.std.proofs.lemmas.Option.{get_or_from_slice_get}
use Rattle.chr_base.specs.declared.atom.Atom.{Atom}
use Rattle.chr_base.specs.declared.rule.Rule.{Rule}
use Rattle.chr_base.specs.declared.derivation.Step.{Step}
use Rattle.chr_base.specs.Stores.{Store}
use Rattle.chr_base.specs.Rules.{StepOn}
use Rattle.chr_rewrite.specs.Derivations.{IsApplicable, LeadsTo, IsDerivation, IsPlainComputation}
use Rattle.chr_rewrite.proofs.DerivationLemmas.{LeadsTo-once, plain_once, plain_replays}
use Rattle.chr_base.specs.declared.derivation.Derivation.{Derivation}
use Rattle.chr_join.specs.declared.coverage.Coverage.{Coverage}
use Rattle.chr_join.specs.declared.refused.Cause.{Cause}
use Rattle.chr_join.specs.declared.refused.Cause.TheVariants as cause
use Rattle.chr_join.specs.Explanations.{IsSideOf, IsRefusalBy, IfFails, ReplaysToRest, ReplaysApart}
use Rattle.chr_overlaps.specs.declared.cases.Case.{Case}
use Rattle.chr_confluence.specs.Lowering.{RulesLower}
use Rattle.chr_rewrite.proofs.PlainThere.{plain_there}
use Rattle.chr_join.specs.Sides.{IsSideComputation, SideEnds, IsJoinable}
use Rattle.chr_join.specs.working.Ends.{EndsIn}

takes : (rules listed : List Rule) (st : Step) (s s' t : Store) (r : Rule) (heads : List Atom) → IsApplicable rules s st
    → listed ≡ rules → r ≡ get_or listed (st.rule - 1) r → heads ≡ st.heads.items → s' ≡ s → StepOn r heads s' t
    → LeadsTo rules st s t
takes rules listed st s s' t r heads at same is heads_are stores step =
    let rule : r ≡ at.rule = is ∙ (λ i. get_or (same i) (st.rule - 1) r)
    ∙ get_or_from_slice_get rules (st.rule - 1) at.rule r at.named in (
      at,
      subst (λ x. StepOn x st.heads.items s t) rule
          (subst (λ x. StepOn r st.heads.items x t) stores (subst (λ hs. StepOn r hs s' t) heads_are step)),
    )

pub taken : {E : Type 0} (rules listed : List Rule) (st : Step) (s : Store) (result : Result Store E) (r : Rule)
    (heads : List Atom) → IsApplicable rules s st → listed ≡ rules → r ≡ get_or listed (st.rule - 1) r
    → heads ≡ st.heads.items
    → IfOk result (StepOn r heads s) → IfOk result (λ t. LeadsTo rules st s t)
taken rules listed st s (Ok t) r heads at same is heads_are step =
    takes rules listed st s s t r heads at same is heads_are refl step
taken rules listed st s (Err e) r heads at same is heads_are step = tt

pub joined : (rules : List Rule) (c : Case) (t u : Store) → t ≡ u → SideEnds rules c.store c.left t
    → SideEnds rules c.store c.right u → IsJoinable rules c
joined rules c t u e l r = record { end = u; left = subst (SideEnds rules c.store c.left) e l; right = r }

-- sides that are equal have one end, since their store has one
pub joined_early : (rules : List Rule) (w : Atom → ℕ) (lowers : RulesLower w rules) (c : Case) (t u : Store) → t ≡ u
    → LeadsTo rules c.left c.store t → LeadsTo rules c.right c.store u → IsJoinable rules c
joined_early rules w lowers c t u e l r =
    let p = plain_there rules w lowers u in
    record {
      end = p.1;
      left = (p.0, (t, l, subst (λ x. IsPlainComputation rules p.0 x p.1) (sym e) p.2));
      right =
          (p.0, (u, r, p.2));
    }

-- from the store after a step to its side
pub side_ends : (rules : List Rule) (s u t : Store) (st : Step) → LeadsTo rules st s u → EndsIn rules u t
    → SideEnds rules s st t
side_ends rules s u t st h p = (p.0, (u, h, p.1))

-- a side has one derivation
pub side_once : (rules : List Rule) (s : Store) (st : Step) (xs ys : List Step) (t u : Store)
    → IsSideComputation rules s st xs t → IsSideComputation rules s st ys u → (xs ≡ ys) × (t ≡ u)
side_once rules s st xs ys t u h g =
    let same = LeadsTo-once rules st s h.0 g.0 h.1 g.1 in
    plain_once rules xs ys g.0 t u (subst (λ x. IsPlainComputation rules xs x t) same h.2) g.2

-- the derivation of a side ends where the side does
pub side_to : (rules : List Rule) (s : Store) (st : Step) (d : Derivation) (t : Store) → SideEnds rules s st t
    → (end : Store) × IsSideOf rules s st d end → IsSideOf rules s st d t
side_to rules s st d t h is = subst (IsSideOf rules s st d) (side_once rules s st is.1.rest h.0 is.0 t is.1.runs h.1).1
    is.1

-- ---- replaying

side_replays : (rules : List Rule) (s : Store) (st : Step) (d : Derivation) (t : Store) → IsSideOf rules s st d t
    → ReplaysToRest rules d t
side_replays rules s st d t h = (
  subst (λ xs. IsDerivation rules xs d.start t) (sym h.steps)
      (subst (λ x. IsDerivation rules (st ∷ h.rest) x t) (sym h.start)
      (h.runs.0, h.runs.1, plain_replays rules h.rest h.runs.0 t h.runs.2)),
  h.runs.2.1,
)

pub failing_replays : (coverage : Coverage) (rules : List Rule) (e : Cause) → IsRefusalBy coverage rules e
    → IfFails e (ReplaysApart rules)
failing_replays coverage rules (cause.Fails f) h =
    let c = h.1.case in
    let x = h.1.explains in
    record {
      start = x.left.start ∙ sym x.right.start;
      left = side_replays rules c.store c.left f.left f.left_end x.left;
      right = side_replays rules c.store c.right f.right f.right_end x.right;
      differ = x.differ;
    }
failing_replays coverage rules (cause.TooManyTypes t) h = tt
failing_replays coverage rules cause.Memory h = tt
