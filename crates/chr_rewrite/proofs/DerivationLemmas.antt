-- Laws of derivations: what they reach, and that a store has one plain derivation.
use Rattle.std.specs.Prelude.{◌≡◌, ℕ, zero, suc, ◌-◌, ◌<◌, List, [], ◌∷◌, Some, None, slice_get, take}
use Rattle.std.specs.declared.cmp.Ordering.{Ordering}
use Rattle.std.specs.declared.cmp.Ordering.TheVariants.{Less, Equal, Greater}
use Rattle.std.specs.Ordering.{ordering_reverse}
use Rattle.std.specs.Cmp.{IsTotalOrder}
use Rattle.std.specs.Cmp.Lexicographic.{slice_cmp, lists_total}
use Rattle.std.specs.FinMap.{slice_cmp-IsAntisymmetric}
use Rattle.std.proofs.Common.{refl, sym, ap, subst, ◌∙◌, arith}
use Rattle.chr_base.specs.declared.atom.Atom.{Atom}
use Rattle.chr_base.specs.declared.rule.Rule.{Rule}
use Rattle.chr_base.specs.declared.derivation.Step.{Step as StepValue}
use Rattle.chr_base.specs.Atoms.{atom_cmp}
use Rattle.chr_base.proofs.Atoms.{atom_total, atom_exact}
use Rattle.chr_base.specs.FinBag.{IsWithin, ◌⊕◌, ◌⊖◌}
use Rattle.chr_base.specs.Stores.{Store, store_of}
use Rattle.chr_base.proofs.Instances.{body_is}
use Rattle.chr_base.proofs.Steps.{removed_heads, instance_steps}
use Rattle.chr_base.specs.Rules.{Step, HasInstance, atoms_at, StepOn}
use Rattle.chr_base.specs.Rewriting.{Reaches, IsAtRest, IsNormalForm}
use Rattle.chr_base.proofs.Rewriting.{reaches_after}
use Rattle.chr_rewrite.specs.Derivations.{IsApplicable, LeadsTo, IsDerivation, IsLeastInstance, IsLeastStep}
use Rattle.chr_rewrite.specs.Derivations.{IsPlainDerivation, IsPlainComputation, IsFirstInapplicable}

-- the heads determine the step
pub StepOn-once : (r : Rule) (heads : List Atom) (s t u : Store) → StepOn r heads s t → StepOn r heads s u → t ≡ u
StepOn-once r heads s t u h g =
    let left : atoms_at h.0 r.removed.items ≡ atoms_at g.0 r.removed.items = sym (removed_heads r heads h.0 h.1)
    ∙ removed_heads r heads g.0 g.1 in
    let came : atoms_at h.0 r.body.items ≡ atoms_at g.0 r.body.items = sym (body_is r heads h.0 h.1)
    ∙ body_is r heads g.0 g.1 in
    h.2.after ∙ (λ i. (s ⊖ store_of (left i)) ⊕ store_of (came i)) ∙ sym g.2.after

pub LeadsTo-steps : (rules : List Rule) (st : StepValue) (s t : Store) → LeadsTo rules st s t → Step rules s t
LeadsTo-steps rules st s t h = (st.rule - 1, h.0.rule, h.1.0, h.0.named, h.1.2)

-- a step at one store is of one rule
same_rule : (rules : List Rule) (n : ℕ) (r q : Rule) → slice_get rules n ≡ Some r → slice_get rules n ≡ Some q → r ≡ q
same_rule rules n r q h g = cc

pub LeadsTo-once : (rules : List Rule) (st : StepValue) (s t u : Store) → LeadsTo rules st s t → LeadsTo rules st s u
    → t ≡ u
LeadsTo-once rules st s t u h g =
    let same = same_rule rules (st.rule - 1) h.0.rule g.0.rule h.0.named g.0.named in
    StepOn-once g.0.rule st.heads.items s t u (subst (λ r. StepOn r st.heads.items s t) same h.1) g.1

IsPlainDerivation-derivation : (rules : List Rule) (steps : List StepValue) (s t : Store)
    → IsPlainDerivation rules steps s t → IsDerivation rules steps s t
IsPlainDerivation-derivation rules [] s t h = h
IsPlainDerivation-derivation rules (st ∷ steps) s t h = (h.0, h.2, IsPlainDerivation-derivation rules steps h.0 t h.3)

pub plain_replays : (rules : List Rule) (steps : List StepValue) (s t : Store) → IsPlainComputation rules steps s t
    → IsDerivation rules steps s t
plain_replays rules steps s t h = IsPlainDerivation-derivation rules steps s t h.0

pub replays_reaches : (rules : List Rule) (steps : List StepValue) (s t : Store) → IsDerivation rules steps s t
    → Reaches (Step rules) s t
replays_reaches rules [] s t h = (0, h)
replays_reaches rules (st ∷ steps) s t h = reaches_after (Step rules) s h.0 t (LeadsTo-steps rules st s h.0 h.1)
    (replays_reaches rules steps h.0 t h.2)

pub plain_reaches : (rules : List Rule) (steps : List StepValue) (s t : Store) → IsPlainComputation rules steps s t
    → Reaches (Step rules) s t
plain_reaches rules steps s t h = replays_reaches rules steps s t (plain_replays rules steps s t h)

pub plain_normal : (rules : List Rule) (steps : List StepValue) (s t : Store) → IsPlainComputation rules steps s t
    → IsNormalForm (Step rules) s t
plain_normal rules steps s t h = (plain_reaches rules steps s t h, h.1)

-- a derivation has one end
pub replays_once : (rules : List Rule) (steps : List StepValue) (s t u : Store) → IsDerivation rules steps s t
    → IsDerivation rules steps s u → t ≡ u
replays_once rules [] s t u h g = sym h ∙ g
replays_once rules (st ∷ steps) s t u h g =
    let same = LeadsTo-once rules st s h.0 g.0 h.1 g.1 in
    replays_once rules steps g.0 t u (subst (λ x. IsDerivation rules steps x t) same h.2) g.2

-- two least steps of one store are of one rule
not_before : (rules : List Rule) (s : Store) (x y : StepValue) → IsLeastStep rules s x → IsLeastStep rules s y
    → x.rule < y.rule → ⊥
not_before rules s x y h g l =
    let n = h.at.numbered in
    instance_steps h.at.rule x.heads.items s h.at.instance h.at.there
    (g.least_rule (x.rule - 1) h.at.rule (omega (arith, n, l)) h.at.named)

-- two least instances of one rule in one store have the same heads
same_tuple : (r : Rule) (s : Store) (xs ys : List Atom) → HasInstance r xs → IsWithin (store_of xs) s
    → IsLeastInstance r s xs → HasInstance r ys → IsWithin (store_of ys) s → IsLeastInstance r s ys → xs ≡ ys
same_tuple r s xs ys h w least g v least' = by (slice_cmp atom_cmp xs ys) refl
  where
    by : (o : Ordering) → slice_cmp atom_cmp xs ys ≡ o → xs ≡ ys
    by Less e = absurd (least' xs e h w)
    by Equal e = slice_cmp-IsAntisymmetric atom_exact xs ys e
    by Greater e = let o : IsTotalOrder (slice_cmp atom_cmp) = lists_total atom_total in
        absurd (least ys (o.antisymm ys xs ∙ ap ordering_reverse e) g v)

pub least_once : (rules : List Rule) (s : Store) (x y : StepValue) → IsLeastStep rules s x → IsLeastStep rules s y
    → x ≡ y
least_once rules s x y h g =
    let number : x.rule ≡ y.rule = (let a = not_before rules s x y h g in let b = not_before rules s y x g h in
    omega (arith, a, b)) in
    let rule : h.at.rule ≡ g.at.rule = same_rule rules (y.rule - 1) h.at.rule g.at.rule
    (ap (λ n. slice_get rules (n - 1)) (sym number) ∙ h.at.named) g.at.named in
    let heads : x.heads.items ≡ y.heads.items =
    same_tuple g.at.rule s x.heads.items y.heads.items (subst (λ r. HasInstance r x.heads.items) rule h.at.instance)
    h.at.there (subst (λ r. IsLeastInstance r s x.heads.items) rule h.least_heads) g.at.instance g.at.there
    g.least_heads in
    λ i. record { rule = number i; heads = record { items = heads i } }

-- a store has one plain derivation
pub plain_once : (rules : List Rule) (xs ys : List StepValue) (s t u : Store) → IsPlainComputation rules xs s t
    → IsPlainComputation rules ys s u → (xs ≡ ys) × (t ≡ u)
plain_once rules [] [] s t u h g = (refl, sym h.0 ∙ g.0)
plain_once rules [] (y ∷ ys) s t u h g = absurd (subst (λ x. IsAtRest (Step rules) x) (sym h.0) h.1 g.0.0
    (LeadsTo-steps rules y s g.0.0 g.0.2))
plain_once rules (x ∷ xs) [] s t u h g = absurd (subst (λ x. IsAtRest (Step rules) x) (sym g.0) g.1 h.0.0
    (LeadsTo-steps rules x s h.0.0 h.0.2))
plain_once rules (x ∷ xs) (y ∷ ys) s t u h g =
    let same : x ≡ y = least_once rules s x y h.0.1 g.0.1 in
    let next : h.0.0 ≡ g.0.0 = LeadsTo-once rules y s h.0.0 g.0.0 (subst (λ st. LeadsTo rules st s h.0.0) same h.0.2)
    g.0.2 in
    let more = plain_once rules xs ys g.0.0 t u (subst (λ z. IsPlainDerivation rules xs z t) next h.0.3, h.1)
    (g.0.3, g.1) in
    (λ i. same i ∷ more.0 i, more.1)

-- what stops at some place has no end
pub stops_endless : (rules : List Rule) (steps : List StepValue) (s : Store) (n : ℕ)
    → IsFirstInapplicable rules steps s n → (t : Store) → IsDerivation rules steps s t → ⊥
stops_endless rules [] s n h t g = absurd (let e : None ≡ Some h.1 = h.3 in cc)
stops_endless rules (st ∷ steps) s zero h t g =
    let e : Some st ≡ Some h.1 = h.3 in
    let same : st ≡ h.1 = cc in
    h.4 (subst (λ x. IsApplicable rules x h.1) h.2 (subst (λ x. IsApplicable rules s x) same g.1.0))
stops_endless rules (st ∷ steps) s (suc n) h t g =
    let same = LeadsTo-once rules st s h.2.0 g.0 h.2.1 g.1 in
    stops_endless rules steps g.0 n (
      h.0,
      h.1,
      subst (λ x. IsDerivation rules (take n steps) x h.0) same h.2.2,
      h.3,
      h.4,
    ) t g.2
