-- Steps that are named, in pools.
use Rattle.std.specs.Prelude.{◌≡◌, ℕ, ◌-◌, ◌<◌, List, length, get_or, set, slice_get, Some}
use Rattle.std.specs.Prelude.{Result, Ok, Err, IfOk, OnErr, Bool, true, false}
use Rattle.std.specs.Bool.{OnTrue, OnFalse}
use Rattle.std.proofs.lemmas.List.{length-set}
use Rattle.std.proofs.Common.{sym, ap, subst, ◌∙◌, arith}
use Rattle.chr_base.specs.declared.atom.Atom.{Atom}
use Rattle.chr_base.specs.declared.rule.Rule.{Rule}
use Rattle.chr_base.specs.declared.derivation.Step.{Step as StepValue}
use Rattle.chr_base.specs.FinBag as bag
use Rattle.chr_base.specs.FinBag.{◌⊕◌, IsWithin}
use Rattle.chr_base.specs.Rules.{heads_at}
use Rattle.chr_base.specs.Stores.{Store, store_of, stores_sum}
use Rattle.chr_base.proofs.Steps.{StepBy-grows}
use Rattle.chr_base.proofs.Stores.{within_more}
use Rattle.chr_rewrite.specs.Derivations.{IsApplicable, LeadsTo}
use Rattle.chr_shards.specs.declared.placing.Placing.{Placing}
use Rattle.chr_shards.specs.working.Placed.{store_at, place_in, LiesAt, AreShards}
use Rattle.chr_rewrite.proofs.DerivationLemmas.{LeadsTo-steps}
use Rattle.chr_shards.proofs.Instances.{some_head, home, heads_within, step_stays}
use Rattle.chr_shards.proofs.Places.{pool_is, lies_before, placed_still}
use Rattle.chr_shards.proofs.Sums.{apart_from, put_with}

-- a named step goes on in every larger store
leads_grows : (rules : List Rule) (st : StepValue) (s t x : Store) → LeadsTo rules st s t
    → LeadsTo rules st (s ⊕ x) (t ⊕ x)
leads_grows rules st s t x h = (
  record {
    rule = (h.0).rule;
    numbered = (h.0).numbered;
    named = (h.0).named;
    instance = (h.0).instance;
    there = within_more _ s x (h.0).there;
  },
  ((h.1).0, (h.1).1, StepBy-grows (h.0).rule (h.1).0 s t x (h.1).2),
)

-- a step in one pool is one of the store
pub leads_in : (rules : List Rule) (st : StepValue) (ss : List Store) (k : ℕ) (t : Store) → k < length ss
    → LeadsTo rules st (store_at ss k) t → LeadsTo rules st (stores_sum ss) (stores_sum (set ss k t))
leads_in rules st ss k t within h =
    subst (λ u. LeadsTo rules st (stores_sum ss) u) (sym (put_with ss k t within))
    (subst (λ s. LeadsTo rules st s (t ⊕ stores_sum (set ss k bag.empty))) (sym (apart_from ss k within))
    (leads_grows rules st (store_at ss k) t (stores_sum (set ss k bag.empty)) h))

-- a named step that is applicable in the store is applicable in the pool of its first head
pub applicable_in : (p : Placing) (rules : List Rule) (st : StepValue) (ss : List Store) (k : ℕ) → AreShards p rules ss
    → ((a : Atom) → slice_get st.heads.items 0 ≡ Some a → k ≡ place_in p (length ss) a)
    → IsApplicable rules (stores_sum ss) st → IsApplicable rules (store_at ss k) st
applicable_in p rules st ss k is first h =
    let v = h.instance.0 in
    let at = home p rules ss is (st.rule - 1) h.rule v h.named in
    let a = some_head h.rule v in
    let here : k ≡ at.place = first a.0 (ap (λ xs. slice_get xs 0) (sym h.instance.1) ∙ a.1) ∙ at.heads a.0 a.2 in
    record {
      rule = h.rule;
      numbered = h.numbered;
      named = h.named;
      instance = h.instance;
      there = subst (λ xs. IsWithin (store_of xs) (store_at ss k)) h.instance.1
          (subst (λ j. IsWithin (store_of (heads_at v h.rule)) (store_at ss j)) (sym here)
          (heads_within p rules ss is at.place (heads_at v h.rule) at.heads
          (subst (λ xs. IsWithin (store_of xs) (stores_sum ss)) (sym h.instance.1) h.there)));
    }

-- What a call for a named step says of the pool s at the place k, which becomes t, it says of the store.
module _ {E : Type 0} (p : Placing) (rules : List Rule) (ss : List Store) (k : ℕ) (s t : Store) (st : StepValue)
    (r : Result Bool E) (is : AreShards p rules ss) (within : k < length ss) (here : s ≡ get_or ss k s) where
  pub shards_after : IfOk r (λ b. OnTrue b (LeadsTo rules st s t)) → IfOk r (λ b. OnFalse b (t ≡ s)) → OnErr r (t ≡ s)
      → AreShards p rules (set ss k t)
  shards_after taken same err = record {
    some = (let l = length-set ss k t in let some = is.some in omega (arith, l, some));
    local = λ many. is.local (let l = length-set ss k t in omega (arith, l, many));
    placed = placed_still p ss k s t t is.placed within here (by r taken same err);
  }
    where
      before : LiesAt p (length ss) k s
      before = lies_before p ss k s t t is.placed within here

      stays : t ≡ s → LiesAt p (length ss) k t
      stays e = subst (LiesAt p (length ss) k) (sym e) before

      by : (r : Result Bool E) → IfOk r (λ b. OnTrue b (LeadsTo rules st s t)) → IfOk r (λ b. OnFalse b (t ≡ s))
          → OnErr r (t ≡ s) → LiesAt p (length ss) k t
      by (Ok true) taken same err = step_stays p rules ss is k s t before (LeadsTo-steps rules st s t taken)
      by (Ok false) taken same err = stays same
      by (Err e) taken same err = stays err

  pub taken_in : IfOk r (λ b. OnTrue b (LeadsTo rules st s t))
      → IfOk r (λ b. OnTrue b (LeadsTo rules st (stores_sum ss) (stores_sum (set ss k t))))
  taken_in = by r
    where
      by : (r : Result Bool E) → IfOk r (λ b. OnTrue b (LeadsTo rules st s t))
          → IfOk r (λ b. OnTrue b (LeadsTo rules st (stores_sum ss) (stores_sum (set ss k t))))
      by (Ok true) taken = leads_in rules st ss k t within
          (subst (λ u. LeadsTo rules st u t) (sym (pool_is ss k s within here)) taken)
      by (Ok false) taken = tt
      by (Err e) taken = tt

  pub none_in : ((a : Atom) → slice_get st.heads.items 0 ≡ Some a → k ≡ place_in p (length ss) a)
      → IfOk r (λ b. OnFalse b (¬ IsApplicable rules s st))
      → IfOk r (λ b. OnFalse b (¬ IsApplicable rules (stores_sum ss) st))
  none_in first = by r
    where
      by : (r : Result Bool E) → IfOk r (λ b. OnFalse b (¬ IsApplicable rules s st))
          → IfOk r (λ b. OnFalse b (¬ IsApplicable rules (stores_sum ss) st))
      by (Ok true) none = tt
      by (Ok false) none = λ h. none (subst (λ u. IsApplicable rules u st) (pool_is ss k s within here)
          (applicable_in p rules st ss k is first h))
      by (Err e) none = tt
