-- Runs in pools are runs of the store.
use Rattle.std.specs.Prelude.{◌≡◌, ℕ, zero, suc, ◌+◌, ◌-◌, ◌^◌, ◌<◌, min, List, [], ◌∷◌, ◌++◌, length, get_or}
use Rattle.std.specs.Prelude.{set, All, replicate}
use Rattle.std.specs.Prelude.{Result, Ok, Err, OnOk}
use Rattle.std.proofs.Common.{refl, sym, ap, subst, ◌∙◌, arith, inl, inr}
use Rattle.std.proofs.lemmas.Bool.{cases_lt, cases_eq}
use Rattle.std.proofs.lemmas.List.{get_or-set_same, get_or-set_other, get_or_past, length-replicate}
use Rattle.chr_base.specs.declared.program.Program.{Program}
use Rattle.chr_base.specs.declared.rule.Rule.{Rule}
use Rattle.chr_base.specs.FinBag as bag
use Rattle.chr_base.specs.FinBag.{◌⊕◌}
use Rattle.chr_base.specs.Programs.{rules_of}
use Rattle.chr_base.specs.Rewriting.{Runs, Reaches, IsAtRest}
use Rattle.chr_base.specs.Rules.{Step}
use Rattle.chr_base.specs.Stores.{Store, count, stores_sum}
use Rattle.chr_base.proofs.Rewriting as runs
use Rattle.chr_base.proofs.Steps.{grows, Runs-grows}
use Rattle.chr_base.proofs.Stores.{plus_comm, count_empty}
use Rattle.chr_weights.specs.Weights.{ProgramLowers}
use Rattle.chr_rewrite.specs.Pools.{TookSteps}
use Rattle.chr_rewrite.proofs.StepCounts.{many_more}
use Rattle.chr_shards.specs.declared.placing.Placing.{Placing}
use Rattle.chr_shards.specs.working.Placed.{store_at, LiesAt, AreShards, ReachEach}
use Rattle.chr_plans.specs.Joined.{IsLocal}
use Rattle.chr_shards.proofs.Instances.{runs_stay, rests_together}
use Rattle.chr_shards.proofs.Places.{pool_is, placed_empty}
use Rattle.chr_shards.proofs.Sums.{apart_from, put_with}

-- a run in one pool
pub runs_in : (rules : List Rule) (n : ℕ) (ss : List Store) (k : ℕ) (t : Store) → k < length ss
    → Runs (Step rules) n (store_at ss k) t → Runs (Step rules) n (stores_sum ss) (stores_sum (set ss k t))
runs_in rules n ss k t within h =
    subst (λ u. Runs (Step rules) n (stores_sum ss) u) (sym (put_with ss k t within))
    (subst (λ s. Runs (Step rules) n s (t ⊕ stores_sum (set ss k bag.empty))) (sym (apart_from ss k within))
    (Runs-grows rules n (store_at ss k) t (stores_sum (set ss k bag.empty)) h))

-- runs in all pools
pub reach_sum : (rules : List Rule) (ss ts : List Store) → ReachEach rules ss ts
    → Reaches (Step rules) (stores_sum ss) (stores_sum ts)
reach_sum rules [] [] h = runs.reaches_itself (Step rules) bag.empty
reach_sum rules [] (t ∷ ts) h = absurd (let e = h.0 in omega (arith, e))
reach_sum rules (s ∷ ss) [] h = absurd (let e = h.0 in omega (arith, e))
reach_sum rules (s ∷ ss) (t ∷ ts) h =
    runs.reaches_both (Step rules) bag.empty ◌⊕◌ (grows rules) plus_comm s t (stores_sum ss) (stores_sum ts)
    (h.1 0 (omega arith))
    (reach_sum rules ss ts ((let e = h.0 in omega (arith, e)), λ k l. h.1 (suc k) (omega (arith, l))))

-- runs in all pools of shards lead to shards
pub shards_stay : (p : Placing) (rules : List Rule) (ss ts : List Store) → AreShards p rules ss → ReachEach rules ss ts
    → AreShards p rules ts
shards_stay p rules ss ts is h = record {
  some = (let e = h.0 in let l = is.some in omega (arith, e, l));
  local = λ many. is.local (let e = h.0 in omega (arith, e, many));
  placed = λ k. subst (λ n. LiesAt p n k (store_at ts k)) (sym h.0)
      (elim (cases_lt k (length ss)) as (λ _. LiesAt p (length ss) k (store_at ts k)) [
        | inl within ↦ (let r = h.1 k within in
            runs_stay p rules ss is k r.0 (store_at ss k) (store_at ts k) (is.placed k) r.1)
        | inr past ↦ (λ q some. absurd (
            let e : count (store_at ts k) q ≡ 0 =
            ap (λ s. count s q) (get_or_past ts k bag.empty (let e = h.0 in omega (arith, e, past)))
            ∙ count_empty q in
            omega (arith, e, some)))
      ]);
}

-- each pool reaches itself
pub reach_same : (rules : List Rule) (ss : List Store) → ReachEach rules ss ss
reach_same rules ss = (refl, λ k _. runs.reaches_itself (Step rules) (store_at ss k))

-- where each pool is reached, and one goes on, each is reached
pub reach_on : (rules : List Rule) (ss ts : List Store) (k : ℕ) (t : Store) → ReachEach rules ss ts → k < length ts
    → Reaches (Step rules) (store_at ts k) t → length (set ts k t) ≡ length ts → ReachEach rules ss (set ts k t)
reach_on rules ss ts k t h within r len = (
  len ∙ h.0,
  λ i l. (elim (cases_eq i k) as (λ _. Reaches (Step rules) (store_at ss i) (store_at (set ts k t) i)) [
    | inl same ↦ subst (λ j. Reaches (Step rules) (store_at ss j) (store_at (set ts k t) j)) (sym same)
        (subst (λ u. Reaches (Step rules) (store_at ss k) u) (sym (get_or-set_same ts k t bag.empty within))
        (runs.reaches_on (Step rules) (store_at ss k) (store_at ts k) t
        (h.1 k (subst (λ j. j < length ss) same l)) r))
    | inr other ↦ subst (λ u. Reaches (Step rules) (store_at ss i) u)
        (sym (get_or-set_other ts k i t bag.empty other)) (h.1 i l)
  ]),
)

-- where each pool of two lists is reached, each pool of both in a row is
pub reach_both : (rules : List Rule) (ss ts us vs : List Store) → ReachEach rules ss ts → ReachEach rules us vs
    → ReachEach rules (ss ++ us) (ts ++ vs)
reach_both rules [] [] us vs g h = h
reach_both rules [] (t ∷ ts) us vs g h = absurd (let e = g.0 in omega (arith, e))
reach_both rules (s ∷ ss) [] us vs g h = absurd (let e = g.0 in omega (arith, e))
reach_both rules (s ∷ ss) (t ∷ ts) us vs g h =
    let more = reach_both rules ss ts us vs ((let e = g.0 in omega (arith, e)), λ k l. g.1 (suc k) (omega (arith, l)))
    h in
    ((let e = more.0 in omega (arith, e)), each more)
  where
    each : ReachEach rules (ss ++ us) (ts ++ vs) → (k : ℕ) → k < length (s ∷ (ss ++ us))
        → Reaches (Step rules) (store_at (s ∷ (ss ++ us)) k) (store_at (t ∷ (ts ++ vs)) k)
    each more zero l = g.1 0 (omega arith)
    each more (suc k) l = more.1 k (omega (arith, l))

-- steps that were taken, and then some in one pool
pub took_in : (p : Program) (n m k : ℕ) (s : Store) (ts : List Store) (i : ℕ) (t : Store) → ProgramLowers p
    → TookSteps p n s (stores_sum ts) → i < length ts → TookSteps p m (store_at ts i) t
    → k ≡ min (n + m) (2 ^ 64 - 1) → TookSteps p k s (stores_sum (set ts i t))
took_in p n m k s ts i t lowers before within more e =
    many_more p (rules_of p) n more.steps k s (stores_sum ts) (stores_sum (set ts i t)) lowers refl before
    (runs_in (rules_of p) more.steps ts i t within more.run)
    (let c = more.counted in omega (arith, e, c))

-- the pools before a place are at rest, and the one at it comes to rest
pub rest_more : (rules : List Rule) (ts : List Store) (k : ℕ) (t : Store) → k < length ts
    → ((i : ℕ) → i < k → IsAtRest (Step rules) (store_at ts i)) → IsAtRest (Step rules) t
    → (i : ℕ) → i < suc k → IsAtRest (Step rules) (store_at (set ts k t) i)
rest_more rules ts k t within before rest i l =
    elim (cases_eq i k) as (λ _. IsAtRest (Step rules) (store_at (set ts k t) i)) [
      | inl same ↦ subst (λ j. IsAtRest (Step rules) (store_at (set ts k t) j)) (sym same)
          (subst (λ u. IsAtRest (Step rules) u) (sym (get_or-set_same ts k t bag.empty within)) rest)
      | inr other ↦ subst (λ u. IsAtRest (Step rules) u) (sym (get_or-set_other ts k i t bag.empty other))
          (before i (omega (arith, l, other)))
    ]

-- pools that are looked at one after the other
pub rest_next : (rules : List Rule) (ts : List Store) (n : ℕ) (s : Store) → n < length ts → s ≡ get_or ts n s
    → ((i : ℕ) → i < n → IsAtRest (Step rules) (store_at ts i)) → IsAtRest (Step rules) s
    → (i : ℕ) → i < n + 1 → IsAtRest (Step rules) (store_at ts i)
rest_next rules ts n s within here before rest i l = elim (cases_lt i n) as (λ _. IsAtRest (Step rules) (store_at
    ts i)) [
      | inl less ↦ before i less
      | inr most ↦ (let e : i ≡ n = omega (arith, l, most) in
          subst (λ u. IsAtRest (Step rules) u) (sym (pool_is ts n s within here) ∙ ap (store_at ts) (sym e)) rest)
    ]

-- pools that came to rest are at rest together
pub rests_where_ok : {A E : Type 0} (p : Placing) (rules : List Rule) (ts : List Store) (r : Result A E)
    → AreShards p rules ts → OnOk r ((k : ℕ) → k < length ts → IsAtRest (Step rules) (store_at ts k))
    → OnOk r (IsAtRest (Step rules) (stores_sum ts))
rests_where_ok p rules ts (Ok a) is each = rests_together p rules ts is each
rests_where_ok p rules ts (Err e) is each = tt

-- empty pools are shards
pub empty_shards : (p : Placing) (rules : List Rule) (n : ℕ) → 0 < n
    → (1 < n → All (IsLocal p.joint.columns.items) rules) → AreShards p rules (replicate n bag.empty)
empty_shards p rules n some local =
    let none : Store = bag.empty in
    let len = length-replicate n none in
    record {
      some = omega (arith, len, some);
      placed = placed_empty p n;
      local = λ many. local (omega (arith, len, many));
    }
