-- What is left of stores and states by the calls of a replica.
use Rattle.std.specs.Prelude.{◌≡◌, ℕ, ◌+◌, ◌≤◌, List, length, All, Bool, true, false, IsTrue, ◌↔◌, Result, Ok}
use Rattle.std.specs.Prelude.{Err, IfOk, IfErr, IsErrOf, Some}
use Rattle.std.specs.Bool.{OnTrue}
use Rattle.std.specs.List.{list_all}
use mathlib.Core.Bool.{true≢false}
use Rattle.std.proofs.Common.{refl, sym, ap, ◌∙◌, subst, arith}
use Rattle.std.specs.FinMap as map
use Rattle.chr_base.specs.declared.atom.Atom.{Atom}
use Rattle.chr_base.specs.FinBag as bag
use Rattle.chr_base.specs.FinBag.{◌⊕◌, ◌⊖◌, IsWithin}
use Rattle.chr_base.specs.Stores.{Store, store_of, stores_sum}
use Rattle.chr_base.specs.Values.{Each}
use Rattle.chr_base.proofs.Each.{each_of_list, list_of_each}
use Rattle.chr_base.proofs.Stores.{same_store, count_plus, count_minus, store_of-items}
use Rattle.chr_base.specs.declared.program.Program.{Program}
use Rattle.chr_base.specs.declared.derivation.Step.{Step as StepValue}
use Rattle.chr_base.specs.Programs.{rules_of}
use Rattle.chr_base.specs.Rules.{Step}
use Rattle.chr_base.specs.Rewriting.{Reaches, IsAtRest}
use Rattle.chr_base.specs.Sameness.{AreSame}
use Rattle.chr_base.specs.Laws.{SameProgramsReachAlike}
use Rattle.chr_ops.specs.declared.id.OpId.{OpId}
use Rattle.chr_ops.specs.declared.fault.AddFault.{AddFault}
use Rattle.chr_ops.specs.declared.fault.AddFault.TheVariants as fault
use Rattle.chr_ops.specs.declared.limits.TheConstants.{MAX_TOLD}
use Rattle.chr_ops.specs.Operations.{Operation, Operations, told_atoms, sum_of, IsNew}
use Rattle.chr_ops.specs.Joins.{union, fresh, HasNoClash, IsFirstClash, IsOverLimit}
use Rattle.chr_base.specs.Stores.{size}
use Rattle.chr_columns.specs.declared.columns.Stopped.{Stopped}
use Rattle.chr_weights.specs.Weights.{ProgramLowers}
use Rattle.chr_weights.specs.WeighedPrograms.{program_of}
use Rattle.chr_weights.specs.declared.weighed.Weighed.{Weighed}
use Rattle.chr_rewrite.specs.Derivations.{LeadsTo}
use Rattle.chr_rewrite.specs.Pools.{TookSteps}
use Rattle.chr_rewrite.proofs.StepCounts.{exact_count, none_taken}
use Rattle.chr_shards.specs.Ruled.{Ruled}
use Rattle.chr_replica.specs.declared.limits.TheConstants.{LAST_LEASE}
use Rattle.chr_replica.specs.Leases.{Leases, with_parts}
use Rattle.chr_replica.specs.working.Cuts.{IsNear}
use Rattle.chr_replica.specs.working.States.{replica, IsBoard}
use Rattle.chr_replica.proofs.PartsCut.{near_even}
use Rattle.chr_join.specs.declared.accepted.Accepted.{Accepted}
use Rattle.chr_replica.specs.Boards.{Held}
use Rattle.chr_replica.specs.Replicas.{Replica, IsDeclared, Tells, Merges, Steps, Takes, TakesParts, Puts, Recalls}
use Rattle.chr_replica.specs.Replicas.{Settles, IsSound}
use Rattle.chr_replica.specs.Refusals.{refusal_of, RefusesMerge}
use Rattle.chr_replica.proofs.PoolRanks.{rank_fits}

pub replica_is : (m n : Operations) (s t : Store) (l k : Leases) (a b : ℕ) → m ≡ n → s ≡ t → l ≡ k → a ≡ b
    → replica m s l a ≡ replica n t k b
replica_is m n s t l k a b e f g h = λ i. record { operations = e i; pool = f i; out = g i; next = h i }

-- a test passes each atom of a store where it passes each item of its bag
pub each_item : (p : Atom → Bool) (s : Store) (b : Bool) → b ≡ list_all p (bag.items s) → IsTrue b ↔ Each p s
each_item p s b e = (
  λ h. subst (Each p) (store_of-items s) (each_of_list p (bag.items s) (sym e ∙ h)),
  λ h. e ∙ list_of_each p (bag.items s) (subst (Each p) (sym (store_of-items s)) h),
)

-- atoms that were put in are taken out again
pub put_out : (s s' s'' x y : Store) → s' ≡ s ⊕ x → y ≡ x → s'' ≡ s' ⊖ y → s'' ≡ s
put_out s s' s'' x y put again left =
    left ∙ (λ i. put i ⊖ again i) ∙ same_store _ _ (λ q. simp (count_plus, count_minus) (omega arith))

-- ---- what each event leaves

pub tells_is : (p : Program) (o o' : Operations) (s s' : Store) (l : Leases) (k : ℕ) (op : Operation)
    → IsDeclared p op → IsNew o op → told_atoms o + size op.1 ≤ MAX_TOLD → o' ≡ map.insert o op.0 op.1
    → s' ≡ s ⊕ op.1 → Tells p (replica o s l k) op (replica o' s' l k)
tells_is p o o' s s' l k op declared new room joined put = record {
  declared = declared;
  new = new;
  room = room;
  after = replica_is o' _ s' _ l l k k joined put refl refl;
}

pub merges_is : (p : Program) (o o' : Operations) (s s' : Store) (l : Leases) (k n : ℕ) (ops : List Operation)
    → All (IsDeclared p) ops → HasNoClash o ops → told_atoms o' ≤ MAX_TOLD → n + map.len o ≡ map.len o'
    → o' ≡ union o ops → s' ≡ s ⊕ sum_of (fresh o ops) → Merges p (replica o s l k) ops n (replica o' s' l k)
merges_is p o o' s s' l k n ops declared agree room count joined put = record {
  declared = declared;
  no_clash = agree;
  room = subst (λ m. told_atoms m ≤ MAX_TOLD) joined room;
  count = count;
  after = replica_is o' _ s' _ l l k k joined put refl refl;
}

pub refuses_merge : (p : Program) (s : Replica) (ops : List Operation) (r : Result ℕ AddFault) (f : AddFault)
    → All (IsDeclared p) ops → r ≡ Err f
    → ((id : OpId) → IsErrOf r (fault.Clash id) → IsFirstClash s.operations ops id)
    → (IsErrOf r fault.Full → HasNoClash s.operations ops × IsOverLimit s.operations ops)
    → RefusesMerge p s ops (refusal_of f)
refuses_merge p s ops r (fault.Clash id) declared e clash full = (declared, clash id e)
refuses_merge p s ops r fault.Full declared e clash full = (declared, (full e).0, (full e).1)
refuses_merge p s ops r fault.Memory declared e clash full = tt

pub steps_is : (p : Program) (st : StepValue) (o : Operations) (s s' : Store) (l : Leases) (k : ℕ)
    → LeadsTo (rules_of p) st s s' → Steps p (replica o s l k) st (replica o s' l k)
steps_is p st o s s' l k leads = record { pool = s'; leads = leads; after = refl }

pub recalls_is : (o : Operations) (s s' part : Store) (l l' : Leases) (k n : ℕ) → map.get l n ≡ Some part
    → s' ≡ s ⊕ store_of (bag.items part) → l' ≡ map.remove l n → Recalls (replica o s l k) n (replica o s' l' k)
recalls_is o s s' part l l' k n out put gone = record {
  part = part;
  out = out;
  after = replica_is o o s' _ l' _ k k refl (put ∙ ap (λ x. s ⊕ x) (store_of-items part)) gone refl;
}

settles_is : (p : Program) (n : ℕ) (o : Operations) (s s' : Store) (l : Leases) (k : ℕ) → ProgramLowers p
    → IsSound p (replica o s l k) → told_atoms o ≤ MAX_TOLD → TookSteps p n s s'
    → Settles p (replica o s l k) n (replica o s' l k)
settles_is p n o s s' l k lowers sound few took = record {
  pool = s';
  run = exact_count p n s s' took (rank_fits p (replica o s l k) lowers sound few);
  after = refl;
}

pub takes_is : (o : Operations) (s s' part : Store) (l l' : Leases) (k k' : ℕ) → k ≤ LAST_LEASE
    → IsWithin (store_of (bag.items part)) s → s' ≡ s ⊖ store_of (bag.items part) → l' ≡ map.insert l k part
    → k' ≡ k + 1 → Takes (replica o s l k) part k (replica o s' l' k')
takes_is o s s' part l l' k k' room there out put next =
    let same = store_of-items part in record {
      numbered = refl;
      room = room;
      there = subst (λ x. IsWithin x s) same there;
      after = replica_is o o s' _ l' _ k' _ refl (out ∙ ap (λ x. s ⊖ x) same) put next;
    }

pub puts_is : (p q : Program) (o : Operations) (s s' part result : Store) (l l' : Leases) (k n : ℕ)
    → map.get l n ≡ Some part → SameProgramsReachAlike → AreSame q p → Reaches (Step (rules_of q)) part result
    → s' ≡ s ⊕ store_of (bag.items result) → l' ≡ map.remove l n
    → Puts p (replica o s l k) n part result (replica o s' l' k)
puts_is p q o s s' part result l l' k n out alike same reached put gone = record {
  out = out;
  reached = (alike q p same part result).0 reached;
  after = replica_is o o s' _ l' _ k k refl (put ∙ ap (λ x. s ⊕ x) (store_of-items result)) gone refl;
}

pub takes_parts_is : (o : Operations) (s s' : Store) (l l' : Leases) (k k' n q : ℕ) (atoms : List Atom)
    (parts : List Store) → k + n ≤ LAST_LEASE + 1 → length parts ≡ n → stores_sum parts ≡ store_of atoms
    → store_of atoms ≡ s → All (IsNear q) parts → s' ≡ bag.empty → l' ≡ with_parts l k parts → k' ≡ k + n
    → TakesParts (replica o s l k) n parts (replica o s' l' k')
takes_parts_is o s s' l l' k k' n q atoms parts room count sum whole near none put next = record {
  room = room;
  count = count;
  whole = sum ∙ whole;
  even = near_even q parts near;
  after = replica_is o o s' _ l' _ k' _ refl none put next;
}

-- what comes of resting a pool, whether it was stopped or not
pub rested_is : (w : Weighed) (o : Operations) (s s' : Store) (l : Leases) (k : ℕ) (r : Result ℕ Stopped)
    → IsSound (program_of w) (replica o s l k) → told_atoms o ≤ MAX_TOLD
    → IfOk r (λ n. TookSteps (program_of w) n s s') → IfErr r (λ e. TookSteps (program_of w) e.steps s s')
    → IfOk r (λ n. Settles (program_of w) (replica o s l k) n (replica o s' l k))
    × IfErr r (λ e. Settles (program_of w) (replica o s l k) e.steps (replica o s' l k))
rested_is w o s s' l k (Ok n) sound few ok err = (settles_is (program_of w) n o s s' l k w.lowers sound few ok, tt)
rested_is w o s s' l k (Err e) sound few ok err =
    (tt, settles_is (program_of w) e.steps o s s' l k w.lowers sound few err)

-- where a refused call may have changed something
pub sound_either : {X E : Type 0} (p : Program) (s t : Replica) (r : Result X E) (Q : X → Type 0) (R : E → Type 0)
    → ((x : X) → Q x → IsSound p s → IsSound p t)
    → ((e : E) → R e → IsSound p s → IsSound p t) → IfOk r Q → IfErr r R → IsSound p s → IsSound p t
sound_either p s t (Ok x) Q R keep stop ok err sound = keep x ok sound
sound_either p s t (Err e) Q R keep stop ok err sound = stop e err sound

-- a board whose replica is as it was is as it was
pub same_board : (a : Accepted) (s t : Replica) → s ≡ t → ◌≡◌ {A = Held} (record { accepted = a; replica = s })
    (record { accepted = a; replica = t })
same_board a s t e = λ i. record { accepted = a; replica = e i }

-- a pool of the same program and store is the same
pub same_ruled : (r u : Ruled) → r.weighed ≡ u.weighed → r.store ≡ u.store → r ≡ u
same_ruled r u e f = λ i. record { weighed = e i; store = f i }

-- a pool at rest stays as it is
pub stays_where_at_rest : (p : Program) (s t : Store) (r : Result ℕ Stopped) → IsAtRest (Step (rules_of p)) s
    → IfOk r (λ n. TookSteps p n s t) → IfErr r (λ e. TookSteps p e.steps s t)
    → (t ≡ s) × IfOk r (λ n. n ≡ 0) × IfErr r (λ e. e.steps ≡ 0)
stays_where_at_rest p s t (Ok n) rest ok err = let none = none_taken p n s t ok rest in (sym none.1, none.0, tt)
stays_where_at_rest p s t (Err e) rest ok err =
    let none = none_taken p e.steps s t err rest in (sym none.1, tt, none.0)

-- steps that were not counted
pub hastened_is : (p : Program) (o : Operations) (s t : Store) (l : Leases) (k : ℕ) → Reaches (Step (rules_of p)) s t
    → (n : ℕ) × Settles p (replica o s l k) n (replica o t l k)
hastened_is p o s t l k h = (h.0, record { pool = t; run = h.1; after = refl })
