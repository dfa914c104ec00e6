-- Operations that are told together, whose atoms were rested before.
use Rattle.std.specs.Prelude.{◌≡◌, ℕ, ◌+◌, ◌≤◌, List, [], ◌∷◌, All}
use Rattle.std.proofs.Common.{Option, Some, None, refl, sym, ap, ◌∙◌, subst, arith}
use Rattle.std.proofs.lemmas.List.Elements.{All-head, All-tail}
use Rattle.std.specs.FinMap as map
use Rattle.chr_base.specs.declared.program.Program.{Program}
use Rattle.chr_base.specs.FinBag.{◌⊕◌}
use Rattle.chr_base.specs.Programs.{rules_of}
use Rattle.chr_base.specs.Rewriting.{Reaches}
use Rattle.chr_base.specs.Rules.{Step}
use Rattle.chr_base.specs.Stores.{Store, size}
use Rattle.chr_base.proofs.Steps.{Reaches-grows}
use Rattle.chr_base.proofs.Stores.{count_plus, plus_assoc, plus_comm, plus_empty, size_plus}
use Rattle.chr_ops.specs.Joins.{union, AreNew}
use Rattle.chr_ops.specs.Operations.{Operation, Operations, sum_of, told_atoms}
use Rattle.chr_ops.specs.declared.limits.TheConstants.{MAX_TOLD}
use Rattle.chr_ops.proofs.NewLists.{told_store-new, union_first}
use Rattle.chr_ops.proofs.Unions.{union_none}
use Rattle.chr_replica.specs.declared.limits.TheConstants.{LAST_LEASE}
use Rattle.chr_replica.specs.Leases.{Leases, AreBelow}
use Rattle.chr_replica.specs.Replicas.{Replica, ComesBack, GoesOut, IsDeclared, IsSound, Takes, TellsEach, TellsRested}
use Rattle.chr_replica.specs.RestedOps.{carried_number, carried_store, AreRestedBy, IsOut, TellsThem}
use Rattle.chr_replica.specs.declared.rested.LeasedPart.{LeasedPart}
use Rattle.chr_replica.specs.declared.rested.Placed.TheVariants as placed
use Rattle.chr_replica.specs.declared.rested.RestedOps.{RestedOps}
use Rattle.chr_replica.specs.working.Joining.{left_out, JoinsNew}
use Rattle.chr_replica.specs.working.States.{replica}
use Rattle.chr_replica.proofs.Keeping.{recall_keeps, settle_keeps, take_keeps, tell_keeps}
use Rattle.chr_replica.proofs.LeasedSums.{taken_before}
use Rattle.chr_replica.proofs.States.{put_out, replica_is}

-- where all operations of a list are new, the set with them tells what it told and their sum
told_more : (m : Operations) (os : List Operation) → AreNew m os
    → told_atoms (union m os) ≡ told_atoms m + size (sum_of os)
told_more m os all = ap size (told_store-new m os all) ∙ size_plus _ (sum_of os)

tells_each : (p : Program) (m : Operations) (s : Store) (l : Leases) (k : ℕ) (ops : List Operation)
    → All (IsDeclared p) ops → AreNew m ops → told_atoms (union m ops) ≤ MAX_TOLD
    → TellsEach p (replica m s l k) ops (replica (union m ops) (s ⊕ sum_of ops) l k)
tells_each p m s l k [] declared new room = replica_is _ m _ s l l k k (union_none m) (plus_empty s) refl refl
tells_each p m s l k (o ∷ ops) declared new room =
    let first = union_first m o ops new.0 in
    let n = map.insert m o.0 o.1 in
    let sum = told_more m (o ∷ ops) new in
    let parts = size_plus o.1 (sum_of ops) in
    let rest : TellsEach p (replica n (s ⊕ o.1) l k) ops (replica (union n ops) ((s ⊕ o.1) ⊕ sum_of ops) l k) =
    tells_each p n (s ⊕ o.1) l k ops (All-tail (IsDeclared p) o ops declared) new.1
    (subst (λ u. told_atoms u ≤ MAX_TOLD) first room) in (
      replica n (s ⊕ o.1) l k,
      record {
        declared = All-head (IsDeclared p) o ops declared;
        new = new.0;
        room = omega (arith, sum, parts, room);
        after = refl;
      },
      subst (TellsEach p (replica n (s ⊕ o.1) l k) ops)
          (replica_is _ _ _ _ l l k k (sym first) (plus_assoc s o.1 (sum_of ops)) refl refl) rest,
    )

-- what a store reaches it reaches beside another one
reaches_beside : (p : Program) (s a b : Store) → Reaches (Step (rules_of p)) a b
    → Reaches (Step (rules_of p)) (s ⊕ a) (s ⊕ b)
reaches_beside p s a b h =
    subst (λ u. Reaches (Step (rules_of p)) (s ⊕ a) u) (plus_comm b s)
    (subst (λ u. Reaches (Step (rules_of p)) u (b ⊕ s)) (plus_comm a s) (Reaches-grows (rules_of p) a b s h))

-- the part that is carried comes back
comes_back : (m : Operations) (s : Store) (l : Leases) (k : ℕ) (c : Option LeasedPart) → IsOut l c
    → ComesBack (replica m s l k) (carried_number c) (replica m (s ⊕ carried_store c) (left_out l c) k)
comes_back m s l k None out = replica_is m m _ s l l k k refl (plus_empty s) refl refl
comes_back m s l k (Some c) out = record { part = c.part.now; out = out; after = refl }

-- what was put into the pool is leased out
takes_put : (m : Operations) (s part : Store) (l : Leases) (k : ℕ) → k ≤ LAST_LEASE
    → Takes (replica m (s ⊕ part) l k) part k (replica m s (map.insert l k part) (k + 1))
takes_put m s part l k room = record {
  numbered = refl;
  room = room;
  there = λ q. simp count_plus (omega arith);
  after = replica_is m m s _ _ _ _ _ refl (sym (put_out s (s ⊕ part) _ part part refl refl refl)) refl refl;
}

-- a part that is leased out under a number which is to come may be so before the carried one is taken off
leased_before : (l : Leases) (k : ℕ) (part : Store) (c : Option LeasedPart) → IsOut l c → AreBelow l k
    → left_out (map.insert l k part) c ≡ map.insert (left_out l c) k part
leased_before l k part None out below = refl
leased_before l k part (Some c) out below = taken_before l k c.number part (below c.number c.part.now out)

-- operations whose atoms, with those that are carried, reach what was rested are told
module _ (p : Program) (m n : Operations) (s : Store) (l : Leases) (k : ℕ) (r : RestedOps) (rested : AreRestedBy p r)
    (joins : JoinsNew m r.ops.now n) (out : IsOut l r.carried) where
  told_on : (lease : Option ℕ) (t : Replica)
      → GoesOut (replica n (s ⊕ r.rested.now) (left_out l r.carried) k) r.rested.now lease t
      → TellsRested p (replica m s l k) (carried_number r.carried) r.ops.now r.rested.now lease t
  told_on lease t goes =
      let ops = r.ops.now in
      let here = s ⊕ carried_store r.carried in
      let rest = left_out l r.carried in
      let few : told_atoms (union m ops) ≤ MAX_TOLD = subst (λ u. told_atoms u ≤ MAX_TOLD) joins.joined joins.few in
      let together = subst (λ u. Reaches (Step (rules_of p)) u (s ⊕ r.rested.now))
      (sym (plus_assoc s (carried_store r.carried) (sum_of ops)))
      (reaches_beside p s (carried_store r.carried ⊕ sum_of ops) r.rested.now rested.reached) in
      record {
        back = replica m here rest k;
        comes_back = comes_back m s l k r.carried out;
        told = replica (union m ops) (here ⊕ sum_of ops) rest k;
        tells = tells_each p m here rest k ops rested.declared joins.new few;
        count = together.0;
        settled = replica n (s ⊕ r.rested.now) rest k;
        settles = record {
          pool = s ⊕ r.rested.now;
          run = together.1;
          after = replica_is n _ _ _ rest rest k k joins.joined refl refl refl;
        };
        pool = refl;
        goes_out = goes;
      }

  -- what was rested stays in the pool
  pub told_in_pool : (t : Store) (left : Leases) → t ≡ s ⊕ r.rested.now → left ≡ left_out l r.carried
      → TellsThem p r placed.InPool (replica m s l k) (replica n t left k)
  told_in_pool t left put gone = told_on None _ (replica_is n n t _ left _ k k refl put gone refl)

  -- what was rested is leased out
  pub told_on_lease : (part : Store) (more left : Leases) → k ≤ LAST_LEASE → AreBelow l k → part ≡ r.rested.now
      → more ≡ map.insert l k part → left ≡ left_out more r.carried
      → TellsThem p r (placed.Leased k) (replica m s l k) (replica n s left (k + 1))
  told_on_lease part more left room below same put gone =
      let is : left ≡ map.insert (left_out l r.carried) k r.rested.now =
      gone ∙ ap (λ x. left_out x r.carried) (put ∙ ap (map.insert l k) same)
      ∙ leased_before l k r.rested.now r.carried out below in
      told_on (Some k) _ (subst (Takes (replica n (s ⊕ r.rested.now) (left_out l r.carried) k) r.rested.now k)
      (replica_is n n s s _ left _ _ refl refl (sym is) refl)
      (takes_put n s r.rested.now (left_out l r.carried) k room))

-- ---- a sound replica stays sound

each_keeps : (p : Program) (s : Replica) (ops : List Operation) (t : Replica) → TellsEach p s ops t → IsSound p s
    → IsSound p t
each_keeps p s [] t h sound = subst (IsSound p) (sym h) sound
each_keeps p s (o ∷ ops) t h sound = each_keeps p h.0 ops t h.2 (tell_keeps p o s h.0 h.1 sound)

back_keeps : (p : Program) (s : Replica) (carried : Option ℕ) (t : Replica) → ComesBack s carried t → IsSound p s
    → IsSound p t
back_keeps p s None t h sound = subst (IsSound p) (sym h) sound
back_keeps p s (Some number) t h sound = recall_keeps p number s t h sound

out_keeps : (p : Program) (s : Replica) (part : Store) (lease : Option ℕ) (t : Replica) → GoesOut s part lease t
    → IsSound p s → IsSound p t
out_keeps p s part None t h sound = subst (IsSound p) (sym h) sound
out_keeps p s part (Some number) t h sound = take_keeps p part number s t h sound

pub rested_keeps : (p : Program) (s : Replica) (carried : Option ℕ) (ops : List Operation) (rested : Store)
    (lease : Option ℕ) (t : Replica) → TellsRested p s carried ops rested lease t → IsSound p s → IsSound p t
rested_keeps p s carried ops rested lease t h sound =
    out_keeps p h.settled rested lease t h.goes_out
    (settle_keeps p h.count h.told h.settled h.settles
    (each_keeps p h.back ops h.told h.tells (back_keeps p s carried h.back h.comes_back sound)))

-- ---- what it holds then

each_holds : (p : Program) (s : Replica) (ops : List Operation) (t : Replica) → TellsEach p s ops t
    → t.operations ≡ union s.operations ops
each_holds p s [] t h = ap (λ r. r.operations) h ∙ sym (union_none s.operations)
each_holds p s (o ∷ ops) t h =
    each_holds p h.0 ops t h.2 ∙ ap (λ r. union r.operations ops) h.1.after
    ∙ sym (union_first s.operations o ops h.1.new)

pub back_holds : (s : Replica) (carried : Option ℕ) (t : Replica) → ComesBack s carried t
    → t.operations ≡ s.operations
back_holds s None t h = ap (λ r. r.operations) h
back_holds s (Some number) t h = ap (λ r. r.operations) h.after

out_holds : (s : Replica) (part : Store) (lease : Option ℕ) (t : Replica) → GoesOut s part lease t
    → t.operations ≡ s.operations
out_holds s part None t h = ap (λ r. r.operations) h
out_holds s part (Some number) t h = ap (λ r. r.operations) h.after

-- what was told is all that is new
pub settled_holds : (p : Program) (s : Replica) (carried : Option ℕ) (ops : List Operation) (rested : Store)
    (lease : Option ℕ) (t : Replica) (h : TellsRested p s carried ops rested lease t)
    → t.operations ≡ h.told.operations
settled_holds p s carried ops rested lease t h =
    out_holds h.settled rested lease t h.goes_out ∙ ap (λ r. r.operations) h.settles.after

pub rested_holds : (p : Program) (s : Replica) (carried : Option ℕ) (ops : List Operation) (rested : Store)
    (lease : Option ℕ) (t : Replica) → TellsRested p s carried ops rested lease t
    → t.operations ≡ union s.operations ops
rested_holds p s carried ops rested lease t h =
    settled_holds p s carried ops rested lease t h ∙ each_holds p h.back ops h.told h.tells
    ∙ ap (λ m. union m ops) (back_holds s carried h.back h.comes_back)
