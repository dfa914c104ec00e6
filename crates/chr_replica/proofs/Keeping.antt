-- Each event keeps replicas sound.
use Rattle.std.specs.Prelude.{◌≡◌, ℕ, ◌+◌}
use Rattle.std.proofs.Common.{sym, ap, ◌∙◌, subst, arith}
use Rattle.std.proofs.lemmas.Option.{none-some}
use Rattle.std.specs.Ordering.{nat_cmp}
use Rattle.std.specs.FinMap as map
use Rattle.chr_base.specs.declared.program.Program.{Program}
use Rattle.chr_base.specs.FinBag as bag
use Rattle.chr_base.specs.FinBag.{◌⊕◌, ◌⊖◌, IsWithin}
use Rattle.chr_base.specs.Stores.{Store, stores_sum}
use Rattle.chr_base.specs.Rules.{Step}
use Rattle.chr_base.specs.Programs.{rules_of}
use Rattle.chr_base.specs.Rewriting.{Reaches}
use Rattle.chr_base.proofs.Rewriting.{reaches_itself, reaches_on, reaches_after}
use Rattle.chr_base.proofs.Steps.{Reaches-grows}
use Rattle.chr_base.proofs.Stores.{same_store, count_plus, count_minus, plus_comm, plus_empty, plus_assoc}
use Rattle.chr_ops.specs.Operations.{told_store, sum_of}
use Rattle.chr_ops.specs.Joins.{fresh}
use Rattle.chr_ops.proofs.Told.{told_store-insert, told_store-empty}
use Rattle.chr_ops.proofs.Unions.{told_store-union}
use Rattle.chr_rewrite.proofs.DerivationLemmas.{LeadsTo-steps}
use Rattle.chr_replica.specs.Leases.{leased_store}
use Rattle.chr_replica.specs.Replicas.{Replica, IsSound}
use Rattle.chr_replica.specs.Laws.{FirstIsSound, TellKeeps, MergeKeeps, StepKeeps, TakeKeeps, TakePartsKeeps, PutKeeps}
use Rattle.chr_replica.specs.Laws.{RecallKeeps, SettleKeeps}
use Rattle.chr_replica.proofs.DeclaredSets.{none_declared, declared_more, declared_union}
use Rattle.chr_replica.proofs.LeasedSums.{leased_more, leased_less, leased_parts, nothing_leased, not_out, below_next}
use Rattle.chr_replica.proofs.LeasedSums.{below_less, below_parts}

-- ---- stores

swap_last : (s b l : Store) → (s ⊕ b) ⊕ l ≡ (s ⊕ l) ⊕ b
swap_last s b l = plus_assoc s b l ∙ ap (λ x. s ⊕ x) (plus_comm b l) ∙ sym (plus_assoc s l b)

part_moves : (s b l : Store) → IsWithin b s → (s ⊖ b) ⊕ (l ⊕ b) ≡ s ⊕ l
part_moves s b l h = same_store _ _ (λ q. (let w = h q in simp (count_plus, count_minus) (omega (arith, w))))

-- what p reaches from what was told
abbrev FromTold : Program → Replica → Store → Type 0
FromTold p s t = Reaches (Step (rules_of p)) (told_store s.operations) t

-- one part of a store may go on
part_goes_on : (p : Program) (told s l part result : Store) → Reaches (Step (rules_of p)) told (s ⊕ (l ⊕ part))
    → Reaches (Step (rules_of p)) part result → Reaches (Step (rules_of p)) told ((s ⊕ result) ⊕ l)
part_goes_on p told s l part result h g =
    let whole : Reaches (Step (rules_of p)) told (part ⊕ (s ⊕ l)) =
    subst (Reaches (Step (rules_of p)) told) (sym (plus_assoc s l part) ∙ plus_comm (s ⊕ l) part) h in
    let more : Reaches (Step (rules_of p)) told (result ⊕ (s ⊕ l)) =
    reaches_on (Step (rules_of p)) told (part ⊕ (s ⊕ l)) (result ⊕ (s ⊕ l)) whole
    (Reaches-grows (rules_of p) part result (s ⊕ l) g) in
    subst (Reaches (Step (rules_of p)) told) (plus_comm result (s ⊕ l) ∙ sym (swap_last s result l)) more

-- what is told goes into the pool as well
told_beside : (p : Program) (told s l b : Store) → Reaches (Step (rules_of p)) told (s ⊕ l)
    → Reaches (Step (rules_of p)) (told ⊕ b) ((s ⊕ b) ⊕ l)
told_beside p told s l b h =
    subst (Reaches (Step (rules_of p)) (told ⊕ b)) (sym (swap_last s b l)) (Reaches-grows (rules_of p) told (s ⊕ l) b h)

-- the pool may go on
pool_on : (p : Program) (told s t l : Store) → Reaches (Step (rules_of p)) told (s ⊕ l)
    → Reaches (Step (rules_of p)) s t
    → Reaches (Step (rules_of p)) told (t ⊕ l)
pool_on p told s t l h g =
    reaches_on (Step (rules_of p)) told (s ⊕ l) (t ⊕ l) h (Reaches-grows (rules_of p) s t l g)

-- ---- events

pub first_is_sound : FirstIsSound
first_is_sound p = record {
  declared = none_declared p;
  reached = (0, told_store-empty ∙ sym (ap (λ l. bag.empty ⊕ l) nothing_leased ∙ plus_empty bag.empty));
  below = λ k part e. absurd (none-some part (sym (map.get-empty nat_cmp k) ∙ e));
}

pub tell_keeps : TellKeeps
tell_keeps p op s t h sound = subst (IsSound p) (sym h.after) (record {
  declared = declared_more p s.operations op sound.declared h.declared;
  reached = subst (λ m. Reaches (Step (rules_of p)) m ((s.pool ⊕ op.1) ⊕ leased_store s.out))
      (sym (told_store-insert s.operations op.0 op.1 h.new))
      (told_beside p (told_store s.operations) s.pool (leased_store s.out) op.1 sound.reached);
  below = sound.below;
})

pub merge_keeps : MergeKeeps
merge_keeps p ops n s t h sound = subst (IsSound p) (sym h.after) (record {
  declared = declared_union p s.operations ops sound.declared h.declared;
  reached = subst (λ m. Reaches (Step (rules_of p)) m ((s.pool ⊕ sum_of (fresh s.operations ops)) ⊕ leased_store s.out))
      (sym (told_store-union s.operations ops))
      (told_beside p (told_store s.operations) s.pool (leased_store s.out)
      (sum_of (fresh s.operations ops)) sound.reached);
  below = sound.below;
})

pub step_keeps : StepKeeps
step_keeps p step s t h sound = subst (IsSound p) (sym h.after) (record {
  declared = sound.declared;
  reached = pool_on p (told_store s.operations) s.pool h.pool (leased_store s.out) sound.reached
      (reaches_after (Step (rules_of p)) s.pool h.pool h.pool (LeadsTo-steps (rules_of p) step s.pool h.pool h.leads)
      (reaches_itself (Step (rules_of p)) h.pool));
  below = sound.below;
})

pub settle_keeps : SettleKeeps
settle_keeps p n s t h sound = subst (IsSound p) (sym h.after) (record {
  declared = sound.declared;
  reached = pool_on p (told_store s.operations) s.pool h.pool (leased_store s.out) sound.reached (n, h.run);
  below = sound.below;
})

pub take_keeps : TakeKeeps
take_keeps p part number s t h sound = subst (IsSound p) (sym h.after) (subst Taken (sym h.numbered) (record {
  declared = sound.declared;
  reached = subst (FromTold p s) (sym (ap (λ l. (s.pool ⊖ part) ⊕ l)
      (leased_more s.out s.next part (not_out s.out s.next sound.below))
      ∙ part_moves s.pool part (leased_store s.out) h.there)) sound.reached;
  below = below_next s.out s.next part sound.below;
}))
  where
    Taken : ℕ → Type 0
    Taken k = IsSound p (record {
      operations = s.operations;
      pool = s.pool ⊖ part;
      out = map.insert s.out k part;
      next =
          k + 1;
    })

pub take_parts_keeps : TakePartsKeeps
take_parts_keeps p n parts s t h sound = subst (IsSound p) (sym h.after) (record {
  declared = sound.declared;
  reached = subst (FromTold p s) (sym (ap (λ l. bag.empty ⊕ l) (leased_parts parts s.out s.next sound.below)
      ∙ plus_comm bag.empty (leased_store s.out ⊕ stores_sum parts) ∙ plus_empty (leased_store s.out ⊕ stores_sum parts)
      ∙ plus_comm (leased_store s.out) (stores_sum parts) ∙ ap (λ x. x ⊕ leased_store s.out) h.whole)) sound.reached;
  below = λ k w e. (let less = below_parts parts s.out s.next sound.below k w e in let count = h.count in
      omega (arith, less, count));
})

pub put_keeps : PutKeeps
put_keeps p number part result s t h sound = subst (IsSound p) (sym h.after) (record {
  declared = sound.declared;
  reached = part_goes_on p (told_store s.operations) s.pool (leased_store (map.remove s.out number)) part result
      (subst (λ l. FromTold p s (s.pool ⊕ l)) (leased_less s.out number part h.out) sound.reached) h.reached;
  below = below_less s.out number s.next sound.below;
})

pub recall_keeps : RecallKeeps
recall_keeps p number s t h sound =
    put_keeps p number h.part h.part s t
    (record { out = h.out; reached = reaches_itself (Step (rules_of p)) h.part; after = h.after }) sound
