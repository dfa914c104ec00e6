-- Settled replicas that hold the same operations hold the same store.
use Rattle.std.specs.Prelude.{◌≡◌}
use Rattle.std.proofs.Common.{refl, sym, ap, ◌∙◌, subst}
use Rattle.chr_base.specs.declared.program.Program.{Program}
use Rattle.chr_base.specs.FinBag.{◌⊕◌}
use Rattle.chr_base.specs.Stores.{Store}
use Rattle.chr_base.specs.Rules.{Step}
use Rattle.chr_base.specs.Programs.{rules_of}
use Rattle.chr_base.specs.Sameness.{AreSame}
use Rattle.chr_base.specs.Rewriting.{Reaches, IsNormalForm}
use Rattle.chr_base.proofs.SameSteps.{same_step, same_programs_reach_alike}
use Rattle.chr_base.proofs.Stores.{plus_empty}
use Rattle.chr_base.specs.Values.{HasValues}
use Rattle.chr_confluence.specs.Confluence.{Confluent}
use Rattle.chr_join.specs.Parts.{IsOnlyNormalForm}
use Rattle.chr_ops.specs.Operations.{told_store}
use Rattle.chr_replica.specs.Leases.{leased_store}
use Rattle.chr_replica.specs.Replicas.{Replica, IsSound, IsSettled}
use Rattle.chr_replica.specs.Laws.{OneAnswer}
use Rattle.chr_replica.proofs.LeasedSums.{nothing_leased}

-- programs that are the same have the same normal forms
same_normal : (p q : Program) → AreSame p q → (s t : Store) → IsNormalForm (Step (rules_of q)) s t
    → IsNormalForm (Step (rules_of p)) s t
same_normal p q same s t h = (
  (same_programs_reach_alike p q same s t).1 h.0,
  λ u g. h.1 u (same_step (rules_of p) (rules_of q) t u same.1 g),
)

-- a settled replica holds a normal form of what was told
pub normal : (p : Program) (s : Replica) → IsSound p s → IsSettled p s → IsNormalForm (Step (rules_of p))
    (told_store s.operations) s.pool
normal p s sound settled = (
  subst (Reaches (Step (rules_of p)) (told_store s.operations))
      (ap (λ l. s.pool ⊕ leased_store l) settled.0 ∙ ap (λ l. s.pool ⊕ l) nothing_leased ∙ plus_empty s.pool)
      sound.reached,
  settled.1,
)

pub one_answer : OneAnswer
one_answer p q s t same confluent values equal sound sound' settled settled' =
    let left = normal p s sound settled in
    let right : IsNormalForm (Step (rules_of p)) (told_store s.operations) t.pool =
    subst (λ m. IsNormalForm (Step (rules_of p)) (told_store m) t.pool) (sym equal)
    (same_normal p q same (told_store t.operations) t.pool (normal q t sound' settled')) in (
      confluent (told_store s.operations) s.pool t.pool values left right,
      left,
      λ u h. confluent (told_store s.operations) u s.pool values h left,
    )

-- what is shown of a settled replica is the one normal form of what was told
pub shown_is_only : (p : Program) (s : Replica) (shown : Store) → OneAnswer → Confluent (rules_of p)
    → HasValues (told_store s.operations) → IsSound p s → IsSettled p s → shown ≡ s.pool
    → IsOnlyNormalForm (rules_of p) (told_store s.operations) shown
shown_is_only p s shown one confluent values sound settled same =
    let both = one p p s s (refl, refl) confluent values refl sound sound settled settled in
    subst (IsOnlyNormalForm (rules_of p) (told_store s.operations)) (sym same)
    (record { normal = both.1; only = both.2 })
