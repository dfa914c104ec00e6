-- Operations that were rested before a replica is told them.
use Rattle.std.proofs.Common.{◌≡◌, ◌<◌, ◌+◌, ℕ, length, List, [], ◌∷◌}
use Rattle.std.proofs.Common.{◌++◌, All, None, sym, ap, ◌∙◌, subst, get_or, take}
use Rattle.std.proofs.lemmas.List.{take_more}
use Rattle.chr_base.specs.declared.program.Program.{Program}
use Rattle.chr_base.specs.FinBag as bag
use Rattle.chr_base.specs.FinBag.{◌⊕◌}
use Rattle.chr_base.specs.Programs.{rules_of}
use Rattle.chr_base.specs.Rewriting.{Reaches}
use Rattle.chr_base.specs.Rules.{Step}
use Rattle.chr_base.proofs.Rewriting.{reaches_itself}
use Rattle.chr_base.proofs.Stores.{plus_assoc, plus_comm, plus_empty}
use Rattle.chr_ops.specs.Operations.{Operation, sum_of}
use Rattle.chr_replica.specs.Replicas.{IsDeclared}
use Rattle.chr_replica.specs.RestedOps.{carried_store, AreRestedBy}
use Rattle.chr_replica.specs.declared.rested.RestedOps.{RestedOps}
use Rattle.chr_answers.specs.declared.tells.Tells.{Tells}
use Rattle.chr_answers.specs.Gathered.{AreRested}

pub sum_push : (ops : List Operation) (op : Operation) → sum_of (ops ++ op ∷ []) ≡ sum_of ops ⊕ op.1
sum_push [] op = plus_comm op.1 bag.empty
sum_push (o ∷ ops) op = ap (λ s. o.1 ⊕ s) (sum_push ops op) ∙ sym (plus_assoc o.1 (sum_of ops) op.1)

pub sum_more : (ops : List Operation) (i : ℕ) (o : Operation) → i < length ops → o ≡ get_or ops i o
    → sum_of (take (i + 1) ops) ≡ sum_of (take i ops) ⊕ o.1
sum_more ops i o there is =
    ap sum_of (take_more ops i o there ∙ ap (λ y. take i ops ++ y ∷ []) (sym is)) ∙ sum_push (take i ops) o

-- operations that were rested are what a replica is told, with the part that was carried to them
pub rested_by : (p : Program) (t : Tells) (r : RestedOps) → r.ops.now ≡ t.ops.items
    → carried_store r.carried ≡ t.carried.part → r.rested.now ≡ t.rested → AreRested p t → AreRestedBy p r
rested_by p t r ops part same h = record {
  declared = subst (All (IsDeclared p)) (sym ops) h.declared;
  reached = subst (λ s. Reaches (Step (rules_of p)) (carried_store r.carried ⊕ sum_of r.ops.now) s) (sym same)
      (subst (λ s. Reaches (Step (rules_of p)) s t.rested) (λ i. sym part i ⊕ sum_of (sym ops i)) h.reached);
}

-- operations that were rested are what a replica is told, without what was made of their atoms
pub unrested_by : (p : Program) (t : Tells) (r : RestedOps) → r.ops.now ≡ t.ops.items → r.carried ≡ None
    → r.rested.now ≡ sum_of t.ops.items → AreRested p t → AreRestedBy p r
unrested_by p t r ops none same h = record {
  declared = subst (All (IsDeclared p)) (sym ops) h.declared;
  reached = subst (λ s. Reaches (Step (rules_of p)) s r.rested.now)
      (same ∙ ap sum_of (sym ops) ∙ sym (plus_empty (sum_of r.ops.now)) ∙ plus_comm (sum_of r.ops.now) bag.empty
      ∙ ap (λ c. carried_store c ⊕ sum_of r.ops.now) (sym none))
      (reaches_itself (Step (rules_of p)) r.rested.now);
}
