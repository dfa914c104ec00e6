-- Operations only join a replica, so those of a place in its journal have the values that those at the end have.
use Rattle.std.specs.Prelude.{◌≡◌, List, [], ◌∷◌, ◌++◌}
use Rattle.std.proofs.Common.{arith, ap, subst, ◌∙◌}
use Rattle.chr_base.specs.declared.program.Program.{Program}
use Rattle.chr_base.specs.FinBag.{◌⊕◌}
use Rattle.chr_base.specs.Stores.{Store}
use Rattle.chr_base.specs.Values.{is_value, args_in, HasValues}
use Rattle.chr_base.proofs.Stores.{count_plus}
use Rattle.chr_base.proofs.Each.{each_within}
use Rattle.chr_ops.specs.declared.fault.Added.TheVariants as added
use Rattle.chr_ops.specs.Operations.{told_store, sum_of}
use Rattle.chr_ops.specs.Joins.{fresh}
use Rattle.chr_ops.proofs.Told.{told_store-insert}
use Rattle.chr_ops.proofs.Unions.{told_store-union}
use Rattle.chr_replica.specs.Replicas.{Replica}
use Rattle.chr_acts.specs.declared.act.Act.{Act}
use Rattle.chr_acts.specs.declared.act.Act.TheVariants as act
use Rattle.chr_acts.specs.declared.entry.Entry.{Entry}
use Rattle.chr_acts.specs.declared.reply.Reply.{Reply}
use Rattle.chr_acts.specs.declared.reply.Reply.TheVariants as reply
use Rattle.chr_acts.specs.Events.{Does}
use Rattle.chr_acts.specs.Journals.{Leads}

-- what a replica tells has 64-bit values
abbrev pub TellsValues : Replica → Type 0
TellsValues s = HasValues (told_store s.operations)

first_values : (s t u : Store) → u ≡ s ⊕ t → HasValues u → HasValues s
first_values s t u is h =
    each_within (args_in is_value) s (s ⊕ t) (λ q. (let e = count_plus s t q in omega (arith, e)))
    (subst HasValues is h)

same_values : (s t : Replica) → t.operations ≡ s.operations → TellsValues t → TellsValues s
same_values s t same h = subst (λ m. HasValues (told_store m)) same h

does_values : (p : Program) (s : Replica) (a : Act) (x : Reply) (t : Replica) → Does p s a x t → TellsValues t
    → TellsValues s
does_values p s a (reply.Refused r) t h v = same_values s t (ap (λ r. r.operations) h.2) v
does_values p s (act.Tell op) (reply.Told added.New) t h v =
    first_values (told_store s.operations) op.1 (told_store t.operations)
    (ap (λ r. told_store r.operations) h.after ∙ told_store-insert s.operations op.0 op.1 h.new) v
does_values p s (act.Tell op) (reply.Told added.Again) t h v = same_values s t (ap (λ r. r.operations) h.2) v
does_values p s (act.Merge ops) (reply.Merged n) t h v =
    first_values (told_store s.operations) (sum_of (fresh s.operations ops)) (told_store t.operations)
    (ap (λ r. told_store r.operations) h.after ∙ told_store-union s.operations ops) v
does_values p s (act.Step step) reply.Stepped t h v = same_values s t (ap (λ r. r.operations) h.after) v
does_values p s (act.Take part) (reply.Leased lease) t h v = same_values s t (ap (λ r. r.operations) h.1.after) v
does_values p s (act.TakeParts n) (reply.LeasedParts leases) t h v =
    same_values s t (ap (λ r. r.operations) h.1.after) v
does_values p s (act.Put done) reply.WasPut t h v = same_values s t (ap (λ r. r.operations) h.1.after) v
does_values p s (act.Recall number) reply.Recalled t h v = same_values s t (ap (λ r. r.operations) h.after) v
does_values p s act.Settle (reply.Settled n) t h v = same_values s t (ap (λ r. r.operations) h.0.after) v
does_values p s act.Settle (reply.Stopped n) t h v = same_values s t (ap (λ r. r.operations) h.after) v
does_values p s act.Show (reply.Shown bag) t h v = same_values s t (ap (λ r. r.operations) h.2) v
does_values p s act.Summary (reply.Summed summary) t h v = same_values s t (ap (λ r. r.operations) h.1) v
does_values p s (act.Lacks summary) (reply.Lacked ops) t h v = same_values s t (ap (λ r. r.operations) h.1) v
does_values p s act.LeastLease (reply.LeastLease number) t h v = same_values s t (ap (λ r. r.operations) h.1) v
does_values p s _ _ t h v = absurd h

-- where the replica at the end of entries tells 64-bit values, that at their beginning does
pub leads_values : (p : Program) (before : List Entry) (s : Replica) (es : List Entry) (t : Replica)
    → Leads p before s es t → TellsValues t → TellsValues s
leads_values p before s [] t h v = subst TellsValues h v
leads_values p before s (e ∷ es) t h v =
    does_values p s e.act e.reply h.0 h.2 (leads_values p (before ++ e ∷ []) h.0 es t h.3 v)
