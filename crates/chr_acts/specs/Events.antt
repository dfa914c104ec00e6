-- The events of a replica: what is asked of it, what it answers, and the replica after it.
use Rattle.std.specs.Prelude.{◌≡◌, ◌≢◌, ℕ, ◌+◌, List, [], ◌∷◌, map, ⊤}
use Rattle.chr_base.specs.declared.program.Program.{Program}
use Rattle.chr_base.specs.Programs.{rules_of}
use Rattle.chr_base.specs.Sameness.{AreSame}
use Rattle.chr_base.specs.Rules.{Step}
use Rattle.chr_base.specs.Rewriting.{IsAtRest}
use Rattle.chr_weights.specs.WeighedPrograms.{program_of}
use Rattle.chr_join.specs.declared.lease.Lease.{Lease}
use Rattle.chr_ops.specs.declared.fault.Added.TheVariants as added
use Rattle.chr_ops.specs.Operations.{IsHeld}
use Rattle.chr_ops.specs.Summaries.{CoversJust, lacking}
use Rattle.chr_replica.specs.declared.refusal.Refusal.{Refusal}
use Rattle.chr_replica.specs.declared.refusal.Refusal.TheVariants as refusal
use Rattle.chr_replica.specs.Leases.{AreNumbered}
use Rattle.chr_replica.specs.LeastOut.{IsLeastOut}
use Rattle.chr_replica.specs.Replicas.{Replica, IsDeclared, IsSettled, Tells, Merges, Steps, Takes, TakesParts, Puts}
use Rattle.chr_replica.specs.Replicas.{Recalls, Settles}
use Rattle.chr_replica.specs.Refusals.{RefusesTell, RefusesMerge, RefusesStep, RefusesTake, RefusesTakeParts}
use Rattle.chr_replica.specs.Refusals.{RefusesPut, RefusesRecall, RefusesShow}
use Rattle.chr_acts.specs.declared.act.Act.{Act}
use Rattle.chr_acts.specs.declared.act.Act.TheVariants as act
use Rattle.chr_acts.specs.declared.reply.Reply.{Reply}
use Rattle.chr_acts.specs.declared.reply.Reply.TheVariants as reply

-- the replica s of the program p refuses the act
abbrev pub RefusesAct : Program → Replica → Act → Refusal → Type 0
RefusesAct p s (act.Tell op) r = RefusesTell p s op r
RefusesAct p s (act.Merge ops) r = RefusesMerge p s ops r
RefusesAct p s (act.Step step) r = RefusesStep p s step r
RefusesAct p s (act.Take part) r = RefusesTake s part r
RefusesAct p s (act.TakeParts n) r = RefusesTakeParts s n r
RefusesAct p s (act.Put done) r = RefusesPut p s (program_of done.weighed) done.number done.part r
RefusesAct p s (act.Recall number) r = RefusesRecall s number r
RefusesAct p s act.Show r = RefusesShow p s r
RefusesAct p s _ r = ⊥

-- The replica s of the program p does the act, with the reply, and is t afterwards.
abbrev pub Does : Program → Replica → Act → Reply → Replica → Type 0
Does p s a (reply.Refused r) t = RefusesAct p s a r × (r ≢ refusal.Memory) × (t ≡ s)
Does p s (act.Tell op) (reply.Told added.New) t = Tells p s op t
Does p s (act.Tell op) (reply.Told added.Again) t = IsDeclared p op × IsHeld s.operations op × (t ≡ s)
Does p s (act.Merge ops) (reply.Merged n) t = Merges p s ops n t
Does p s (act.Step step) reply.Stepped t = Steps p s step t
Does p s (act.Take part) (reply.Leased lease) t = (lease.part ≡ part) × Takes s part lease.number t
Does p s (act.TakeParts n) (reply.LeasedParts leases) t =
    AreNumbered s.next leases × TakesParts s n (map (λ l. l.part) leases) t
Does p s (act.Put done) reply.WasPut t =
    AreSame (program_of done.weighed) p × Puts p s done.number done.part done.result t
Does p s (act.Recall number) reply.Recalled t = Recalls s number t
Does p s act.Settle (reply.Settled n) t = Settles p s n t × IsAtRest (Step (rules_of p)) t.pool
Does p s act.Settle (reply.Stopped n) t = Settles p s n t
Does p s act.Show (reply.Shown bag) t = (bag ≡ s.pool) × IsSettled p s × (t ≡ s)
Does p s act.Summary (reply.Summed summary) t = CoversJust summary s.operations × (t ≡ s)
Does p s (act.Lacks summary) (reply.Lacked ops) t = (ops ≡ lacking s.operations summary) × (t ≡ s)
Does p s act.LeastLease (reply.LeastLease number) t = IsLeastOut s.out number × (t ≡ s)
Does p s _ _ t = ⊥
