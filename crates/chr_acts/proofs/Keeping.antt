-- Events keep replicas sound.
use Rattle.std.proofs.Common.{sym, subst}
use Rattle.chr_base.specs.declared.program.Program.{Program}
use Rattle.chr_ops.specs.declared.fault.Added.TheVariants as added
use Rattle.chr_replica.specs.Replicas.{Replica, IsSound}
use Rattle.chr_replica.specs.Laws.{TellKeeps, MergeKeeps, StepKeeps, TakeKeeps, TakePartsKeeps, PutKeeps, RecallKeeps}
use Rattle.chr_replica.specs.Laws.{SettleKeeps}
use Rattle.chr_acts.specs.declared.act.Act.{Act}
use Rattle.chr_acts.specs.declared.act.Act.TheVariants as act
use Rattle.chr_acts.specs.declared.reply.Reply.{Reply}
use Rattle.chr_acts.specs.declared.reply.Reply.TheVariants as reply
use Rattle.chr_acts.specs.Events.{Does}

-- what the laws of replicas say of their events
pub record EventsKeep : Type 0 where
  pub tell : TellKeeps
  pub merge : MergeKeeps
  pub step : StepKeeps
  pub take : TakeKeeps
  pub take_parts : TakePartsKeeps
  pub put : PutKeeps
  pub recall : RecallKeeps
  pub settle : SettleKeeps

-- an event keeps replicas sound
pub does_keeps : EventsKeep → (p : Program) (s : Replica) (a : Act) (x : Reply) (t : Replica) → Does p s a x t
    → IsSound p s → IsSound p t
does_keeps k p s a (reply.Refused r) t h sound = subst (IsSound p) (sym h.2) sound
does_keeps k p s (act.Tell op) (reply.Told added.New) t h sound = k.tell p op s t h sound
does_keeps k p s (act.Tell op) (reply.Told added.Again) t h sound = subst (IsSound p) (sym h.2) sound
does_keeps k p s (act.Merge ops) (reply.Merged n) t h sound = k.merge p ops n s t h sound
does_keeps k p s (act.Step step) reply.Stepped t h sound = k.step p step s t h sound
does_keeps k p s (act.Take part) (reply.Leased lease) t h sound = k.take p part lease.number s t h.1 sound
does_keeps k p s (act.TakeParts n) (reply.LeasedParts leases) t h sound = k.take_parts p n _ s t h.1 sound
does_keeps k p s (act.Put done) reply.WasPut t h sound = k.put p done.number done.part done.result s t h.1 sound
does_keeps k p s (act.Recall number) reply.Recalled t h sound = k.recall p number s t h sound
does_keeps k p s act.Settle (reply.Settled n) t h sound = k.settle p n s t h.0 sound
does_keeps k p s act.Settle (reply.Stopped n) t h sound = k.settle p n s t h sound
does_keeps k p s act.Show (reply.Shown bag) t h sound = subst (IsSound p) (sym h.2) sound
does_keeps k p s act.Summary (reply.Summed summary) t h sound = subst (IsSound p) (sym h.1) sound
does_keeps k p s (act.Lacks summary) (reply.Lacked ops) t h sound = subst (IsSound p) (sym h.1) sound
does_keeps k p s act.LeastLease (reply.LeastLease number) t h sound = subst (IsSound p) (sym h.1) sound
does_keeps k p s _ _ t h sound = absurd h
