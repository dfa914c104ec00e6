-- What journals tell.
use Rattle.std.specs.Prelude.{◌≡◌, List, [], ◌∷◌, ◌++◌}
use Rattle.std.proofs.Common.{refl, sym, ap, ◌∙◌, subst}
use Rattle.chr_base.specs.declared.program.Program.{Program}
use Rattle.chr_base.specs.Stores.{Store}
use Rattle.chr_base.specs.Programs.{rules_of}
use Rattle.chr_join.specs.Parts.{IsOnlyNormalForm}
use Rattle.chr_ops.specs.declared.fault.Added.TheVariants as added
use Rattle.chr_ops.specs.Operations.{told_store}
use Rattle.chr_replica.specs.Replicas.{Replica, first, IsSound, IsSettled}
use Rattle.chr_replica.specs.Laws.{FirstIsSound, OneAnswer}
use Rattle.chr_acts.specs.declared.act.Act.{Act}
use Rattle.chr_acts.specs.declared.act.Act.TheVariants as act
use Rattle.chr_acts.specs.declared.entry.Entry.{Entry}
use Rattle.chr_acts.specs.declared.reply.Reply.{Reply}
use Rattle.chr_acts.specs.declared.reply.Reply.TheVariants as reply
use Rattle.chr_acts.specs.Events.{Does}
use Rattle.chr_acts.specs.Journals.{Leads, IsLegal}
use Rattle.chr_acts.proofs.Keeping.{EventsKeep, does_keeps}
use Rattle.chr_acts.specs.JournalLaws.{held_by, held_after, held_in, JournalsHold, AnswersAreShown, AnswersAgree}
use Rattle.chr_acts.proofs.Values.{TellsValues, leads_values}

does_holds : (p : Program) (s : Replica) (a : Act) (x : Reply) (t : Replica) → Does p s a x t → t.operations
    ≡ held_by s.operations a x
does_holds p s a (reply.Refused r) t h = ap (λ r. r.operations) h.2
does_holds p s (act.Tell op) (reply.Told added.New) t h = ap (λ r. r.operations) h.after
does_holds p s (act.Tell op) (reply.Told added.Again) t h = ap (λ r. r.operations) h.2
does_holds p s (act.Merge ops) (reply.Merged n) t h = ap (λ r. r.operations) h.after
does_holds p s (act.Step step) reply.Stepped t h = ap (λ r. r.operations) h.after
does_holds p s (act.Take part) (reply.Leased lease) t h = ap (λ r. r.operations) h.1.after
does_holds p s (act.TakeParts n) (reply.LeasedParts leases) t h = ap (λ r. r.operations) h.1.after
does_holds p s (act.Put done) reply.WasPut t h = ap (λ r. r.operations) h.1.after
does_holds p s (act.Recall number) reply.Recalled t h = ap (λ r. r.operations) h.after
does_holds p s act.Settle (reply.Settled n) t h = ap (λ r. r.operations) h.0.after
does_holds p s act.Settle (reply.Stopped n) t h = ap (λ r. r.operations) h.after
does_holds p s act.Show (reply.Shown bag) t h = ap (λ r. r.operations) h.2
does_holds p s act.Summary (reply.Summed summary) t h = ap (λ r. r.operations) h.1
does_holds p s (act.Lacks summary) (reply.Lacked ops) t h = ap (λ r. r.operations) h.1
does_holds p s act.LeastLease (reply.LeastLease number) t h = ap (λ r. r.operations) h.1
does_holds p s _ _ t h = absurd h

leads_hold : (p : Program) (before : List Entry) (s : Replica) (es : List Entry) (t : Replica) → Leads p before s es t
    → t.operations ≡ held_after s.operations es
leads_hold p before s [] t h = ap (λ r. r.operations) h
leads_hold p before s (e ∷ es) t h =
    leads_hold p (before ++ e ∷ []) h.0 es t h.3 ∙ ap (λ m. held_after m es) (does_holds p s e.act e.reply h.0 h.2)

leads_keeps : EventsKeep → (p : Program) (before : List Entry) (s : Replica) (es : List Entry) (t : Replica)
    → Leads p before s es t → IsSound p s → IsSound p t
leads_keeps k p before s [] t h sound = subst (IsSound p) (sym h) sound
leads_keeps k p before s (e ∷ es) t h sound =
    leads_keeps k p (before ++ e ∷ []) h.0 es t h.3 (does_keeps k p s e.act e.reply h.0 h.2 sound)

-- a journal that is cut before an entry
record Cut (p : Program) (before : List Entry) (s : Replica) (xs : List Entry) (e : Entry) : Type 0 where
  pub here : Replica
  pub leads : Leads p before s xs here
  pub values : TellsValues here
  pub next : Replica
  pub does : Does p here e.act e.reply next

cut : (p : Program) (before : List Entry) (s : Replica) (xs : List Entry) (e : Entry) (ys : List Entry) (t : Replica)
    → Leads p before s (xs ++ e ∷ ys) t → TellsValues t → Cut p before s xs e
cut p before s [] e ys t h v =
    record { here = s; leads = refl; values = leads_values p before s (e ∷ ys) t h v; next = h.0; does = h.2 }
cut p before s (x ∷ xs) e ys t h v =
    let c = cut p (before ++ x ∷ []) h.0 xs e ys t h.3 v in
    record { here = c.here; leads = (h.0, h.1, h.2, c.leads); values = c.values; next = c.next; does = c.does }

shown : (p : Program) (s : Replica) (a : Act) (bag : Store) (t : Replica) → Does p s a (reply.Shown bag) t
    → (bag ≡ s.pool) × IsSettled p s
shown p s act.Show bag t h = (h.0, h.1)
shown p s _ bag t h = absurd h

-- the replica at a place where the store was shown
record At (p : Program) (before : List Entry) (bag : Store) : Type 0 where
  pub here : Replica
  pub held : here.operations ≡ held_in before
  pub values : TellsValues here
  pub sound : IsSound p here
  pub settled : IsSettled p here
  pub shows : bag ≡ here.pool

at : EventsKeep → FirstIsSound → (p : Program) (es before after : List Entry) (e : Entry) (t : Replica) (bag : Store)
    → IsLegal p es t → TellsValues t → es ≡ before ++ e ∷ after → e.reply ≡ reply.Shown bag → At p before bag
at k start p es before after e t bag legal values there is =
    let c = cut p [] first before e after t (subst (λ l. IsLegal p l t) there legal) values in
    let s = shown p c.here e.act bag c.next (subst (λ x. Does p c.here e.act x c.next) is c.does) in
    record {
      here = c.here;
      held = leads_hold p [] first before c.here c.leads;
      values = c.values;
      sound = leads_keeps k p [] first before c.here c.leads (start p);
      settled = s.1;
      shows = s.0;
    }

pub journals_hold : JournalsHold
journals_hold p es s legal = leads_hold p [] first es s legal

pub answers_are_shown : EventsKeep → FirstIsSound → OneAnswer → AnswersAreShown
answers_are_shown k start one p es t confluent legal values before after e bag there is =
    let a = at k start p es before after e t bag legal values there is in
    let o = one p p a.here a.here (refl, refl) confluent a.values refl a.sound a.sound a.settled a.settled in
    subst (λ m. IsOnlyNormalForm (rules_of p) (told_store m) bag) a.held
    (subst (IsOnlyNormalForm (rules_of p) (told_store a.here.operations)) (sym a.shows)
    (record { normal = o.1; only = o.2 }))

pub answers_agree : EventsKeep → FirstIsSound → OneAnswer → AnswersAgree
answers_agree k start one p q es fs s t same confluent legal values legal' values' before after before' after' e e' bag
    bag' there is there' is' equal =
    let a = at k start p es before after e s bag legal values there is in
    let b = at k start q fs before' after' e' t bag' legal' values' there' is' in
    a.shows ∙ (one p q a.here b.here same confluent a.values (a.held ∙ equal ∙ sym b.held) a.sound b.sound a.settled
    b.settled).0 ∙ sym b.shows
