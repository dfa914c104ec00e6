-- What a replica answers to a show, a summary and a question for operations.
use Rattle.std.proofs.Common.{◌≡◌, ℕ, List, not, refl, sym, ap, ◌∙◌, subst, arith}
use Rattle.std.specs.Prelude.{Option, Some, None, Result, Ok, Err, Vec}
use Rattle.std.proofs.lemmas.Option.{none-some}
use Rattle.std.specs.declared.alloc.Global.{Global}
use Rattle.std.specs.List.{filter}
use Rattle.std.specs.FinMap as map
use Rattle.std.specs.Ordering.{nat_cmp}
use Rattle.chr_base.specs.Stores.{Store}
use Rattle.chr_base.specs.declared.program.Program.{Program}
use Rattle.chr_base.specs.ProgramTests.{Declaration}
use Rattle.chr_base.specs.Programs.{declarations, rules_of}
use Rattle.chr_base.specs.Rules.{Step}
use Rattle.chr_base.specs.Rewriting.{IsNormalForm}
use Rattle.chr_base.specs.Texts.{store_text}
use Rattle.chr_ops.specs.declared.id.OpId.{OpId}
use Rattle.chr_ops.specs.declared.range.IdRange.{IdRange}
use Rattle.chr_ops.specs.Operations.{Operation, Operations, operations_of, told_store}
use Rattle.chr_ops.specs.Summaries.{IsApart, covers, lacking}
use Rattle.chr_exchange.specs.Texts.{HaveDifferentIds, LackedIdsDiffer, summary_text}
use Rattle.chr_json.specs.declared.command.DeltaVersion.{DeltaVersion}
use Rattle.chr_replica.specs.declared.refusal.Refusal.{Refusal}
use Rattle.chr_replica.specs.declared.refusal.Refusal.TheVariants as refused
use Rattle.chr_replica.specs.Replicas.{Replica, IsSettled, IsSound}
use Rattle.chr_replica.proofs.OneAnswer.{normal}
use Rattle.chr_acts.specs.declared.act.Act.TheVariants as act
use Rattle.chr_acts.specs.declared.reply.Reply.TheVariants as reply
use Rattle.chr_acts.specs.Events.{Does}
use Rattle.chr_worlds.specs.Worlds.{Replicas, IsAt, Happens}
use Rattle.chr_worlds.specs.declared.event.Event.TheVariants as event
use Rattle.chr_worlds.specs.declared.refusal.WorldRefusal.{WorldRefusal}
use Rattle.chr_worlds.specs.declared.refusal.WorldRefusal.TheVariants as denied
use Rattle.chr_worlds.specs.Answers.{lacked_answer, shown_answer, summed_answer}
use Rattle.chr_answers.specs.declared.reply.Refusal.TheVariants as refusal
use Rattle.chr_answers.specs.Replies.{refusal_text}
use Rattle.chr_answers.specs.Answers.{delta_text_of, AnswersShow, AnswersSummary, AnswersLacks, AnswersAt}
use Rattle.chr_answers.specs.declared.reply.Reply.{Reply}
use Rattle.chr_answers.specs.working.ReplyTexts.{reply_text, shown_reply}
use Rattle.chr_answers.specs.Services.{operations_held, AreBetweenLines}
use Rattle.chr_answers.proofs.BetweenLines.{ready_at}
use Rattle.chr_answers.proofs.Held.{answers_at, none_answers}

-- a replica at rest, of which nothing is out, shows a normal form of what it was told
does_show : (ds : List Declaration) (p : Program) (s : Replica) (store : Store) (t : Replica) → IsSound p s
    → IsSettled p s → Does p s act.Show (reply.Shown store) t
    → AnswersShow ds (rules_of p) s.operations (store_text ds store) t.operations
does_show ds p s store t sound settled d = (
  record {
    store = store;
    normal_form = subst (IsNormalForm (Step (rules_of p)) (told_store s.operations)) (sym d.0)
        (normal p s sound settled);
    text_is = refl;
  },
  ap (λ r. r.operations) d.2,
)

-- and never refuses to
refuses_none : (p : Program) (s : Replica) (x : Refusal) (t : Replica) → IsSettled p s
    → ¬ Does p s act.Show (reply.Refused x) t
refuses_none p s (refused.Leased n) t settled d =
    let e : n ≡ 0 = d.0.0 ∙ ap map.len settled.0 ∙ map.len-empty nat_cmp Store in
    let l = d.0.1 in omega (arith, e, l)
refuses_none p s refused.NotAtRest t settled d = d.0.1 settled.1
refuses_none p s refused.Memory t settled d = d.1 refl
refuses_none p s _ t settled d = d.0

-- of replicas at rest
pub show_answers : (ds : List Declaration) (p : Program) (w v : Replicas) (r : ℕ) (x : Result Store WorldRefusal)
    → ((s : Replica) → IsAt w r s → IsSound p s × IsSettled p s)
    → Happens p w (event.At r act.Show) (shown_answer x) v
    → AnswersAt (operations_held w) r (AnswersShow ds (rules_of p)) (reply_text ds (shown_reply x)) (operations_held v)
show_answers ds p w v r (Ok store) ready h =
    let g = ready h.before h.there in
    answers_at w v r (AnswersShow ds (rules_of p)) (store_text ds store) h.before h.after h.there h.world
    (does_show ds p h.before store h.after g.0 g.1 h.changed)
show_answers ds p w v r (Err (denied.Replica x)) ready h =
    absurd (refuses_none p h.before x h.after (ready h.before h.there).1 h.changed)
show_answers ds p w v r (Err denied.UnknownSymbol) ready h = absurd h.1
show_answers ds p w v r (Err denied.NoReplica) ready h = none_answers w v r (AnswersShow ds (rules_of p)) h.0 h.2

-- of ready replicas that were rested
pub shown : (p : Program) (w : Replicas) (r : ℕ) (x : Result Store WorldRefusal) (y : Reply) → AreBetweenLines p w
    → ((s : Replica) → IsAt w r s → IsSettled p s) → Happens p w (event.At r act.Show) (shown_answer x) w
    → y ≡ shown_reply x
    → AnswersAt (operations_held w) r (AnswersShow (declarations p) (rules_of p)) (reply_text (declarations p) y)
    (operations_held w)
shown p w r x y ready rest h is =
    subst (λ y. AnswersAt (operations_held w) r (AnswersShow (declarations p) (rules_of p))
    (reply_text (declarations p) y) (operations_held w)) (sym is)
    (show_answers (declarations p) p w w r x (λ s there. (ready_at p w r s ready there, rest s there)) h)

-- the ids that a replica holds, by ranges as long as possible
pub summary_answers : (p : Program) (w v : Replicas) (r : ℕ) (x : Option (List IdRange)) (ranges : List IdRange)
    → x ≡ Some ranges → IsApart ranges → Happens p w (event.At r act.Summary) (summed_answer x) v
    → AnswersAt (operations_held w) r AnswersSummary (summary_text ranges) (operations_held v)
summary_answers p w v r x ranges is apart happens =
    let h : Happens p w (event.At r act.Summary) (summed_answer (Some ranges)) v =
    subst (λ x. Happens p w (event.At r act.Summary) (summed_answer x) v) is happens in
    answers_at w v r AnswersSummary (summary_text ranges) h.before h.after h.there h.world (record {
      ranges = ranges;
      apart = apart;
      just = h.changed.0;
      text_is = refl;
      same = ap (λ r. r.operations) h.changed.1;
    })

-- none where there is no such replica
pub none_summed : (p : Program) (w v : Replicas) (r : ℕ) (x : Option (List IdRange)) → x ≡ None
    → Happens p w (event.At r act.Summary) (summed_answer x) v
    → AnswersAt (operations_held w) r AnswersSummary (refusal_text refusal.NoReplica) (operations_held v)
none_summed p w v r None is h = none_answers w v r AnswersSummary h.0 h.2
none_summed p w v r (Some ranges) is h = absurd (none-some ranges (sym is))

-- what is lacked has different ids
pub lacked_differ : LackedIdsDiffer → (p : Program) (w v : Replicas) (r : ℕ) (rs : List IdRange)
    (x : Option (Vec Operation Global)) (ops : Vec Operation Global) → x ≡ Some ops
    → Happens p w (event.At r (act.Lacks rs)) (lacked_answer x) v → HaveDifferentIds ops.items
lacked_differ differ p w v r rs x ops is happens =
    let h : Happens p w (event.At r (act.Lacks rs)) (lacked_answer (Some ops)) v =
    subst (λ x. Happens p w (event.At r (act.Lacks rs)) (lacked_answer x) v) is happens in
    subst HaveDifferentIds (sym h.changed.0) (differ h.before.operations rs)

-- ranges that cover the same ids leave the same operations
same_lacking : (m : Operations) (rs ss : List IdRange) → ((id : OpId) → covers rs id ≡ covers ss id) → lacking m rs
    ≡ lacking m ss
same_lacking m rs ss same = λ i. filter (λ o. not (same o.0 i)) (map.entries m)

-- the operations that a summary does not cover, by ranges that cover the same ids
pub lacks_answers : (ds : List Declaration) (k : DeltaVersion) (p : Program) (w v : Replicas) (r : ℕ)
    (rs ss : List IdRange) (x : Option (Vec Operation Global)) (ops : Vec Operation Global) (text : List ℕ)
    → x ≡ Some ops → ((id : OpId) → covers rs id ≡ covers ss id)
    → Happens p w (event.At r (act.Lacks rs)) (lacked_answer x) v
    → text ≡ delta_text_of k ds (operations_of ops.items)
    → AnswersAt (operations_held w) r (AnswersLacks ds ss k) text (operations_held v)
lacks_answers ds k p w v r rs ss x ops text is same happens written =
    let h : Happens p w (event.At r (act.Lacks rs)) (lacked_answer (Some ops)) v =
    subst (λ x. Happens p w (event.At r (act.Lacks rs)) (lacked_answer x) v) is happens in
    answers_at w v r (AnswersLacks ds ss k) text h.before h.after h.there h.world (
      written ∙ ap (λ os. delta_text_of k ds (operations_of os))
          (h.changed.0 ∙ same_lacking h.before.operations rs ss same),
      ap (λ r. r.operations) h.changed.1,
    )

-- none where there is no such replica
pub none_lacked : (ds : List Declaration) (k : DeltaVersion) (p : Program) (w v : Replicas) (r : ℕ)
    (rs ss : List IdRange) (x : Option (Vec Operation Global)) → x ≡ None
    → Happens p w (event.At r (act.Lacks rs)) (lacked_answer x) v
    → AnswersAt (operations_held w) r (AnswersLacks ds ss k) (refusal_text refusal.NoReplica) (operations_held v)
none_lacked ds k p w v r rs ss None is h = none_answers w v r (AnswersLacks ds ss k) h.0 h.2
none_lacked ds k p w v r rs ss (Some ops) is h = absurd (none-some ops (sym is))
