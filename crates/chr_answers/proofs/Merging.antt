-- What a replica answers to a merge, and to an exchange.
use Rattle.std.proofs.Common.{◌≡◌, ℕ, ◌+◌, ◌-◌, ◌≤◌, List, ◌++◌, All, codes, refl, sym, ap, ◌∙◌, subst, arith, inl, inr}
use Rattle.std.proofs.Common.{◌⊎◌}
use Rattle.std.specs.Prelude.{MatchOption, Result, Ok, Err}
use Rattle.std.specs.Fmt.{decimal}
use Rattle.std.specs.FinMap as map
use Rattle.chr_base.specs.declared.program.Program.{Program}
use Rattle.chr_base.specs.ProgramTests.{Declaration}
use Rattle.chr_ops.specs.declared.limits.TheConstants.{MAX_TOLD}
use Rattle.chr_ops.specs.declared.range.IdRange.{IdRange}
use Rattle.chr_ops.specs.Operations.{Operation, Operations, told_atoms}
use Rattle.chr_ops.specs.Joins.{union}
use Rattle.chr_ops.specs.Summaries.{CoversJust, lacking}
use Rattle.chr_ops.proofs.Lacked.{exchange, no_clash}
use Rattle.chr_base.specs.Programs.{declarations}
use Rattle.chr_replica.specs.Refusals.{refusal_number}
use Rattle.chr_replica.specs.declared.refusal.Refusal.{Refusal}
use Rattle.chr_replica.specs.declared.refusal.Refusal.TheVariants as refused
use Rattle.chr_replica.specs.declared.refusal.Limit.TheVariants as limit
use Rattle.chr_replica.specs.Replicas.{Replica, IsDeclared}
use Rattle.chr_acts.specs.declared.act.Act.TheVariants as act
use Rattle.chr_acts.specs.declared.reply.Reply.TheVariants as reply
use Rattle.chr_acts.specs.Events.{Does}
use Rattle.chr_worlds.specs.Worlds.{Replicas, IsAt, HasReplica, Happens}
use Rattle.chr_worlds.specs.declared.event.Event.TheVariants as event
use Rattle.chr_worlds.specs.declared.refusal.WorldRefusal.{WorldRefusal}
use Rattle.chr_worlds.specs.declared.refusal.WorldRefusal.TheVariants as denied
use Rattle.chr_worlds.specs.Answers.{merged_answer}
use Rattle.chr_answers.specs.declared.reply.Refusal.TheVariants as refusal
use Rattle.chr_answers.specs.Replies.{refusal_text}
use Rattle.chr_answers.specs.Answers.{AnswersRefusal, AnswersMerge, AnswersUnion, AnswersSync}
use Rattle.chr_answers.specs.Answers.{AnswersAt, AnswersBetween}
use Rattle.chr_answers.specs.declared.reply.Reply.{Reply}
use Rattle.chr_answers.specs.working.ReplyTexts.{merged_reply, number_text, reply_text, synced_reply}
use Rattle.chr_answers.specs.Services.{operations_held, AreBetweenLines}
use Rattle.chr_replica.proofs.DeclaredSets.{lacking_declared}
use Rattle.chr_answers.proofs.BetweenLines.{ready_at}
use Rattle.chr_answers.proofs.Held.{answers_at, none_answers, held_at, none_held, has_one, there_or_not}

joined : (word : List ℕ) (ops : List Operation) (old new : Operations) (n : ℕ) → told_atoms (union old ops) ≤ MAX_TOLD
    → n + map.len old ≡ map.len new → new ≡ union old ops
    → AnswersUnion word ops old (word ++ decimal n) new
joined word ops old new n room count e =
    let len : n + map.len old ≡ map.len (union old ops) = count ∙ ap map.len e in
    let more : n ≡ map.len (union old ops) - map.len old = omega (arith, len) in
    record {
      full = λ l. absurd (omega (arith, l, room));
      joined = λ _. (ap (λ k. word ++ decimal k) more, e);
    }

over : (word : List ℕ) (ops : List Operation) (old new : Operations) → ¬ (told_atoms (union old ops) ≤ MAX_TOLD)
    → new ≡ old → AnswersUnion word ops old (refusal_text refusal.Full) new
over word ops old new full e = record { full = λ _. (refl, e); joined = λ l. absurd (full l) }

does_merge : (p : Program) (s : Replica) (ops : List Operation) (n : ℕ) (t : Replica)
    → Does p s (act.Merge ops) (reply.Merged n) t
    → AnswersMerge ops s.operations (codes "merged " ++ decimal n) t.operations
does_merge p s ops n t d = record {
  clash = λ i id h. absurd (d.no_clash i id h);
  unites = λ _. joined (codes "merged ") ops s.operations t.operations n d.room d.count
      (ap (λ r. r.operations) d.after);
}

-- of operations that are refused
refuses_merge : (p : Program) (s : Replica) (ops : List Operation) (x : Refusal) (t : Replica)
    → All (IsDeclared p) ops → Does p s (act.Merge ops) (reply.Refused x) t
    → AnswersMerge ops s.operations (number_text (refusal_number x)) t.operations
refuses_merge p s ops refused.UnknownSymbol t declared d = absurd (d.0 declared)
refuses_merge p s ops (refused.Clash id) t declared d = record {
  clash = λ _ _ _. (refl, ap (λ r. r.operations) d.2);
  unites = λ none. absurd (none d.0.1.0 id d.0.1.1);
}
refuses_merge p s ops (refused.Full limit.Told) t declared d = record {
  clash = λ i id h. absurd (d.0.1 i id h);
  unites = λ _. over (codes "merged ") ops s.operations t.operations (λ l. let m = d.0.2 in omega (arith, l, m))
      (ap (λ r. r.operations) d.2);
}
refuses_merge p s ops refused.Memory t declared d = absurd (d.1 refl)
refuses_merge p s ops _ t declared d = absurd d.0

-- of operations whose atoms are declared
pub merge_answers : (ds : List Declaration) (p : Program) (w v : Replicas) (r : ℕ) (ops : List Operation)
    (x : Result ℕ WorldRefusal) → All (IsDeclared p) ops
    → Happens p w (event.At r (act.Merge ops)) (merged_answer x) v
    → AnswersAt (operations_held w) r (AnswersMerge ops) (reply_text ds (merged_reply x)) (operations_held v)
merge_answers ds p w v r ops (Ok n) declared h =
    answers_at w v r (AnswersMerge ops) (codes "merged " ++ decimal n) h.before h.after h.there h.world
    (does_merge p h.before ops n h.after h.changed)
merge_answers ds p w v r ops (Err (denied.Replica x)) declared h =
    answers_at w v r (AnswersMerge ops) (number_text (refusal_number x)) h.before h.after h.there h.world
    (refuses_merge p h.before ops x h.after declared h.changed)
merge_answers ds p w v r ops (Err denied.UnknownSymbol) declared h = absurd (h.1 declared)
merge_answers ds p w v r ops (Err denied.NoReplica) declared h = none_answers w v r (AnswersMerge ops) h.0 h.2

-- what is lacked is merged
does_sync : (p : Program) (from : Operations) (t : Replica) (rs : List IdRange) (n : ℕ) (u : Replica)
    → CoversJust rs t.operations → Does p t (act.Merge (lacking from rs)) (reply.Merged n) u
    → AnswersSync from t.operations (codes "synced " ++ decimal n) u.operations
does_sync p from t rs n u just d =
    let e = exchange t.operations from rs just in
    joined (codes "synced ") (map.entries from) t.operations u.operations n
    (subst (λ m. told_atoms m ≤ MAX_TOLD) e d.room) d.count (ap (λ r. r.operations) d.after ∙ e)

-- what is lacked is refused
refuses_sync : (p : Program) (from : Operations) (t : Replica) (rs : List IdRange) (x : Refusal) (u : Replica)
    → CoversJust rs t.operations → All (IsDeclared p) (lacking from rs)
    → Does p t (act.Merge (lacking from rs)) (reply.Refused x) u
    → AnswersSync from t.operations (number_text (refusal_number x)) u.operations
refuses_sync p from t rs refused.UnknownSymbol u just declared d = absurd (d.0 declared)
refuses_sync p from t rs (refused.Clash id) u just declared d =
    absurd (no_clash t.operations from rs just d.0.1.0 id d.0.1.1)
refuses_sync p from t rs (refused.Full limit.Told) u just declared d =
    let e = exchange t.operations from rs just in
    over (codes "synced ") (map.entries from) t.operations u.operations
    (λ l. let m = d.0.2 in let l' = subst (λ m. told_atoms m ≤ MAX_TOLD) (sym e) l in omega (arith, l', m))
    (ap (λ r. r.operations) d.2)
refuses_sync p from t rs refused.Memory u just declared d = absurd (d.1 refl)
refuses_sync p from t rs _ u just declared d = absurd d.0

between : (w : Replicas) (a b : ℕ) (s : Replica) (text : List ℕ) (new : List Operations) → IsAt w a s
    → AnswersAt (operations_held w) b (AnswersSync s.operations) text new
    → AnswersBetween (operations_held w) a b text new
between w a b s text new there h =
    subst (λ o. MatchOption o (AnswersRefusal refusal.NoReplica (operations_held w) text new)
    (λ from. AnswersAt (operations_held w) b (AnswersSync from) text new)) (sym (held_at w a s there)) h

-- of replicas that hold declared atoms alone
pub sync_answers : (ds : List Declaration) (p : Program) (w v : Replicas) (a b : ℕ) (x : Result ℕ WorldRefusal)
    → ((s : Replica) (rs : List IdRange) → IsAt w a s → All (IsDeclared p) (lacking s.operations rs))
    → Happens p w (event.Sync a b) (merged_answer x) v
    → AnswersBetween (operations_held w) a b (reply_text ds (synced_reply x)) (operations_held v)
sync_answers ds p w v a b (Ok n) declared h =
    let c = h.2 in
    between w a b h.0 _ _ h.1
    (answers_at w v b (AnswersSync h.0.operations) (codes "synced " ++ decimal n) c.before c.after c.there c.world
    (does_sync p h.0.operations c.before c.changed.summary n c.after c.changed.covers c.changed.merged))
sync_answers ds p w v a b (Err (denied.Replica x)) declared h =
    let c = h.2 in
    between w a b h.0 _ _ h.1
    (answers_at w v b (AnswersSync h.0.operations) (number_text (refusal_number x)) c.before c.after c.there c.world
    (refuses_sync p h.0.operations c.before c.changed.summary x c.after c.changed.covers
    (declared h.0 c.changed.summary h.1) c.changed.merged))
sync_answers ds p w v a b (Err denied.UnknownSymbol) declared h = absurd h
sync_answers ds p w v a b (Err denied.NoReplica) declared h = by (there_or_not w a)
  where
    by : ((s : Replica) × IsAt w a s) ⊎ (¬ HasReplica w a) → AnswersBetween (operations_held w) a b
        (refusal_text refusal.NoReplica) (operations_held v)
    by (inl g) = between w a b g.0 _ _ g.1 (none_answers w v b (AnswersSync g.0.operations)
        (λ there. h.0 (has_one w a g.0 g.1, there)) h.1)
    by (inr n) =
        let none : AnswersRefusal refusal.NoReplica (operations_held w) (refusal_text refusal.NoReplica)
        (operations_held v) = (refl, ap operations_held h.1) in
        subst (λ o. MatchOption o (AnswersRefusal refusal.NoReplica (operations_held w) (refusal_text refusal.NoReplica)
        (operations_held v)) (λ from. AnswersAt (operations_held w) b (AnswersSync from)
        (refusal_text refusal.NoReplica) (operations_held v))) (sym (none_held w a n)) none

-- of operations of the program's atoms, after which a pool may be rested
pub merged : (p : Program) (w v : Replicas) (new : List Operations) (r : ℕ) (ops : List Operation)
    (x : Result ℕ WorldRefusal) (y : Reply) → All (IsDeclared p) ops
    → Happens p w (event.At r (act.Merge ops)) (merged_answer x) v → new ≡ operations_held v → y ≡ merged_reply x
    → AnswersAt (operations_held w) r (AnswersMerge ops) (reply_text (declarations p) y) new
merged p w v new r ops x y declared h e is =
    subst (λ y. AnswersAt (operations_held w) r (AnswersMerge ops) (reply_text (declarations p) y) new) (sym is)
    (subst (AnswersAt (operations_held w) r (AnswersMerge ops) (reply_text (declarations p) (merged_reply x))) (sym e)
    (merge_answers (declarations p) p w v r ops x declared h))

-- of ready replicas, after which a pool may be rested
pub synced : (p : Program) (w v : Replicas) (new : List Operations) (a b : ℕ) (x : Result ℕ WorldRefusal) (y : Reply)
    → AreBetweenLines p w → Happens p w (event.Sync a b) (merged_answer x) v → new ≡ operations_held v
    → y ≡ synced_reply x → AnswersBetween (operations_held w) a b (reply_text (declarations p) y) new
synced p w v new a b x y ready h e is =
    subst (λ y. AnswersBetween (operations_held w) a b (reply_text (declarations p) y) new) (sym is)
    (subst (AnswersBetween (operations_held w) a b (reply_text (declarations p) (synced_reply x))) (sym e)
    (sync_answers (declarations p) p w v a b x (λ s rs there.
    lacking_declared p s.operations rs (ready_at p w a s ready there).declared) h))
