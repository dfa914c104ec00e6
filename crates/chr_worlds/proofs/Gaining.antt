-- What boards gained, as news keep it, stays true of them.
use Rattle.std.specs.Prelude.{◌≡◌, ◌≢◌, ℕ, List, [], ◌∷◌, Option, Some, None, slice_get, slice_set, Result, Ok, Err}
use Rattle.std.specs.Prelude.{IfOk, OnErr, true, false}
use mathlib.Core.Bool.{true≢false}
use Rattle.std.specs.declared.alloc.AllocError.{AllocError}
use Rattle.std.proofs.Common.{refl, sym, ap, ◌∙◌, subst, inl, inr}
use Rattle.std.proofs.lemmas.Bool.Decides.{eqb_tells}
use Rattle.std.proofs.lemmas.List.{map-set, set-get_or}
use Rattle.std.proofs.lemmas.Option.{slice_get_within, get_or_from_slice_get}
use Rattle.chr_base.specs.declared.derivation.Step.{Step as StepValue}
use Rattle.chr_base.specs.declared.program.Program.{Program}
use Rattle.chr_ops.specs.declared.fault.Added.{Added}
use Rattle.chr_ops.specs.declared.fault.Added.TheVariants as added
use Rattle.chr_ops.specs.declared.id.OpId.{OpId}
use Rattle.chr_ops.specs.declared.news.News.{News}
use Rattle.chr_ops.specs.declared.range.IdRange.{IdRange}
use Rattle.chr_ops.specs.Exchange.{ExchangeLaw}
use Rattle.chr_ops.specs.News.{ids_of, GainsOnly, HoldsAll, IsTrueOf, IsTrueOfAll, LacksOnly}
use Rattle.chr_ops.specs.Operations.{Operation, Operations}
use Rattle.chr_ops.specs.Joins.{union}
use Rattle.chr_ops.specs.Summaries.{CoversJust, SummariesExist, lacking}
use Rattle.chr_ops.proofs.Unions.{union_new}
use Rattle.chr_ops.proofs.NewsOfAll.{union_gains, union_holds, union_holds_both, set_here, set_elsewhere}
use Rattle.chr_ops.proofs.NewsOfAll.{gained_all, met_all}
use Rattle.chr_replica.specs.Boards.{Held, program_on}
use Rattle.chr_replica.specs.declared.refusal.Refusal.TheVariants as refusal
use Rattle.chr_replica.specs.declared.rested.Placed.{Placed}
use Rattle.chr_replica.specs.declared.rested.RestedOps.{RestedOps}
use Rattle.chr_replica.specs.Replicas.{Replica}
use Rattle.chr_replica.proofs.RestedTells.{rested_holds}
use Rattle.chr_acts.specs.declared.act.Act.{Act}
use Rattle.chr_acts.specs.declared.act.Act.TheVariants as act
use Rattle.chr_acts.specs.declared.reply.Reply.{Reply}
use Rattle.chr_acts.specs.declared.reply.Reply.TheVariants as reply
use Rattle.chr_acts.specs.Events.{Does}
use Rattle.chr_worlds.specs.declared.answer.Answer.{Answer}
use Rattle.chr_worlds.specs.declared.answer.Answer.TheVariants as answer
use Rattle.chr_worlds.specs.declared.refusal.WorldRefusal.{WorldRefusal}
use Rattle.chr_worlds.specs.declared.refusal.WorldRefusal.TheVariants as refused
use Rattle.chr_worlds.specs.Answers.{merged_answer, told_answer}
use Rattle.chr_worlds.specs.Worlds.{Works}
use Rattle.chr_worlds.specs.working.Boards.{sets_on, IsReplied, IsTrueOn, TellsNothing, is_told_new, Grows, ChangesAt}
use Rattle.chr_worlds.specs.working.Boards.{AreLacked, ExchangesAt, HoldsAllOf, MayTellAt, RepliesAt}
use Rattle.chr_worlds.proofs.Exchanging.{took_in}
use Rattle.chr_worlds.proofs.Places.{part_at}

-- ---- what an act gives a replica

united : (m : Operations) (os : List Operation) → Grows m os (union m os)
united m os = record { only = union_gains m os; holds = union_holds m os }

-- but for a tell and a merge it gives none
pub does_alike : (p : Program) (s : Replica) (a : Act) (x : Reply) (t : Replica) → TellsNothing a → Does p s a x t
    → t.operations ≡ s.operations
does_alike p s a (reply.Refused r) t none h = ap (λ r. r.operations) h.2
does_alike p s (act.Tell op) _ t none h = absurd none
does_alike p s (act.Merge ops) _ t none h = absurd none
does_alike p s (act.Step step) reply.Stepped t none h = ap (λ r. r.operations) h.after
does_alike p s (act.Take part) (reply.Leased lease) t none h = ap (λ r. r.operations) h.1.after
does_alike p s (act.TakeParts n) (reply.LeasedParts leases) t none h = ap (λ r. r.operations) h.1.after
does_alike p s (act.Put done) reply.WasPut t none h = ap (λ r. r.operations) h.1.after
does_alike p s (act.Recall number) reply.Recalled t none h = ap (λ r. r.operations) h.after
does_alike p s act.Settle (reply.Settled n) t none h = ap (λ r. r.operations) h.0.after
does_alike p s act.Settle (reply.Stopped n) t none h = ap (λ r. r.operations) h.after
does_alike p s act.Show (reply.Shown bag) t none h = ap (λ r. r.operations) h.2
does_alike p s act.Summary (reply.Summed summary) t none h = ap (λ r. r.operations) h.1
does_alike p s (act.Lacks summary) (reply.Lacked ops) t none h = ap (λ r. r.operations) h.1
does_alike p s act.LeastLease (reply.LeastLease number) t none h = ap (λ r. r.operations) h.1
does_alike p s _ _ t none h = absurd h

-- whatever the answer is
pub replied_alike : (p : Program) (s : Replica) (a : Act) (x : Answer) (t : Replica) → TellsNothing a
    → IsReplied x (λ y. Does p s a y t) → t.operations ≡ s.operations
replied_alike p s a (answer.Replied y) t none h = does_alike p s a y t none h
replied_alike p s a _ t none h = absurd h

-- a told operation that is not new gives none
tell_alike : (p : Program) (s : Replica) (op : Operation) (x : Result Added WorldRefusal) (t : Replica)
    → is_told_new x ≡ false → IsReplied (told_answer x) (λ y. Does p s (act.Tell op) y t)
    → t.operations ≡ s.operations
tell_alike p s op (Ok added.New) t other h = absurd (true≢false other)
tell_alike p s op (Ok added.Again) t other h = ap (λ r. r.operations) h.2
tell_alike p s op (Err (refused.Replica r)) t other h = ap (λ r. r.operations) h.2
tell_alike p s op (Err _) t other h = absurd h

-- nor does a merge that is refused
merge_alike : (p : Program) (s : Replica) (ops : List Operation) (x : Result ℕ WorldRefusal) (t : Replica)
    → ((n : ℕ) → x ≢ Ok n) → IsReplied (merged_answer x) (λ y. Does p s (act.Merge ops) y t)
    → t.operations ≡ s.operations
merge_alike p s ops (Ok n) t other h = absurd (other n refl)
merge_alike p s ops (Err (refused.Replica r)) t other h = ap (λ r. r.operations) h.2
merge_alike p s ops (Err _) t other h = absurd h

-- nor do steps on parts that are out
pub works_alike : (p : Program) (s : Replica) (number : ℕ) (steps : List StepValue) (x : Reply) (t : Replica)
    → Works p s number steps x t → t.operations ≡ s.operations
works_alike p s number steps reply.WasPut t h = ap (λ r. r.operations) h.3.after
works_alike p s number steps (reply.Refused (refusal.NoLease n)) t h = ap (λ r. r.operations) h.1
works_alike p s number steps (reply.Refused refusal.NotThere) t h = ap (λ r. r.operations) h.4
works_alike p s number steps _ t h = absurd h

-- ---- sets of operations by their places

set_at : (bs : List Held) (place : ℕ) (b : Held) → slice_get bs place ≡ Some b
    → slice_get (sets_on bs) place ≡ Some b.replica.operations
set_at bs place b there = part_at (λ b. b.replica.operations) bs place b there

sets_after : (bs cs : List Held) (place : ℕ) (R : Held → Replica → Type 0) (h : ChangesAt bs place R cs)
    → sets_on cs ≡ slice_set (sets_on bs) place h.after.replica.operations
sets_after bs cs place R h =
    ap sets_on h.boards ∙ map-set (λ b. b.replica.operations) bs place h.after

set_again : (ms : List Operations) (place : ℕ) (m k : Operations) → slice_get ms place ≡ Some m → k ≡ m
    → slice_set ms place k ≡ ms
set_again ms place m k there same =
    ap (slice_set ms place) (same ∙ sym (get_or_from_slice_get ms place m m there)) ∙ set-get_or ms place m

-- ---- news

-- it stays true of boards one of which keeps its operations
pub stays_true : (w : News) (bs : List Held) (place : ℕ) (b c : Held) → slice_get bs place ≡ Some b
    → c.replica.operations ≡ b.replica.operations → IsTrueOn w bs → IsTrueOn w (slice_set bs place c)
stays_true w bs place b c there same right =
    subst (IsTrueOfAll w)
    (sym (map-set (λ b. b.replica.operations) bs place c
    ∙ set_again (sets_on bs) place b.replica.operations c.replica.operations (set_at bs place b there) same)) right

-- as it does also where it is refused memory
pub alike_or_not : (R : Reply → Type 0) (r : Result Reply AllocError) (b c : Held)
    → ((x : Reply) → R x → c.replica.operations ≡ b.replica.operations) → IfOk r R → OnErr r (c ≡ b)
    → c.replica.operations ≡ b.replica.operations
alike_or_not R (Ok x) b c same ok err = same x ok
alike_or_not R (Err e) b c same ok err = ap (λ d. d.replica.operations) err

-- what a board gained is kept
gained_on : (v w : News) (place : ℕ) (os : List Operation) (ids : List OpId) → ids_of os ≡ ids
    → ((b : ℕ) (m n k : Operations) → IsTrueOf v place b m n → GainsOnly m k ids → IsTrueOf w place b k n)
    → ((a b : ℕ) (m n : Operations) → a ≢ place → IsTrueOf v a b m n → IsTrueOf w a b m n)
    → (bs cs : List Held) (R : Held → Replica → Type 0) (h : ChangesAt bs place R cs)
    → h.after.replica.operations ≡ union h.before.replica.operations os → IsTrueOn v bs → IsTrueOn w cs
gained_on v w place os ids is gives others bs cs R h after right =
    let m = h.before.replica.operations in
    let grows = subst (Grows m os) (sym after) (united m os) in
    subst (IsTrueOfAll w) (sym (sets_after bs cs place R h))
    (gained_all v w place ids (sets_on bs) m h.after.replica.operations gives others (set_at bs place h.before h.there)
    (subst (GainsOnly m h.after.replica.operations) is grows.only) grows.holds right)

-- the id of a new operation that it is told
pub told_on : (v w : News) (place : ℕ) (id : OpId) (op : Operation) (x : Result Added WorldRefusal) → op.0 ≡ id
    → is_told_new x ≡ true
    → ((b : ℕ) (m n k : Operations) → IsTrueOf v place b m n → GainsOnly m k (id ∷ []) → IsTrueOf w place b k n)
    → ((a b : ℕ) (m n : Operations) → a ≢ place → IsTrueOf v a b m n → IsTrueOf w a b m n)
    → (bs cs : List Held) → RepliesAt bs place (act.Tell op) (told_answer x) cs → IsTrueOn v bs → IsTrueOn w cs
told_on v w place id op (Ok added.New) same is gives others bs cs h =
    gained_on v w place (op ∷ []) (id ∷ []) (ap (λ q. q ∷ []) same) gives others bs cs _ h
    (ap (λ r. r.operations) h.changed.after ∙ sym (union_new h.before.replica.operations op h.changed.new))
told_on v w place id op _ same is gives others bs cs h = absurd (true≢false (sym is))

-- and nothing need be kept of one that is not new
pub not_told_on : (w : News) (place : ℕ) (op : Operation) (x : Result Added WorldRefusal) → is_told_new x ≡ false
    → (bs cs : List Held) → RepliesAt bs place (act.Tell op) (told_answer x) cs → IsTrueOn w bs → IsTrueOn w cs
not_told_on w place op x other bs cs h right =
    subst (IsTrueOn w) (sym h.boards)
    (stays_true w bs place h.before h.after h.there
    (tell_alike (program_on h.before) h.before.replica op x h.after.replica other h.changed) right)

-- the ids of operations that it merged
pub merged_on : (v w : News) (place n : ℕ) (ops : List Operation) (x : Result ℕ WorldRefusal) → x ≡ Ok n
    → ((b : ℕ) (m n k : Operations) → IsTrueOf v place b m n → GainsOnly m k (ids_of ops) → IsTrueOf w place b k n)
    → ((a b : ℕ) (m n : Operations) → a ≢ place → IsTrueOf v a b m n → IsTrueOf w a b m n)
    → (bs cs : List Held) → RepliesAt bs place (act.Merge ops) (merged_answer x) cs → IsTrueOn v bs → IsTrueOn w cs
merged_on v w place n ops x is gives others bs cs h =
    let merges : Does (program_on h.before) h.before.replica (act.Merge ops) (reply.Merged n) h.after.replica =
    subst (λ x. IsReplied (merged_answer x) (λ y. Does (program_on h.before) h.before.replica (act.Merge ops) y
    h.after.replica)) is h.changed in
    gained_on v w place ops (ids_of ops) refl gives others bs cs _ h (ap (λ r. r.operations) merges.after)

-- and nothing of those that it did not
pub not_merged_on : (w : News) (place : ℕ) (ops : List Operation) (x : Result ℕ WorldRefusal)
    → ((n : ℕ) → x ≢ Ok n) → (bs cs : List Held) → RepliesAt bs place (act.Merge ops) (merged_answer x) cs
    → IsTrueOn w bs → IsTrueOn w cs
not_merged_on w place ops x other bs cs h right =
    subst (IsTrueOn w) (sym h.boards)
    (stays_true w bs place h.before h.after h.there
    (merge_alike (program_on h.before) h.before.replica ops x h.after.replica other h.changed) right)

-- the ids of rested operations that it was told
pub rested_on : (v w : News) (place : ℕ) (r : RestedOps) (x : Option Placed) (y : Placed) → x ≡ Some y
    → ((b : ℕ) (m n k : Operations) → IsTrueOf v place b m n → GainsOnly m k (ids_of r.ops.now)
    → IsTrueOf w place b k n)
    → ((a b : ℕ) (m n : Operations) → a ≢ place → IsTrueOf v a b m n → IsTrueOf w a b m n)
    → (bs cs : List Held) → MayTellAt bs place r x cs → IsTrueOn v bs → IsTrueOn w cs
rested_on v w place r x y is gives others bs cs may right =
    let h : MayTellAt bs place r (Some y) cs = subst (λ o. MayTellAt bs place r o cs) is may in
    gained_on v w place r.ops.now (ids_of r.ops.now) refl gives others bs cs _ h
    (rested_holds (program_on h.before) h.before.replica _ r.ops.now r.rested.now _ h.after.replica h.changed) right

-- and nothing of those that it was not told
pub not_rested_on : (w : News) (place : ℕ) (r : RestedOps) (x : Option Placed) → x ≡ None → (bs cs : List Held)
    → MayTellAt bs place r x cs → IsTrueOn w bs → IsTrueOn w cs
not_rested_on w place r x is bs cs may right =
    let h : cs ≡ bs = subst (λ o. MayTellAt bs place r o cs) is may in
    subst (IsTrueOn w) (sym h) right

-- so it is of two boards at their places
pub true_of : (w : News) (from to : ℕ) (bs : List Held) (giver taker : Held) → IsTrueOn w bs
    → slice_get bs from ≡ Some giver → slice_get bs to ≡ Some taker
    → IsTrueOf w from to giver.replica.operations taker.replica.operations
true_of w from to bs giver taker right at_from at_to =
    right from to giver.replica.operations taker.replica.operations (set_at bs from giver at_from)
    (set_at bs to taker at_to)

-- it is kept that a board holds all that another does
pub met_on : (v w : News) (from to : ℕ) (bs : List Held)
    → ((m n : Operations) → HoldsAll n m → IsTrueOf v from to m n → IsTrueOf w from to m n)
    → ((b : ℕ) (m n : Operations) → b ≢ to → IsTrueOf v from b m n → IsTrueOf w from b m n)
    → ((a b : ℕ) (m n : Operations) → a ≢ from → IsTrueOf v a b m n → IsTrueOf w a b m n)
    → HoldsAllOf bs from to → IsTrueOn v bs → IsTrueOn w bs
met_on v w from to bs meets takers others h right =
    met_all v w from to (sets_on bs) h.giver.replica.operations h.taker.replica.operations meets takers others
    (set_at bs from h.giver h.at_from) (set_at bs to h.taker h.at_to) h.holds right

-- after an exchange the taker holds all that the giver does
pub holds_all : ExchangeLaw → (bs cs : List Held) (from to n : ℕ)
    → ExchangesAt bs from to (answer.Replied (reply.Merged n)) cs
    → HoldsAllOf cs from to
holds_all exchange bs cs from to n h =
    let c = h.taken in
    let here : slice_get cs to ≡ Some c.after =
    ap (λ l. slice_get l to) c.boards ∙ set_here bs to c.after (slice_get_within bs to c.before c.there) in
    let took = took_in exchange (program_on c.before) h.giver.replica c.before.replica c.after.replica n c.changed in
    elim (eqb_tells from to) as (λ _. HoldsAllOf cs from to) [
      | inl e ↦ record {
        giver = c.after;
        taker = c.after;
        at_from = ap (slice_get cs) e.1 ∙ here;
        at_to = here;
        holds = λ q h. h;
      }
      | inr other ↦ record {
        giver = h.giver;
        taker = c.after;
        at_from = ap (λ l. slice_get l from) c.boards ∙ set_elsewhere bs to from c.after other.1 ∙ h.there;
        at_to = here;
        holds = subst (λ k. HoldsAll k h.giver.replica.operations) (sym took)
            (union_holds_both c.before.replica.operations h.giver.replica.operations);
      }
    ]

-- what is found among the ids is what is lacked, by whatever summary
pub lacked_are : SummariesExist → (m n : Operations) (ids : List OpId) (ops : List Operation) → LacksOnly m n ids
    → (LacksOnly m n ids → (summary : List IdRange) → CoversJust summary n → ops ≡ lacking m summary)
    → AreLacked m n ops
lacked_are exist m n ids ops only all =
    let s = exist n in record { summary = s.0; covers = s.2; lacked = all only s.0 s.2 }
