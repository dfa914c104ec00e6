-- What a settle and a show after it reply.
use Rattle.std.proofs.Common.{◌≡◌, false, true≢false, List, [], ◌∷◌, ◌++◌, refl, sym, ap, ◌∙◌, subst, append_assoc}
use Rattle.std.specs.Prelude.{Option, Some, None}
use Rattle.std.proofs.lemmas.Option.{none-some}
use Rattle.chr_base.specs.declared.program.Program.{Program}
use Rattle.chr_base.specs.Programs.{rules_of}
use Rattle.chr_base.specs.Rewriting.{IsAtRest}
use Rattle.chr_base.specs.Rules.{Step}
use Rattle.chr_replica.specs.Replicas.{Replica}
use Rattle.chr_replica.specs.declared.refusal.Refusal.{Refusal}
use Rattle.chr_replica.specs.declared.refusal.Refusal.TheVariants as refusal
use Rattle.chr_acts.specs.declared.act.Act.TheVariants as act
use Rattle.chr_acts.specs.declared.entry.Entry.{Entry}
use Rattle.chr_acts.specs.declared.reply.Reply.{Reply}
use Rattle.chr_acts.specs.declared.reply.Reply.TheVariants as reply
use Rattle.chr_acts.specs.Events.{Does}
use Rattle.chr_shared.specs.declared.settled.Settled.{Settled}
use Rattle.chr_shared.specs.declared.settled.Settled.TheVariants as settled
use Rattle.chr_shared.specs.Settling.{EndsWith, IsAnswerOf, IsPair, IsShowReply, IsShown, is_stopped, refusal_in}

-- a settle that was not stopped leaves the pool at rest
pub settle_rests : (p : Program) (s : Replica) (x : Reply) (t : Replica) → Does p s act.Settle x t → is_stopped x
    ≡ false → IsAtRest (Step (rules_of p)) t.pool
settle_rests p s (reply.Refused r) t d went = absurd d.0
settle_rests p s (reply.Settled n) t d went = d.1
settle_rests p s (reply.Stopped n) t d went = absurd (true≢false went)
settle_rests p s _ t d went = absurd d

-- what is shown of a pool at rest is the pool, or the leases that are out
pub show_replies : (p : Program) (s : Replica) (x : Reply) (t : Replica) → Does p s act.Show x t
    → IsAtRest (Step (rules_of p)) s.pool → IsShowReply x
show_replies p s (reply.Shown bag) t d rest = tt
show_replies p s (reply.Refused (refusal.Leased n)) t d rest = tt
show_replies p s (reply.Refused refusal.NotAtRest) t d rest = absurd (d.0.1 rest)
show_replies p s (reply.Refused refusal.Memory) t d rest = absurd (d.1 refl)
show_replies p s (reply.Refused _) t d rest = absurd d.0
show_replies p s _ t d rest = absurd d

abbrev refusal_or : Refusal → Option Refusal → Refusal
refusal_or d (Some r) = r
refusal_or d None = d

-- the answer after a show that was refused
pub refused_answer : (shown : Entry) (x : Reply) (r : Refusal) → shown.reply ≡ x → IsShowReply x → refusal_in x ≡ Some r
    → IsAnswerOf shown (settled.NotRested r)
refused_answer shown (reply.Refused (refusal.Leased n)) r is h e =
    subst (λ q. IsAnswerOf shown (settled.NotRested q)) (ap (refusal_or r) e) is
refused_answer shown (reply.Refused _) r is h e = absurd h
refused_answer shown (reply.Shown bag) r is h e = absurd (none-some r e)
refused_answer shown _ r is h e = absurd h

-- a show that was not refused tells a store
pub shown_answer : (x : Reply) → IsShowReply x → refusal_in x ≡ None → IsShown x
shown_answer (reply.Shown bag) h e = tt
shown_answer (reply.Refused r) h e = absurd (none-some r (sym e))
shown_answer _ h e = absurd h

-- a settle and a show end as the show's entry says
pub answer_ends : (old mid new : List Entry) (a shown : Entry) (r : Settled) → mid ≡ old ++ a ∷ [] → new ≡ mid ++ shown
    ∷ [] → a.act ≡ act.Settle → shown.act ≡ act.Show → IsAnswerOf shown r → (es : List Entry) × (new ≡ old ++ es)
    × EndsWith r es
answer_ends old mid new a shown (settled.Rest receipt) first next settle show h = (
  a ∷ shown ∷ [],
  next ∙ ap (λ l. l ++ shown ∷ []) first ∙ append_assoc old (a ∷ []) (shown ∷ []),
  subst (λ e. IsPair (a ∷ shown ∷ []) e × IsShown e.reply) (sym h.0) ((a, settle, show, refl), h.1),
)
answer_ends old mid new a shown (settled.NotRested (refusal.Leased n)) first next settle show h = (
  a ∷ shown ∷ [],
  next ∙ ap (λ l. l ++ shown ∷ []) first ∙ append_assoc old (a ∷ []) (shown ∷ []),
  (shown, (a, settle, show, refl), h),
)
answer_ends old mid new a shown (settled.NotRested _) first next settle show h = absurd h
