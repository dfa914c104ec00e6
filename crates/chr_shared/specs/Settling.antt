-- What `settle_with` makes of a seat's receipts.
use Rattle.std.specs.Prelude.{◌≡◌, ◌⊎◌, ℕ, Bool, true, false, Option, Some, None, List, [], ◌∷◌, ◌++◌, length, map, ⊤}
use Rattle.std.specs.List.{Contains}
use Rattle.chr_base.specs.Rewriting.{IsAtRest}
use Rattle.chr_base.specs.Rules.{Step}
use Rattle.chr_weights.specs.WeighedPrograms.{rules_in}
use Rattle.chr_join.specs.declared.lease.Lease.{Lease}
use Rattle.chr_replica.specs.declared.refusal.Refusal.{Refusal}
use Rattle.chr_replica.specs.declared.refusal.Refusal.TheVariants as refusal
use Rattle.chr_acts.specs.declared.act.Act.{Act}
use Rattle.chr_acts.specs.declared.act.Act.TheVariants as act
use Rattle.chr_acts.specs.declared.entry.Entry.{Entry}
use Rattle.chr_acts.specs.declared.reply.Reply.{Reply}
use Rattle.chr_acts.specs.declared.reply.Reply.TheVariants as reply
use Rattle.chr_shared.specs.declared.settled.Settled.{Settled}
use Rattle.chr_shared.specs.declared.settled.Settled.TheVariants as settled

-- the act gives the part with this number back: it puts what came of the part, at rest, or recalls the part
abbrev pub GivesBack : ℕ → Act → Type 0
GivesBack number (act.Put done) = (done.number ≡ number) × IsAtRest (Step (rules_in done.weighed)) done.result
GivesBack number (act.Recall k) = k ≡ number
GivesBack number _ = ⊥

abbrev pub IsReturn : ℕ → Entry → Type 0
IsReturn number e = GivesBack number e.act

-- the receipts are of giving back the first parts of these numbers, one receipt for each, in their order
abbrev pub Returns : List ℕ → List Entry → Type 0
Returns numbers [] = ⊤
Returns [] (e ∷ es) = ⊥
Returns (n ∷ ns) (e ∷ es) = IsReturn n e × Returns ns es

abbrev pub IsShown : Reply → Type 0
IsShown (reply.Shown bag) = ⊤
IsShown _ = ⊥

-- there are no further receipts, or one of a settle
abbrev pub IsTail : List Entry → Type 0
IsTail [] = ⊤
IsTail (a ∷ []) = a.act ≡ act.Settle
IsTail _ = ⊥

-- the receipts are of a settle and then of a show, which is `shown`
abbrev pub IsPair : List Entry → Entry → Type 0
IsPair es shown = (a : Entry) × (a.act ≡ act.Settle) × (shown.act ≡ act.Show) × (es ≡ a ∷ shown ∷ [])

-- what comes of a settling whose last receipts these are
abbrev pub EndsWith : Settled → List Entry → Type 0
EndsWith (settled.Rest shown) es = IsPair es shown × IsShown shown.reply
EndsWith (settled.NotRested (refusal.Leased n)) es =
    (shown : Entry) × IsPair es shown × (shown.reply ≡ reply.Refused (refusal.Leased n))
EndsWith (settled.NotRested refusal.Memory) es = IsTail es
EndsWith (settled.NotRested _) es = ⊥

abbrev pub numbers_in : List Lease → List ℕ
numbers_in leases = map (λ l. l.number) leases

-- the pool was taken in `parts` parts
pub record IsTaken (parts : ℕ) (leases : List Lease) (e : Entry) : Type 0 where
  pub act : e.act ≡ act.TakeParts parts
  pub reply : e.reply ≡ reply.LeasedParts leases

-- the pool was not taken in parts, or the leases could not be copied
abbrev pub StopsTaking : ℕ → Refusal → List Entry → Type 0
StopsTaking parts (refusal.Full what) es =
    (e : Entry) × (es ≡ e ∷ []) × (e.act ≡ act.TakeParts parts) × (e.reply ≡ reply.Refused (refusal.Full what))
StopsTaking parts refusal.Memory es = (es ≡ []) ⊎ ((e : Entry) × (es ≡ e ∷ []) × (e.act ≡ act.TakeParts parts))
StopsTaking parts _ es = ⊥

-- What comes of the receipts after those of parts that were given back: there are none, or all parts were given back.
abbrev pub IsEnd : List Entry → List ℕ → List Entry → Settled → Type 0
IsEnd returns numbers tail result =
    ((tail ≡ []) × (result ≡ settled.NotRested refusal.Memory))
    ⊎ ((length returns ≡ length numbers) × EndsWith result tail)

-- Parts were taken, and some given back; all were where there are further receipts. Then comes what these end with.
pub record Rests (parts : ℕ) (es : List Entry) (result : Settled) : Type 0 where
  pub taken : Entry
  pub leases : List Lease
  pub returns : List Entry
  pub tail : List Entry
  pub taking : IsTaken parts leases taken
  pub back : Returns (numbers_in leases) returns
  pub ends : IsEnd returns (numbers_in leases) tail result
  pub list : es ≡ taken ∷ (returns ++ tail)

-- the receipts of a `settle_with`, and what it answers
abbrev pub AnswersWith : ℕ → Settled → List Entry → Type 0
AnswersWith parts result es =
    ((r : Refusal) × (result ≡ settled.NotRested r) × StopsTaking parts r es) ⊎ Rests parts es result

-- where a settling came to a store, the list has its receipt, which is that of a show that told a store
abbrev pub IsShownIn : List Entry → Settled → Type 0
IsShownIn list (settled.Rest receipt) = Contains list receipt × (receipt.act ≡ act.Show) × IsShown receipt.reply
IsShownIn list (settled.NotRested _) = ⊤

-- the last entry of a list, or d where it has none
abbrev pub last_of : Entry → List Entry → Entry
last_of d [] = d
last_of d (e ∷ es) = last_of e es

-- the call took no parts, or what it took can't be told
abbrev pub IsUntaken : Entry → Refusal → Type 0
IsUntaken e (refusal.Full what) = e.reply ≡ reply.Refused (refusal.Full what)
IsUntaken e refusal.Memory = ⊤
IsUntaken e _ = ⊥

-- the reply of a settle that was refused memory
abbrev pub is_stopped : Reply → Bool
is_stopped (reply.Stopped n) = true
is_stopped _ = false

abbrev pub refusal_in : Reply → Option Refusal
refusal_in (reply.Refused r) = Some r
refusal_in _ = None

-- what a show may reply where the pool is at rest
abbrev pub IsShowReply : Reply → Type 0
IsShowReply (reply.Shown bag) = ⊤
IsShowReply (reply.Refused (refusal.Leased n)) = ⊤
IsShowReply _ = ⊥

-- what a settling answers, by the entry of its show
abbrev pub IsAnswerOf : Entry → Settled → Type 0
IsAnswerOf shown (settled.Rest receipt) = (receipt ≡ shown) × IsShown shown.reply
IsAnswerOf shown (settled.NotRested (refusal.Leased n)) = shown.reply ≡ reply.Refused (refusal.Leased n)
IsAnswerOf shown (settled.NotRested _) = ⊥
