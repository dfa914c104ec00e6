-- The receipts of resting a shared book by workers.
use Rattle.std.proofs.Common.{arith, ◌≡◌, ◌≤◌, ◌-◌, ℕ, suc, List, [], ◌∷◌, ◌++◌, length, take, drop, get_or, refl, sym}
use Rattle.std.proofs.Common.{ap, ◌∙◌, inl, inr, append_assoc, subst, ⊎_elim}
use Rattle.std.specs.Prelude.{Result, Ok, Err, IfOk, IfErr, OnOk}
use Rattle.std.specs.List.{Contains}
use Rattle.std.proofs.lemmas.List.{append-nil, take_rest}
use Rattle.std.proofs.lemmas.List.Elements.{Contains-append_right, Contains-push}
use Rattle.chr_join.specs.declared.lease.Lease.{Lease}
use Rattle.chr_replica.specs.declared.refusal.Refusal.{Refusal}
use Rattle.chr_replica.specs.declared.refusal.Refusal.TheVariants as refusal
use Rattle.chr_acts.specs.declared.act.Act.TheVariants as act
use Rattle.chr_acts.specs.declared.entry.Entry.{Entry}
use Rattle.chr_acts.specs.declared.reply.Reply.TheVariants as reply
use Rattle.chr_shared.specs.declared.settled.Settled.{Settled}
use Rattle.chr_shared.specs.declared.settled.Settled.TheVariants as settled
use Rattle.chr_shared.specs.Settling.{AnswersWith, EndsWith, IsEnd, IsPair, IsReturn, IsShown, IsShownIn, IsTaken}
use Rattle.chr_shared.specs.Settling.{IsUntaken, Rests, Returns, StopsTaking, last_of, numbers_in}

pub last_snoc : (d : Entry) (xs : List Entry) (e : Entry) → last_of d (xs ++ e ∷ []) ≡ e
last_snoc d [] e = refl
last_snoc d (x ∷ xs) e = last_snoc x xs e

-- no part was given back yet
pub none_given : (numbers : List ℕ) → Returns numbers []
none_given [] = tt
none_given (n ∷ ns) = tt

-- the first number and the others are all numbers
pub whole : (numbers : List ℕ) → 1 ≤ length numbers → get_or numbers 0 0 ∷ take (length numbers - 1) (drop 1 numbers)
    ≡ numbers
whole [] h = absurd (omega (arith, h))
whole (n ∷ ns) h = ap (λ l. n ∷ l) (take_rest (n ∷ ns) 1)

pub gives_more : {E : Type 0} (n : ℕ) (ns : List ℕ) (a b c : List Entry) (r : Result (Unit {0}) E)
    → ((e : Entry) × (b ≡ a ++ e ∷ []) × IsReturn n e)
    → ((es : List Entry) × (c ≡ b ++ es) × (Returns ns es × OnOk r (length es ≡ length ns))) → (es : List Entry)
    × (c ≡ a ++ es) × (Returns (n ∷ ns) es × OnOk r (length es ≡ length (n ∷ ns)))
gives_more n ns a b c (Ok x) h g = (
  h.0 ∷ g.0,
  g.1 ∙ ap (λ l. l ++ g.0) h.1 ∙ append_assoc a (h.0 ∷ []) g.0,
  ((h.2, g.2.0), ap suc g.2.1),
)
gives_more n ns a b c (Err e) h g = (
  h.0 ∷ g.0,
  g.1 ∙ ap (λ l. l ++ g.0) h.1 ∙ append_assoc a (h.0 ∷ []) g.0,
  ((h.2, g.2.0), g.2.1),
)

pub taken_ok : {A : Type 0} (items : A → List Lease) (parts : ℕ) (olds news old new : List Entry) (r : Result A Refusal)
    → ((e : Entry) × (news ≡ olds ++ e ∷ []) × (new ≡ old ++ e ∷ []) × (e.act ≡ act.TakeParts parts))
    → IfOk r (λ v. (before : List Entry) (e : Entry) → news ≡ before ++ e ∷ [] → e.reply ≡ reply.LeasedParts (items v))
    → IfOk r (λ v. (e : Entry) × (new ≡ old ++ e ∷ []) × IsTaken parts (items v) e)
taken_ok items parts olds news old new (Ok v) h f = (h.0, h.2, record { act = h.3; reply = f olds h.0 h.1 })
taken_ok items parts olds news old new (Err e) h f = f

stops_taking : (parts : ℕ) (old new : List Entry) (e : Entry) (r : Refusal) → new ≡ old ++ e ∷ []
    → e.act ≡ act.TakeParts parts → IsUntaken e r → (es : List Entry) × (new ≡ old ++ es) × StopsTaking parts r es
stops_taking parts old new e (refusal.Full what) list is f = (e ∷ [], list, (e, refl, is, f))
stops_taking parts old new e refusal.Memory list is f = (e ∷ [], list, inr (e, refl, is))
stops_taking parts old new e refusal.UnknownSymbol list is f = absurd f
stops_taking parts old new e (refusal.Clash id) list is f = absurd f
stops_taking parts old new e (refusal.NoLease k) list is f = absurd f
stops_taking parts old new e refusal.ForeignProgram list is f = absurd f
stops_taking parts old new e (refusal.Leased k) list is f = absurd f
stops_taking parts old new e refusal.NotThere list is f = absurd f
stops_taking parts old new e refusal.NotAtRest list is f = absurd f

pub taken_err : {A : Type 0} (parts : ℕ) (olds news old new : List Entry) (r : Result A Refusal)
    → ((e : Entry) × (news ≡ olds ++ e ∷ []) × (new ≡ old ++ e ∷ []) × (e.act ≡ act.TakeParts parts))
    → IfErr r (λ x. (before : List Entry) (e : Entry) → news ≡ before ++ e ∷ [] → IsUntaken e x)
    → IfErr r (λ x. (es : List Entry) × (new ≡ old ++ es) × StopsTaking parts x es)
taken_err parts olds news old new (Ok v) h f = f
taken_err parts olds news old new (Err x) h f = stops_taking parts old new h.0 x h.2 h.3 (f olds h.0 h.1)

pub rests_with : (parts : ℕ) (old a b : List Entry) (leases : List Lease) (result : Settled)
    → ((e : Entry) × (a ≡ old ++ e ∷ []) × IsTaken parts leases e)
    → ((returns : List Entry) × (tail : List Entry) × (b ≡ a ++ (returns ++ tail)) × Returns (numbers_in leases) returns
    × IsEnd returns (numbers_in leases) tail result) → (es : List Entry) × (b ≡ old ++ es) × AnswersWith parts result es
rests_with parts old a b leases result h g = (
  h.0 ∷ (g.0 ++ g.1),
  g.2 ∙ ap (λ l. l ++ (g.0 ++ g.1)) h.1 ∙ append_assoc old (h.0 ∷ []) (g.0 ++ g.1),
  inr record {
    taken = h.0;
    leases = leases;
    returns = g.0;
    tail = g.1;
    taking = h.2;
    back = g.3;
    ends = g.4;
    list =
        refl;
  },
)

pub stops_with : (parts : ℕ) (old new : List Entry) (x : Refusal)
    → ((es : List Entry) × (new ≡ old ++ es) × StopsTaking parts x es) → (es : List Entry) × (new ≡ old ++ es)
    × AnswersWith parts (settled.NotRested x) es
stops_with parts old new x h = (h.0, h.1, inl (x, refl, h.2))

pub stops_before : (parts : ℕ) (old : List Entry) → (es : List Entry) × (old ≡ old ++ es)
    × AnswersWith parts (settled.NotRested refusal.Memory) es
stops_before parts old = ([], sym (append-nil old), inl (refusal.Memory, refl, inl refl))

pub ends_with : (numbers : List ℕ) (old a b : List Entry) (result : Settled)
    → ((es : List Entry) × (a ≡ old ++ es) × (Returns numbers es × (length es ≡ length numbers)))
    → ((es : List Entry) × (b ≡ a ++ es) × EndsWith result es) → (returns : List Entry) × (tail : List Entry)
    × (b ≡ old ++ (returns ++ tail)) × Returns numbers returns × IsEnd returns numbers tail result
ends_with numbers old a b result h g = (
  h.0,
  g.0,
  g.1 ∙ ap (λ l. l ++ g.0) h.1 ∙ append_assoc old h.0 g.0,
  h.2.0,
  inr (h.2.1, g.2),
)

not_rest : (shown : Entry) (r : Refusal) → settled.Rest shown ≡ settled.NotRested r → ⊥
not_rest shown r h = cc

ended : (old new : List Entry) (taken : Entry) (returns tail es : List Entry) (shown : Entry) → new ≡ old ++ es → es
    ≡ taken ∷ (returns ++ tail) → IsPair tail shown × IsShown shown.reply → IsShownIn new (settled.Rest shown)
ended old new taken returns tail es shown is list h =
    let a = h.0.0 in
    let two : Contains tail shown = subst (λ l. Contains l shown) (sym h.0.3) (Contains-push (a ∷ []) shown) in
    let all : Contains es shown = subst (λ l. Contains l shown) (sym list)
    (Contains-append_right (taken ∷ returns) tail shown two) in
    (subst (λ l. Contains l shown) (sym is) (Contains-append_right old es shown all), h.0.2, h.1)

rests_in : (parts : ℕ) (old new es : List Entry) (shown : Entry) → new ≡ old ++ es → Rests parts es (settled.Rest shown)
    → IsShownIn new (settled.Rest shown)
rests_in parts old new es shown is r =
    ⊎_elim
    (λ (n : (r.tail ≡ []) × (settled.Rest shown ≡ settled.NotRested refusal.Memory)). absurd (not_rest shown _ n.1))
    (λ (e : (length r.returns ≡ length (numbers_in r.leases)) × EndsWith (settled.Rest shown) r.tail).
    ended old new r.taken r.returns r.tail es shown is r.list e.1)
    r.ends

-- the receipt of a settling that came to a store is in the list
pub shown_in : (parts : ℕ) (old new : List Entry) (result : Settled)
    → ((es : List Entry) × (new ≡ old ++ es) × AnswersWith parts result es) → IsShownIn new result
shown_in parts old new (settled.NotRested r) h = tt
shown_in parts old new (settled.Rest shown) h =
    ⊎_elim
    (λ (n : (r : Refusal) × (settled.Rest shown ≡ settled.NotRested r) × StopsTaking parts r h.0).
    absurd (not_rest shown n.0 n.1))
    (rests_in parts old new h.0 shown h.1)
    h.2
