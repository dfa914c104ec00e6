-- The boards of a world in a list, and their replicas.
use Rattle.std.specs.Prelude.{◌≡◌, ℕ, suc, ◌+◌, ◌<◌, ◌≤◌, List, length, replicate, zero, ◌∷◌, Option, Some, None}
use Rattle.std.specs.Prelude.{◌-◌, map as each, slice_get, slice_index_or, slice_set, All, IfNone, IfSome}
use Rattle.std.specs.Prelude.{Result, Ok, Err, OnOk}
use Rattle.std.proofs.Common.{refl, sym, ap, ◌∙◌, subst, arith, inr}
use Rattle.std.specs.Option.{option_map}
use Rattle.std.proofs.lemmas.List.{length-map, map-set, set-get_or}
use Rattle.std.proofs.lemmas.List.Elements.{All-set}
use Rattle.std.proofs.lemmas.Option.{none-some, slice_get-map, slice_get-get_or, slice_get_within}
use Rattle.std.proofs.lemmas.Option.{get_or_from_slice_get}
use Rattle.chr_join.specs.declared.accepted.Accepted.{Accepted}
use Rattle.chr_base.specs.declared.program.Program.{Program}
use Rattle.chr_replica.specs.Boards.{Held}
use Rattle.chr_replica.specs.Replicas.{Replica, IsSettled, IsSound}
use Rattle.chr_replica.specs.Boards.{program_on}
use Rattle.chr_replica.specs.RestedOps.{AreRestedBy, RefusesThem, TellsThem}
use Rattle.chr_replica.specs.declared.rested.Destination.{Destination}
use Rattle.chr_replica.specs.declared.rested.Placed.{Placed}
use Rattle.chr_replica.specs.declared.rested.RestedOps.{RestedOps}
use Rattle.chr_ops.specs.Operations.{Operation}
use Rattle.chr_ops.specs.Summaries.{CoversJust}
use Rattle.chr_acts.specs.declared.act.Act.{Act}
use Rattle.chr_acts.specs.declared.act.Act.TheVariants as act
use Rattle.chr_acts.specs.declared.reply.Reply.{Reply}
use Rattle.chr_acts.specs.Events.{Does}
use Rattle.chr_join.specs.AcceptedPrograms.{program_in}
use Rattle.chr_worlds.specs.declared.answer.Answer.{Answer}
use Rattle.chr_worlds.specs.declared.answer.Answer.TheVariants as answer
use Rattle.chr_worlds.specs.declared.event.Event.TheVariants as event
use Rattle.chr_worlds.specs.Resting.{ComesToRest, RestsAt}
use Rattle.chr_worlds.specs.Worlds.{Changes, Happens, IsAt, TakesIn}
use Rattle.chr_worlds.specs.Sharing.{Shared, shared_program}
use Rattle.chr_worlds.specs.working.Boards.{replicas_on, AreOf, ChangesAt, AreLacked, AreLackedAt, ExchangesAt}
use Rattle.chr_worlds.specs.working.Boards.{IsReplied, MayTellAt, RepliesAt}

-- a board that was read is at its place
pub is_there : (bs : List Held) (place : ℕ) (b : Held) → place < length bs → b ≡ slice_index_or bs place b
    → slice_get bs place ≡ Some b
is_there bs place b within read =
    slice_get-get_or bs place b within ∙ ap Some (sym read)

-- what a board has stands at its place
pub part_at : {A : Type 0} (part : Held → A) (bs : List Held) (place : ℕ) (b : Held) → slice_get bs place ≡ Some b
    → slice_get (each part bs) place ≡ Some (part b)
part_at part bs place b there = slice_get-map part bs place ∙ ap (option_map part) there

-- and has the next number
pub number_at : (bs : List Held) (number place : ℕ) (b : Held) → number ≡ place + 1 → slice_get bs place ≡ Some b
    → IsAt (replicas_on bs) number b.replica
number_at bs number place b is there = (
  omega (arith, is),
  ap (slice_get (replicas_on bs)) (omega (arith, is)) ∙ part_at (λ b. b.replica) bs place b there,
)

-- what holds of each board holds of the one at a place
pub of_program : (a : Accepted) (bs : List Held) (place : ℕ) (b : Held) → AreOf a bs → slice_get bs place ≡ Some b
    → b.accepted ≡ a
of_program a bs place b all there =
    subst (λ b. b.accepted ≡ a) (get_or_from_slice_get bs place b b there)
    (all place b (slice_get_within bs place b there))

-- where one board changes, all are of the program as they were
pub still_of : (a : Accepted) (bs cs : List Held) (place : ℕ) (R : Held → Replica → Type 0) → AreOf a bs
    → ChangesAt bs place R cs → AreOf a cs
still_of a bs cs place R all h =
    subst (AreOf a) (sym h.boards)
    (All-set (λ b. b.accepted ≡ a) bs place h.after (h.program ∙ of_program a bs place h.before all h.there) all)

-- and its replica changes
pub replicas_change : (a : Accepted) (bs cs : List Held) (number place : ℕ) (R : Held → Replica → Type 0)
    (Q : Replica → Replica → Type 0) → number ≡ place + 1 → AreOf a bs
    → ((b : Held) (t : Replica) → b.accepted ≡ a → R b t → Q b.replica t) → ChangesAt bs place R cs
    → Changes (replicas_on bs) number Q (replicas_on cs)
replicas_change a bs cs number place R Q is all follows h = record {
  before = h.before.replica;
  after = h.after.replica;
  there = number_at bs number place h.before is h.there;
  changed = follows h.before h.after.replica (of_program a bs place h.before all h.there) h.changed;
  world = ap replicas_on h.boards ∙ map-set (λ b. b.replica) bs place h.after
      ∙ ap (λ k. slice_set (replicas_on bs) k h.after.replica) (omega (arith, is));
}

-- a replica that stays as it is
pub stays_at : (w : List Replica) (r : ℕ) (s : Replica) (R : Replica → Replica → Type 0) → IsAt w r s → R s s
    → Changes w r R w
stays_at w r s R here holds = record {
  before = s;
  after = s;
  there = here;
  changed = holds;
  world = sym (set-get_or w (r - 1) s) ∙ ap (slice_set w (r - 1)) (get_or_from_slice_get w (r - 1) s s here.1);
}

-- what a board answers without a change is the answer of its replica in the world
pub asked_at : (w : Shared) (r : ℕ) (b : Held) (a : Act) (x : Answer) → IsAt w.replicas r b.replica
    → b.accepted ≡ w.accepted → IsReplied x (λ y. Does (program_on b) b.replica a y b.replica)
    → Happens (shared_program w) w.replicas (event.At r a) x w.replicas
asked_at w r b a (answer.Replied y) here program does =
    stays_at w.replicas r b.replica (λ s t. Does (shared_program w) s a y t) here
    (subst (λ k. Does (program_in k) b.replica a y b.replica) program does)
asked_at w r b a _ here program does = absurd does

-- boards that were told nothing
pub untold : (n : ℕ) (b : Held) → replicas_on (replicate n b) ≡ replicate n b.replica
untold zero b = refl
untold (suc n) b = ap (λ l. b.replica ∷ l) (untold n b)

-- a board of a list that is seen as another one
pub found_there : (now bs : List Held) (place : ℕ) (b : Held) → bs ≡ now → place < length now
    → b ≡ slice_index_or bs place b → slice_get bs place ≡ Some b
found_there now bs place b view within read = is_there bs place b (subst (λ l. place < length l) (sym view) within) read

-- and one that was changed in it
pub changed_there : (now bs : List Held) (place : ℕ) (b c : Held) (R : Held → Replica → Type 0) → bs ≡ now
    → place < length now → b ≡ slice_index_or bs place b → c.accepted ≡ b.accepted → R b c.replica
    → ChangesAt now place R (slice_set bs place c)
changed_there now bs place b c R view within read program changed = record {
  before = b;
  after = c;
  there = subst (λ l. slice_get l place ≡ Some b) view (found_there now bs place b view within read);
  program = program;
  changed = changed;
  boards = ap (λ l. slice_set l place c) view;
}

-- and one that did an act
pub replies_there : (now bs : List Held) (place : ℕ) (b c : Held) (asked : Act) (x : Answer) → bs ≡ now
    → place < length now → b ≡ slice_index_or bs place b → c.accepted ≡ b.accepted
    → IsReplied x (λ y. Does (program_on b) b.replica asked y c.replica)
    → RepliesAt now place asked x (slice_set bs place c)
replies_there now bs place b c asked x view within read program replied =
    changed_there now bs place b c (λ b t. IsReplied x (λ y. Does (program_on b) b.replica asked y t)) view within read
    program replied

-- what is lacked, by the places of the boards
pub lacked_at : (now bs : List Held) (from to : ℕ) (giver taker : Held) (ops : List Operation) → bs ≡ now
    → slice_get bs from ≡ Some giver → slice_get bs to ≡ Some taker
    → AreLacked giver.replica.operations taker.replica.operations ops → AreLackedAt now from to ops
lacked_at now bs from to giver taker ops view at_from at_to lacked =
    subst (λ l. AreLackedAt l from to ops) view (record {
      giver = giver;
      taker = taker;
      at_from = at_from;
      at_to = at_to;
      lacked = lacked;
    })

-- what is lacked is merged, with this reply
merges_lacked : (bs cs : List Held) (from to : ℕ) (ops os : List Operation) (x : Reply) (l : AreLackedAt bs from to ops)
    → os ≡ ops → ChangesAt bs to (λ b t. Does (program_on b) b.replica (act.Merge os) x t) cs
    → ChangesAt bs to (λ b t. TakesIn (program_on b) l.giver.replica b.replica x t) cs
merges_lacked bs cs from to ops os x l is h =
    let e : ◌≡◌ {A = Option Held} (Some l.taker) (Some h.before) = sym l.at_to ∙ h.there in
    let same : l.taker ≡ h.before = cc in record {
      before = h.before;
      after = h.after;
      there = h.there;
      program = h.program;
      changed = record {
        summary = l.lacked.summary;
        covers = subst (λ b. CoversJust l.lacked.summary b.replica.operations) same l.lacked.covers;
        merged = subst (λ os. Does (program_on h.before) h.before.replica (act.Merge os) x h.after.replica)
            (is ∙ l.lacked.lacked) h.changed;
      };
      boards = h.boards;
    }

-- what is lacked is merged, with this answer
pub takes_in : (bs cs : List Held) (from to : ℕ) (ops os : List Operation) (x : Answer) → AreLackedAt bs from to ops
    → os ≡ ops → RepliesAt bs to (act.Merge os) x cs → ExchangesAt bs from to x cs
takes_in bs cs from to ops os (answer.Replied x) l is h =
    record { giver = l.giver; there = l.at_from; taken = merges_lacked bs cs from to ops os x l is h }
takes_in bs cs from to ops os _ l is h = absurd h.changed

-- what happens to a board happens to its replica, under the world's program
pub happens_at : (w : Shared) (a : Accepted) (bs cs : List Held) (number place : ℕ)
    (R : Program → Replica → Replica → Type 0) → record { accepted = a; replicas = replicas_on bs } ≡ w
    → number ≡ place + 1 → AreOf a bs → ChangesAt bs place (λ b t. R (program_on b) b.replica t) cs
    → Changes w.replicas number (λ s t. R (shared_program w) s t) (replicas_on cs)
happens_at w a bs cs number place R view is all h =
    subst (λ w. Changes w.replicas number (λ s t. R (shared_program w) s t) (replicas_on cs)) view
    (replicas_change a bs cs number place _ _ is all
    (λ b t of does. subst (λ a. R (program_in a) b.replica t) of does) h)

-- an act that a board does is an event of the world
pub replies_at : (w : Shared) (a : Accepted) (bs cs : List Held) (number place : ℕ) (asked : Act) (x : Answer)
    → record { accepted = a; replicas = replicas_on bs } ≡ w → number ≡ place + 1 → AreOf a bs
    → RepliesAt bs place asked x cs
    → Happens (shared_program w) w.replicas (event.At number asked) x (replicas_on cs)
replies_at w a bs cs number place asked (answer.Replied y) view is all h =
    happens_at w a bs cs number place (λ p s t. Does p s asked y t) view is all h
replies_at w a bs cs number place asked _ view is all h = absurd h.changed

-- an exchange between boards is one between their replicas
pub syncs_at : (w : Shared) (a : Accepted) (bs cs : List Held) (a_number b_number from to : ℕ) (x : Answer)
    → record { accepted = a; replicas = replicas_on bs } ≡ w → a_number ≡ from + 1 → b_number ≡ to + 1 → AreOf a bs
    → ExchangesAt bs from to x cs
    → Happens (shared_program w) w.replicas (event.Sync a_number b_number) x (replicas_on cs)
syncs_at w a bs cs a_number b_number from to (answer.Replied x) view is_a is_b all h =
    subst (λ w. (s : Replica) × IsAt w.replicas a_number s
    × Changes w.replicas b_number (λ t u. TakesIn (shared_program w) s t x u) (replicas_on cs)) view (
      h.giver.replica,
      number_at bs a_number from h.giver is_a h.there,
      replicas_change a bs cs b_number to _ _ is_b all
          (λ b t of takes. subst (λ a. TakesIn (program_in a) h.giver.replica b.replica x t) of takes) h.taken,
    )
syncs_at w a bs cs a_number b_number from to _ view is_a is_b all h = absurd h.taken.changed

-- ---- a board that is told rested operations

-- what holds of the program holds of each board's
pub of_each : (a : Accepted) (bs : List Held) (r : RestedOps) → AreOf a bs → AreRestedBy (program_in a) r
    → All (λ b. AreRestedBy (program_on b) r) bs
of_each a bs r all rested = λ k d within.
    subst (λ x. AreRestedBy (program_in x) r) (sym (all k d within)) rested

-- and of one that was read
pub of_one : (now bs : List Held) (place : ℕ) (b : Held) (r : RestedOps) → bs ≡ now → place < length now
    → b ≡ slice_index_or bs place b → All (λ b. AreRestedBy (program_on b) r) now → AreRestedBy (program_on b) r
of_one now bs place b r view within read all =
    subst (λ b. AreRestedBy (program_on b) r) (ap (λ l. slice_index_or l place b) (sym view) ∙ sym read)
    (all place b within)

-- it is told them in the list, or stays as it is
pub may_tell_there : (now bs : List Held) (place : ℕ) (b c : Held) (r : RestedOps) (x : Option Placed) → bs ≡ now
    → place < length now → b ≡ slice_index_or bs place b → c.accepted ≡ b.accepted
    → IfSome x (λ y. TellsThem (program_on b) r y b.replica c.replica) → IfNone x (c ≡ b)
    → MayTellAt now place r x (slice_set bs place c)
may_tell_there now bs place b c r (Some y) view within read program told same =
    changed_there now bs place b c (λ b t. TellsThem (program_on b) r y b.replica t) view within read program told
may_tell_there now bs place b c r None view within read program told same =
    ap (slice_set bs place) (same ∙ read) ∙ set-get_or bs place b ∙ view

-- what follows where nothing was found
none_then : {A P Q : Type 0} (x : Option A) → (P → Q) → IfNone x P → IfNone x Q
none_then (Some y) f h = tt
none_then None f h = f h

-- what it refuses
pub refused_there : (now bs : List Held) (place : ℕ) (b : Held) (r : RestedOps) (into : Destination)
    (x : Option Placed) → bs ≡ now → b ≡ slice_index_or bs place b → IfNone x (RefusesThem b.replica r into)
    → IfNone x ((d : Held) → slice_get now place ≡ Some d → RefusesThem d.replica r into)
refused_there now bs place b r into x view read refuses =
    none_then x (λ h d there. subst (λ e. RefusesThem e.replica r into)
    (read ∙ get_or_from_slice_get bs place d b (ap (λ l. slice_get l place) view ∙ there)) h) refuses

-- so it is in the world
pub tells_at : (w : Shared) (a : Accepted) (bs cs : List Held) (number place : ℕ) (r : RestedOps) (x : Option Placed)
    → record { accepted = a; replicas = replicas_on bs } ≡ w → number ≡ place + 1 → AreOf a bs
    → MayTellAt bs place r x cs
    → IfSome x (λ y. Changes w.replicas number (TellsThem (shared_program w) r y) (replicas_on cs))
tells_at w a bs cs number place r (Some y) view is all h =
    happens_at w a bs cs number place (λ p s t. TellsThem p r y s t) view is all h
tells_at w a bs cs number place r None view is all h = tt

pub stays_so : (w : Shared) (a : Accepted) (bs cs : List Held) (place : ℕ) (r : RestedOps) (x : Option Placed)
    → record { accepted = a; replicas = replicas_on bs } ≡ w → MayTellAt bs place r x cs
    → IfNone x (record { accepted = a; replicas = replicas_on cs } ≡ w)
stays_so w a bs cs place r (Some y) view h = tt
stays_so w a bs cs place r None view h = ap (λ l. record { accepted = a; replicas = replicas_on l }) h ∙ view

pub refused_at : (w : Shared) (a : Accepted) (bs : List Held) (number place : ℕ) (r : RestedOps) (into : Destination)
    (x : Option Placed) → record { accepted = a; replicas = replicas_on bs } ≡ w → number ≡ place + 1
    → IfNone x ((b : Held) → slice_get bs place ≡ Some b → RefusesThem b.replica r into)
    → IfNone x ((s : Replica) → IsAt w.replicas number s → RefusesThem s r into)
refused_at w a bs number place r into (Some y) view is refuses = tt
refused_at w a bs number place r into None view is refuses = λ s there.
    let index : number - 1 ≡ place = omega (arith, is) in
    by s (slice_get bs place) refl
    (sym (slice_get-map (λ b. b.replica) bs place)
    ∙ ap (slice_get (replicas_on bs)) (sym index)
    ∙ ap (λ v. slice_get v.replicas (number - 1)) view ∙ there.1)
  where
    by : (s : Replica) (o : Option Held) → slice_get bs place ≡ o → option_map (λ b. b.replica) o ≡ Some s
        → RefusesThem s r into
    by s (Some b) e h = let same : b.replica ≡ s = cc in subst (λ t. RefusesThem t r into) same (refuses b e)
    by s None e h = absurd (none-some s h)

-- where there is no board of the number there is no replica
pub none_there : (w : Shared) (a : Accepted) (bs : List Held) (number : ℕ) (s : Replica)
    → record { accepted = a; replicas = replicas_on bs } ≡ w → ¬ ((0 < number) × (number ≤ length bs))
    → ¬ IsAt w.replicas number s
none_there w a bs number s view none there =
    let within = slice_get_within w.replicas (number - 1) s there.1 in
    let same : length bs ≡ length w.replicas =
    sym (length-map bs (λ b. b.replica)) ∙ ap (λ v. length v.replicas) view in
    let positive = there.0 in
    none (positive, omega (arith, within, same, positive))

-- ---- a board that comes to rest

pub rested_there : {E : Type 0} (result : Result (Unit {0}) E) (now bs : List Held) (place : ℕ) (b c : Held)
    → bs ≡ now → place < length now → b ≡ slice_index_or bs place b → c.accepted ≡ b.accepted
    → c.replica.operations ≡ b.replica.operations → IsSound (program_on b) c.replica
    → OnOk result (IsSettled (program_on b) c.replica)
    → OnOk result (ChangesAt now place (λ b t. ComesToRest (program_on b) b.replica t) (slice_set bs place c))
rested_there (Err e) now bs place b c view within read program operations sound settled = tt
rested_there (Ok done) now bs place b c view within read program operations sound settled =
    changed_there now bs place b c (λ b t. ComesToRest (program_on b) b.replica t) view within read program
    (record { operations = operations; sound = sound; settled = settled })

-- so it is in the world
pub rests_at : {E : Type 0} (result : Result (Unit {0}) E) (w : Shared) (a : Accepted) (bs cs : List Held)
    (number place : ℕ) → record { accepted = a; replicas = replicas_on bs } ≡ w → number ≡ place + 1 → AreOf a bs
    → OnOk result (ChangesAt bs place (λ b t. ComesToRest (program_on b) b.replica t) cs)
    → OnOk result (RestsAt (shared_program w) w.replicas number (replicas_on cs))
rests_at (Err e) w a bs cs number place view is all h = tt
rests_at (Ok done) w a bs cs number place view is all h =
    inr (happens_at w a bs cs number place (λ p s t. ComesToRest p s t) view is all h)
