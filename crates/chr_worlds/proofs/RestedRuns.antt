-- A replica that is told rested operations, by other events of its world.
use Rattle.std.specs.Prelude.{◌≡◌, ℕ, ◌-◌, ◌<◌, List, [], ◌∷◌, length, Option, Some, None, slice_set}
use Rattle.std.proofs.Common.{refl, sym, ap, ◌∙◌, subst}
use Rattle.std.proofs.lemmas.List.{set-get_or, set-set}
use Rattle.std.proofs.lemmas.Option.{get_or_from_slice_get, slice_get_within}
use Rattle.chr_base.specs.declared.program.Program.{Program}
use Rattle.chr_base.specs.Stores.{Store}
use Rattle.chr_ops.specs.declared.fault.Added.TheVariants as added
use Rattle.chr_ops.specs.Operations.{Operation}
use Rattle.chr_ops.proofs.NewsOfAll.{set_here}
use Rattle.chr_replica.specs.Replicas.{Replica, ComesBack, GoesOut, TellsEach, TellsRested}
use Rattle.chr_acts.specs.declared.act.Act.{Act}
use Rattle.chr_acts.specs.declared.act.Act.TheVariants as act
use Rattle.chr_acts.specs.declared.reply.Reply.{Reply}
use Rattle.chr_acts.specs.declared.reply.Reply.TheVariants as reply
use Rattle.chr_acts.specs.Events.{Does}
use Rattle.chr_worlds.specs.declared.answer.Answer.{Answer}
use Rattle.chr_worlds.specs.declared.answer.Answer.TheVariants as answer
use Rattle.chr_worlds.specs.declared.event.Event.{Event}
use Rattle.chr_worlds.specs.declared.event.Event.TheVariants as event
use Rattle.chr_worlds.specs.Laws.{RunsTo}
use Rattle.chr_worlds.specs.Worlds.{Replicas, Changes, Runs}

-- a run, and then another one
goes_on : (p : Program) (es : List Event) (xs : List Answer) (w u v : Replicas) → Runs p w es xs u → RunsTo p u v
    → RunsTo p w v
goes_on p [] [] w u v h more = subst (λ x. RunsTo p x v) h more
goes_on p (e ∷ es) (x ∷ xs) w u v h more =
    let rest = goes_on p es xs h.0 u v h.2 more in (e ∷ rest.0, x ∷ rest.1, (h.0, h.1, rest.2))
goes_on p [] (x ∷ xs) w u v h more = absurd h
goes_on p (e ∷ es) [] w u v h more = absurd h

module _ (p : Program) (w : Replicas) (r : ℕ) (positive : 0 < r) (within : r - 1 < length w) where
  -- the world in which the replica of the number is this one
  abbrev with_one : Replica → Replicas
  with_one s = slice_set w (r - 1) s

  -- from one of these replicas a run leads to the other
  abbrev Leads : Replica → Replica → Type 0
  Leads s t = RunsTo p (with_one s) (with_one t)

  leads_nowhere : (s t : Replica) → t ≡ s → Leads s t
  leads_nowhere s t same = ([], [], ap with_one same)

  leads_on : (s t u : Replica) → Leads s t → Leads t u → Leads s u
  leads_on s t u h more = goes_on p h.0 h.1 (with_one s) (with_one t) (with_one u) h.2 more

  leads_by : (s t : Replica) (a : Act) (x : Reply) → Does p s a x t → Leads s t
  leads_by s t a x does =
      let changes : Changes (with_one s) r (λ s t. Does p s a x t) (with_one t) = record {
        before = s;
        after = t;
        there = (positive, set_here w (r - 1) s within);
        changed = does;
        world = sym (set-set w (r - 1) s t);
      } in
      (event.At r a ∷ [], answer.Replied x ∷ [], (with_one t, changes, refl))

  leads_back : (s : Replica) (carried : Option ℕ) (t : Replica) → ComesBack s carried t → Leads s t
  leads_back s None t h = leads_nowhere s t h
  leads_back s (Some number) t h = leads_by s t (act.Recall number) reply.Recalled h

  leads_by_tells : (s : Replica) (ops : List Operation) (t : Replica) → TellsEach p s ops t → Leads s t
  leads_by_tells s [] t h = leads_nowhere s t h
  leads_by_tells s (o ∷ ops) t h =
      leads_on s h.0 t (leads_by s h.0 (act.Tell o) (reply.Told added.New) h.1) (leads_by_tells h.0 ops t h.2)

  leads_out : (s : Replica) (part : Store) (lease : Option ℕ) (t : Replica) → GoesOut s part lease t → Leads s t
  leads_out s part None t h = leads_nowhere s t h
  leads_out s part (Some number) t h =
      leads_by s t (act.Take part) (reply.Leased (record { number = number; part = part })) (refl, h)

  -- the part comes back, the operations are told, a settling that was stopped takes the steps, and the rest goes out
  leads_to : (s : Replica) (carried : Option ℕ) (ops : List Operation) (rested : Store) (lease : Option ℕ)
      (t : Replica) → TellsRested p s carried ops rested lease t → Leads s t
  leads_to s carried ops rested lease t h =
      leads_on s h.back t (leads_back s carried h.back h.comes_back)
      (leads_on h.back h.told t (leads_by_tells h.back ops h.told h.tells)
      (leads_on h.told h.settled t (leads_by h.told h.settled act.Settle (reply.Stopped h.count) h.settles)
      (leads_out h.settled rested lease t h.goes_out)))

pub rested_runs : (p : Program) (w v : Replicas) (r : ℕ) (carried : Option ℕ) (ops : List Operation)
    (rested : Store) (lease : Option ℕ) → Changes w r (λ s t. TellsRested p s carried ops rested lease t) v
    → RunsTo p w v
rested_runs p w v r carried ops rested lease h =
    let same : slice_set w (r - 1) h.before ≡ w =
    ap (slice_set w (r - 1)) (sym (get_or_from_slice_get w (r - 1) h.before h.before h.there.1))
    ∙ set-get_or w (r - 1) h.before in
    subst (λ x. RunsTo p w x) (sym h.world)
    (subst (λ x. RunsTo p x (slice_set w (r - 1) h.after)) same
    (leads_to p w r h.there.0 (slice_get_within w (r - 1) h.before h.there.1) h.before carried ops rested lease
    h.after h.changed))
