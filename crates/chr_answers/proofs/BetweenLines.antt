-- Between lines replicas are sound.
use Rattle.std.proofs.Common.{◌≡◌, ℕ, zero, suc, [], ◌∷◌, refl, sym, ap, ◌∙◌, subst}
use Rattle.std.specs.Prelude.{replicate, Result, Ok, Err, IfOk, OnOk, ⊤}
use Rattle.std.specs.FinMap as finite
use Rattle.std.proofs.lemmas.List.Elements.{All-replicate}
use Rattle.chr_base.specs.declared.program.Program.{Program}
use Rattle.chr_join.specs.declared.accepted.Accepted.{Accepted}
use Rattle.chr_join.specs.AcceptedPrograms.{program_in}
use Rattle.chr_replica.specs.Laws.{FirstIsSound}
use Rattle.chr_replica.specs.Replicas.{Replica, first, IsSound}
use Rattle.chr_acts.specs.declared.act.Act.{Act}
use Rattle.chr_acts.specs.declared.act.Act.TheVariants as act
use Rattle.chr_worlds.specs.Worlds.{Replicas, IsAt, Happens}
use Rattle.chr_worlds.specs.Laws.{RunsKeep}
use Rattle.chr_worlds.proofs.Keeping.{holds_at}
use Rattle.chr_worlds.specs.declared.event.Event.{Event}
use Rattle.chr_worlds.specs.declared.event.Event.TheVariants as event
use Rattle.chr_worlds.specs.declared.answer.Answer.{Answer}
use Rattle.chr_answers.specs.Services.{operations_held, AreBetweenLines}

-- ---- acts of lines

-- what lines ask for: nothing of steps and leases
abbrev pub IsLineAct : Act → Type 0
IsLineAct (act.Tell op) = ⊤
IsLineAct (act.Merge ops) = ⊤
IsLineAct act.Settle = ⊤
IsLineAct act.Show = ⊤
IsLineAct act.Summary = ⊤
IsLineAct (act.Lacks summary) = ⊤
IsLineAct _ = ⊥

abbrev pub IsLineEvent : Event → Type 0
IsLineEvent (event.At r a) = IsLineAct a
IsLineEvent (event.Sync a b) = ⊤
IsLineEvent (event.Work r number steps) = ⊥

-- an event of a line keeps replicas ready
pub happens_ready : RunsKeep → (p : Program) (w : Replicas) (e : Event) (x : Answer) (v : Replicas) → IsLineEvent e
    → Happens p w e x v → AreBetweenLines p w → AreBetweenLines p v
happens_ready keep p w e x v line h ready = keep p w (e ∷ []) (x ∷ []) v (v, h, refl) ready

-- the replica of a number
pub ready_at : (p : Program) (w : Replicas) (r : ℕ) (s : Replica) → AreBetweenLines p w → IsAt w r s → IsSound p s
ready_at p w r s ready there = holds_at (IsSound p) w r s ready there

-- ready replicas of an accepted program, which is told by another name
pub ready_for : (a b : Accepted) (w : Replicas) → b ≡ a → AreBetweenLines (program_in a) w
    → AreBetweenLines (program_in b) w
ready_for a b w e h = subst (λ c. AreBetweenLines (program_in c) w) (sym e) h

-- after a call
pub act_ready : {E : Type 0} → RunsKeep → (a b : Accepted) (w v : Replicas) (e : Event) (r : Result Answer E)
    → IsLineEvent e → b ≡ a → IfOk r (λ x. Happens (program_in a) w e x v)
    → AreBetweenLines (program_in a) w → OnOk r (AreBetweenLines (program_in b) v)
act_ready keep a b w v e (Ok x) line same h ready = ready_for a b v same
    (happens_ready keep (program_in a) w e x v line h ready)
act_ready keep a b w v e (Err f) line same h ready = tt

-- ---- replicas that were told nothing

pub first_ready : FirstIsSound → (p : Program) (n : ℕ) (w : Replicas) → w ≡ replicate n first → AreBetweenLines p w
first_ready sound p n w e = subst (AreBetweenLines p) (sym e) (All-replicate (IsSound p) n first (sound p))

none_told : (n : ℕ) → operations_held (replicate n first) ≡ replicate n finite.empty
none_told zero = refl
none_told (suc n) = ap (λ ms. finite.empty ∷ ms) (none_told n)

pub first_told : (n : ℕ) (w : Replicas) → w ≡ replicate n first → operations_held w ≡ replicate n finite.empty
first_told n w e = ap operations_held e ∙ none_told n
