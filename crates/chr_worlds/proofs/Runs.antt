-- A run that goes on by an event.
use Rattle.std.specs.Prelude.{◌≡◌, List, [], ◌∷◌, ◌++◌, false, Result, Ok, Err, OnOk}
use Rattle.std.specs.Result.{is_err}
use Rattle.std.specs.declared.alloc.AllocError.{AllocError}
use mathlib.Core.Bool.{true≢false}
use Rattle.std.proofs.Common.{refl, sym, subst}
use Rattle.chr_base.specs.declared.program.Program.{Program}
use Rattle.chr_worlds.specs.declared.answer.Answer.{Answer}
use Rattle.chr_worlds.specs.declared.event.Event.{Event}
use Rattle.chr_worlds.specs.Worlds.{Replicas, Happens, Runs}
use Rattle.chr_worlds.specs.working.Boards.{GainsAnswer}

-- one more event
pub runs_on : (p : Program) (w : Replicas) (es : List Event) (xs : List Answer) (u : Replicas) (e : Event) (x : Answer)
    (v : Replicas) → Runs p w es xs u → Happens p u e x v → Runs p w (es ++ e ∷ []) (xs ++ x ∷ []) v
runs_on p w [] [] u e x v run h = (v, subst (λ r. Happens p r e x v) run h, refl)
runs_on p w (d ∷ es) (y ∷ xs) u e x v run h = (run.0, run.1, runs_on p run.0 es xs u e x v run.2 h)
runs_on p w [] (y ∷ xs) u e x v run h = absurd run
runs_on p w (d ∷ es) [] u e x v run h = absurd run

-- one more event, where it is answered
pub next_on : (p q : Program) (w u v : Replicas) (es fs : List Event) (e : Event) (xs ys : List Answer)
    (r : Result (Unit {0}) AllocError) → q ≡ p → fs ≡ es ++ e ∷ [] → Runs p w es xs u → is_err r ≡ false
    → OnOk r (GainsAnswer q u e xs ys v) → Runs p w fs ys v
next_on p q w u v es fs e xs ys (Ok x) same more run ok h =
    subst (λ l. Runs p w l ys v) (sym more) (subst (λ l. Runs p w (es ++ e ∷ []) l v) (sym h.answers)
    (runs_on p w es xs u e h.answer v run (subst (λ r. Happens r u e h.answer v) same h.happens)))
next_on p q w u v es fs e xs ys (Err x) same more run ok h = absurd (true≢false ok)
