-- Which events may happen, and lists of events that stop short.
use Rattle.std.specs.Prelude.{ℕ, List, take, ⊤}
use Rattle.chr_base.specs.declared.program.Program.{Program}
use Rattle.chr_acts.specs.Acts.{FitsAct}
use Rattle.chr_worlds.specs.declared.answer.Answer.{Answer}
use Rattle.chr_worlds.specs.declared.event.Event.{Event}
use Rattle.chr_worlds.specs.declared.event.Event.TheVariants as event
use Rattle.chr_worlds.specs.Worlds.{Replicas, Runs}

-- the number of parts that it asks for, if any, is within the limit
abbrev pub FitsEvent : Event → Type 0
FitsEvent (event.At r a) = FitsAct a
FitsEvent (event.Sync a b) = ⊤
FitsEvent (event.Work r number steps) = ⊤

-- the first n of the events, with some answers, and no other lead from one world to another
abbrev pub StopsAfter : Program → Replicas → List Event → ℕ → Replicas → Type 0
StopsAfter p w es n v = (xs : List Answer) × Runs p w (take n es) xs v
