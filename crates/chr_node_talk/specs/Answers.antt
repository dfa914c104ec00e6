-- What is answered to what is asked.
use Rattle.std.specs.Prelude.{◌≡◌, ◌≢◌, ◌⊎◌, ⊤, ℕ, ◌+◌, ◌-◌, ◌^◌, ◌≤◌, List, [], ◌∷◌, Option, Some, None, Result, Ok}
use Rattle.std.specs.Prelude.{Err}
use Rattle.chr_base.specs.FinBag.{◌⊖◌}
use Rattle.chr_base.specs.Programs.{declarations}
use Rattle.chr_base.specs.Stores.{Store, size}
use Rattle.chr_ops.specs.declared.id.OpId.{OpId}
use Rattle.chr_ops.specs.Operations.{Operation, IsHeld, IsHeldOtherwise, IsNew, told_atoms}
use Rattle.chr_node.specs.declared.fault.Refusal.{Refusal as NodeRefusal}
use Rattle.chr_node.specs.declared.fault.Refusal.TheVariants as node
use Rattle.chr_node.specs.Refusals.{NodeRefuses}
use Rattle.chr_queries.specs.declared.wanted.Wanted.{Wanted}
use Rattle.chr_queries.specs.Named.{named_in}
use Rattle.chr_queries.specs.Wanted.{wanted_in}
use Rattle.chr_node_lines.specs.Asked.{Asked, tell, last, show, find, count, changes, status}
use Rattle.chr_node_lines.specs.declared.fault.Refusal.{Refusal}
use Rattle.chr_node_lines.specs.declared.fault.Refusal.TheVariants as refusal
use Rattle.chr_node_lines.specs.declared.reply.Reply.{Reply}
use Rattle.chr_node_lines.specs.declared.reply.Reply.TheVariants as reply
use Rattle.chr_node_talk.specs.Moments.{Run, Moment, IsSame, Tells, Shows, IsStoreOf}

-- the number that the caller expects, counted from 1 in the run, is that of the id
abbrev pub IsExpected : Run → Option ℕ → OpId → Type 0
IsExpected r None id = ⊤
IsExpected r (Some n) id = id.number ≡ r.before + n

-- the caller expects the number of the id, and no other
abbrev pub IsRetry : Run → Option ℕ → OpId → Type 0
IsRetry r None id = ⊥
IsRetry r (Some n) id = id.number ≡ r.before + n

-- a node's refusal, as lines are refused
abbrev pub line_refusal : NodeRefusal → Refusal
line_refusal node.UnknownSymbol = refusal.UnknownSymbol
line_refusal (node.Clash id) = refusal.Clash
line_refusal node.Full = refusal.Full
line_refusal node.NotNext = refusal.NotNext
line_refusal node.NoText = refusal.NoText
line_refusal node.Memory = refusal.Memory

-- the operation is refused as the next one of the run
abbrev pub IsRefusedNext : Run → Moment → Operation → Refusal → Type 0
IsRefusedNext r old o e =
    ((d : NodeRefusal) × NodeRefuses r.program old.operations r.origin old.last o d × (e ≡ line_refusal d))
    ⊎ ((e ≡ refusal.NotNext) × IsHeld old.operations o)

-- the operation was not told before: other atoms are held under its id, or none
abbrev pub IsRefusedAgain : Moment → Operation → Refusal → Type 0
IsRefusedAgain old o e =
    ((e ≡ refusal.Clash) × IsHeldOtherwise old.operations o) ⊎ ((e ≡ refusal.NotNext) × IsNew old.operations o)

-- no operation can have the number that is expected
abbrev pub IsBeyond : Run → Option ℕ → Type 0
IsBeyond r None = ⊥
IsBeyond r (Some n) = 2 ^ 64 ≤ r.before + n

-- why a tell is refused: as the next one, or under the id that is expected, or for want of memory
abbrev pub TellRefused : Run → Moment → Option ℕ → Operation → Refusal → Type 0
TellRefused r old n o e =
    (IsExpected r n o.0 × IsRefusedNext r old o e)
    ⊎ (((id : OpId) × (id.origin ≡ r.origin) × IsRetry r n id × (id.number ≢ o.0.number)
    × IsRefusedAgain old (id, o.1) e)
    ⊎ (((e ≡ refusal.NotNext) × IsBeyond r n) ⊎ (e ≡ refusal.Memory)))

-- A tell is answered by the id under which it is told now, or by that which the caller expects, where its atoms are
-- held under it. Where it is refused nothing changes.
abbrev pub TellAnswers : Run → Moment → Moment → Option ℕ → Operation → Reply → Type 0
TellAnswers r old new n o (reply.Told id) = (id ≡ o.0) × IsExpected r n id × Tells r o old new
TellAnswers r old new n o (reply.Again id) =
    (id.origin ≡ r.origin) × IsRetry r n id × IsHeld old.operations (id, o.1) × IsSame old new
TellAnswers r old new n o (reply.Refused e) = TellRefused r old n o e × IsSame old new
TellAnswers r old new n o other = ⊥

-- nothing is answered for want of memory, and nothing changes
abbrev pub IsForMemory : Moment → Moment → Refusal → Type 0
IsForMemory old new e = (e ≡ refusal.Memory) × IsSame old new

-- how many operations were told in the run
abbrev pub LastAnswers : Run → Moment → Moment → Reply → Type 0
LastAnswers r old new (reply.Last n) = (n ≡ old.last - r.before) × IsSame old new
LastAnswers r old new (reply.Refused e) = IsForMemory old new e
LastAnswers r old new other = ⊥

-- of a store at rest, what the name has, or all
abbrev pub shown_of : Run → Option (List ℕ) → Store → Store
shown_of r None store = store
shown_of r (Some name) store = named_in (declarations r.program) name store

-- The store at rest, of which P holds, is looked at.
abbrev pub LooksAt : Run → Moment → Moment → (Store → Type 0) → Type 0
LooksAt r old new P = (store : Store) × IsStoreOf r.program old.operations store × P store × IsSame old new

abbrev pub ShowAnswers : Run → Moment → Moment → Option (List ℕ) → Reply → Type 0
ShowAnswers r old new name (reply.Store s) = LooksAt r old new (λ store. s ≡ shown_of r name store)
ShowAnswers r old new name (reply.Refused e) = IsForMemory old new e
ShowAnswers r old new name other = ⊥

abbrev pub FindAnswers : Run → Moment → Moment → Wanted → Reply → Type 0
FindAnswers r old new w (reply.Found s) = LooksAt r old new (λ store. s ≡ wanted_in w store)
FindAnswers r old new w (reply.Refused e) = IsForMemory old new e
FindAnswers r old new w other = ⊥

abbrev pub CountAnswers : Run → Moment → Moment → Wanted → Reply → Type 0
CountAnswers r old new w (reply.Count n) = LooksAt r old new (λ store. n ≡ size (wanted_in w store))
CountAnswers r old new w (reply.Refused e) = IsForMemory old new e
CountAnswers r old new w other = ⊥

-- what came and went between the store that was told of last and the one at rest now, which is told of by this
abbrev pub ChangesAnswers : Run → Moment → Moment → Reply → Type 0
ChangesAnswers r old new (reply.Changed c) =
    (store : Store) × IsStoreOf r.program old.operations store × (c.came ≡ store ⊖ old.shown)
    × (c.went ≡ old.shown ⊖ store) × Shows store old new
ChangesAnswers r old new (reply.Refused e) = IsForMemory old new e
ChangesAnswers r old new other = ⊥

-- how many atoms were told, and how many the store at rest has
abbrev pub StatusAnswers : Run → Moment → Moment → Reply → Type 0
StatusAnswers r old new (reply.Status s) =
    LooksAt r old new (λ store. (s.told ≡ told_atoms old.operations) × (s.at_rest ≡ size store))
StatusAnswers r old new (reply.Refused e) = IsForMemory old new e
StatusAnswers r old new other = ⊥

-- what is answered to what is asked, at one moment, and what becomes of it
abbrev pub AskedAnswers : Run → Moment → Moment → Asked → Reply → Type 0
AskedAnswers r old new (tell n o) p = TellAnswers r old new n o p
AskedAnswers r old new last p = LastAnswers r old new p
AskedAnswers r old new (show name) p = ShowAnswers r old new name p
AskedAnswers r old new (find w) p = FindAnswers r old new w p
AskedAnswers r old new (count w) p = CountAnswers r old new w p
AskedAnswers r old new changes p = ChangesAnswers r old new p
AskedAnswers r old new status p = StatusAnswers r old new p

-- a line that asks nothing is refused for its own cause, or for want of memory
abbrev pub HeardAnswers : Run → Moment → Moment → Result Asked Refusal → Reply → Type 0
HeardAnswers r old new (Ok asked) p = AskedAnswers r old new asked p
HeardAnswers r old new (Err e) p = ((p ≡ reply.Refused e) ⊎ (p ≡ reply.Refused refusal.Memory)) × IsSame old new

-- the operation that the reply to a tell acknowledges
abbrev pub told_by : Operation → Reply → List Operation
told_by o (reply.Told id) = (id, o.1) ∷ []
told_by o (reply.Again id) = (id, o.1) ∷ []
told_by o other = []

-- the operations that a reply acknowledges
abbrev pub acknowledged_by : Result Asked Refusal → Reply → List Operation
acknowledged_by (Ok (tell n o)) p = told_by o p
acknowledged_by (Ok other) p = []
acknowledged_by (Err e) p = []
