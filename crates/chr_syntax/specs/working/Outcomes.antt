-- What the answers of private calls mean.
use Rattle.std.specs.Prelude.{◌≡◌, Option, Some, None, Result, Ok, Err}
use Rattle.chr_syntax.specs.declared.fault.Stop.{Stop}
use Rattle.chr_syntax.specs.declared.fault.Stop.TheVariants as stop

abbrev pub StopsWith : {Y : Type 0} → Stop → Option Y → Type 0
StopsWith stop.Memory there = Unit {0}
StopsWith stop.Syntax there = there ≡ None

-- a reader's answer is what a function on lists gives, unless memory ran out
abbrev pub AnswersWith : {X Y : Type 0} → (X → Y) → Result X Stop → Option Y → Type 0
AnswersWith view (Ok x) there = there ≡ Some (view x)
AnswersWith view (Err e) there = StopsWith e there
