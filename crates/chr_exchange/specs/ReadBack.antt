-- That messages are read from their own texts.
use Rattle.std.specs.Prelude.{◌≡◌, ◌<◌, ◌^◌, List, Ok}
use Rattle.std.specs.List.{AllByRecursion}
use Rattle.std.specs.FinMap as finite
use Rattle.chr_base.specs.declared.program.Program.{Program}
use Rattle.chr_base.specs.ProgramTests.{Declaration}
use Rattle.chr_base.specs.Programs.{declarations, declares_atom}
use Rattle.chr_base.specs.Values.{Each}
use Rattle.chr_json.specs.Messages.{IsRangeWithinLimits}
use Rattle.chr_ops.specs.declared.range.IdRange.{IdRange}
use Rattle.chr_ops.specs.Operations.{Operation, Operations, IsOperationBag}
use Rattle.chr_exchange.specs.Meant.{delta_in, summary_in}
use Rattle.chr_exchange.specs.Texts.{delta_text, delta_text_1, summary_text}

-- a summary's text means its ranges
abbrev pub SummaryTextsAreMeant : Type 0
SummaryTextsAreMeant =
    (rs : List IdRange) → AllByRecursion IsRangeWithinLimits rs → summary_in (summary_text rs) ≡ Ok rs

-- the operation's origin has 32 bits and its number 64, its bag is one that an operation may have, and the program
-- declares its atoms
pub record IsDeclaredOperation (ds : List Declaration) (o : Operation) : Type 0 where
  pub origin : o.0.origin < 2 ^ 32
  pub number : o.0.number < 2 ^ 64
  pub bag : IsOperationBag o.1
  pub declared : Each (declares_atom ds) o.1

-- the text of a delta of version 2 means the operations of its set, in the order of ids
abbrev pub DeltaTextsAreRead : Type 0
DeltaTextsAreRead =
    (p : Program) (m : Operations) → AllByRecursion (IsDeclaredOperation (declarations p)) (finite.entries m)
    → delta_in (declarations p) (delta_text (declarations p) m) ≡ Ok (finite.entries m)

-- the text of a delta of version 1 means the operations of its set, in the order of ids
abbrev pub Delta1TextsAreMeant : Type 0
Delta1TextsAreMeant =
    (p : Program) (m : Operations) → AllByRecursion (IsDeclaredOperation (declarations p)) (finite.entries m)
    → delta_in (declarations p) (delta_text_1 (declarations p) m) ≡ Ok (finite.entries m)
