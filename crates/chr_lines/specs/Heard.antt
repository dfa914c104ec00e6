-- What a run makes of a line, as far as the line and the program say it.
use Rattle.std.specs.Prelude.{◌≡◌, ℕ, ◌≤◌, ◌↔◌, List, Bool, Option, Some, None, Result, Ok, Err}
use Rattle.std.specs.Bool.{MatchBool}
use Rattle.chr_base.specs.declared.limits.TheConstants.{MAX_REPLICAS}
use Rattle.chr_base.specs.ProgramTests.{Declaration}
use Rattle.chr_json.specs.Commands.{Said, show, tell, sync, summary, lacks, merge}
use Rattle.chr_json.specs.Deltas.{named_operation}
use Rattle.chr_json.specs.Lines.{is_blank_line}
use Rattle.chr_json.specs.Reads.{line_said}
use Rattle.chr_json.specs.declared.fault.LineFault.{LineFault}
use Rattle.chr_json.specs.declared.fault.LineFault.TheVariants as fault
use Rattle.chr_exchange.specs.Names.{declared_operation, declared_operations}
use Rattle.chr_lines.specs.declared.heard.Heard.{Heard}
use Rattle.chr_lines.specs.declared.heard.Heard.TheVariants as heard
use Rattle.chr_lines.specs.Mistakes.{mistake_number}

-- it is refused by this number
abbrev pub IsRefusedAs : Heard → ℕ → Type 0
IsRefusedAs (heard.Refused m) n = mistake_number m ≡ n
IsRefusedAs (heard.Taken r) n = ⊥
IsRefusedAs heard.Blank n = ⊥

-- of k replicas one has this number
abbrev pub IsReplica : ℕ → ℕ → Type 0
IsReplica k r = (1 ≤ r) × (r ≤ k)

-- it is taken by as many replicas as have these two numbers, and refused as 35 where no run has so many
abbrev pub NamesReplicas : Heard → ℕ → ℕ → Type 0
NamesReplicas (heard.Taken r) a b = (k : ℕ) → (r ≤ k) ↔ (IsReplica k a × IsReplica k b)
NamesReplicas (heard.Refused m) a b =
    (mistake_number m ≡ 35) × ((k : ℕ) → k ≤ MAX_REPLICAS → ¬ (IsReplica k a × IsReplica k b))
NamesReplicas heard.Blank a b = ⊥

-- it is refused as 32 where the program doesn't declare its atoms
abbrev pub HearsDeclared : {A : Type 0} → Heard → Option A → ℕ → Type 0
HearsDeclared h None r = IsRefusedAs h 32
HearsDeclared h (Some x) r = NamesReplicas h r r

abbrev pub HearsSaid : List Declaration → Heard → Said → Type 0
HearsSaid ds h (show r) = NamesReplicas h r r
HearsSaid ds h (tell r o n ws) = HearsDeclared h (declared_operation ds (named_operation o n ws)) r
HearsSaid ds h (sync a b) = NamesReplicas h a b
HearsSaid ds h (summary r) = NamesReplicas h r r
HearsSaid ds h (lacks r rs v) = NamesReplicas h r r
HearsSaid ds h (merge r os) = HearsDeclared h (declared_operations ds os) r

abbrev pub HearsRead : List Declaration → Heard → Result Said LineFault → Type 0
HearsRead ds h (Ok said) = HearsSaid ds h said
HearsRead ds h (Err fault.BadLine) = IsRefusedAs h 30
HearsRead ds h (Err fault.Shape) = IsRefusedAs h 31
HearsRead ds h (Err fault.Memory) = ⊥

-- what is heard of a line: a blank one is passed over, and any other is taken or refused by what it says
abbrev pub HearsLine : List Declaration → Heard → List ℕ → Type 0
HearsLine ds h line = MatchBool (is_blank_line line) (h ≡ heard.Blank) (HearsRead ds h (line_said line))
