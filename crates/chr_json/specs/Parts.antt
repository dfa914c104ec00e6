-- What the readers of a value, and of its parts, answer.
use Rattle.std.specs.Prelude.{◌≡◌, List, ◌++◌, Option, Some, None, option_map, Result, Ok, Err, ⊤}
use Rattle.serde_json.specs.Data.{Data}
use Rattle.serde_json.specs.View.{view as data_of}
use Rattle.serde_json.specs.declared.value.Value.{Value}
use Rattle.chr_json.specs.declared.fault.LineFault.{LineFault}
use Rattle.chr_json.specs.declared.fault.LineFault.TheVariants as fault

-- memory may run out, and a part of another shape is not read
abbrev pub FailsPart : {Y : Type 0} → LineFault → Option Y → Type 0
FailsPart fault.Memory there = ⊤
FailsPart fault.BadLine there = ⊥
FailsPart fault.Shape there = there ≡ None

-- the part, seen as view does, is what stands there
abbrev pub GivesPart : {X Y : Type 0} → (X → Y) → Result X LineFault → Option Y → Type 0
GivesPart view (Ok x) there = there ≡ Some (view x)
GivesPart view (Err e) there = FailsPart e there

-- the parts that stand there came behind those that were found before
abbrev pub AddsParts : {X Y : Type 0} → Result X LineFault → List Y → List Y → Option (List Y) → Type 0
AddsParts (Ok x) old new there = option_map (λ ys. old ++ ys) there ≡ Some new
AddsParts (Err e) old new there = FailsPart e there

-- memory may run out, and other bytes are no value
abbrev pub FailsValue : LineFault → Option Data → Type 0
FailsValue fault.Memory json = ⊤
FailsValue fault.BadLine json = json ≡ None
FailsValue fault.Shape json = ⊥

-- the value is that of the bytes
abbrev pub GivesValue : Result Value LineFault → Option Data → Type 0
GivesValue (Ok v) json = json ≡ Some (data_of v)
GivesValue (Err e) json = FailsValue e json
