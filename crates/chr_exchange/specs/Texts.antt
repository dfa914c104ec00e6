-- The texts of messages: compact JSON, in one order.
use Rattle.std.specs.Prelude.{ℕ, List, map}
use Rattle.std.specs.FinMap as finite
use Rattle.std.specs.List.{IsDistinct}
use Rattle.std.specs.Ordering.{eq_by_cmp}
use Rattle.serde_json.specs.Written.{compact_text}
use Rattle.chr_base.specs.declared.atom.Atom.{Atom}
use Rattle.chr_base.specs.ProgramTests.{Declaration}
use Rattle.chr_base.specs.Texts.{name_of, in_print_order}
use Rattle.chr_json.specs.NamedAtoms.{NamedAtom}
use Rattle.chr_json.specs.Deltas.{NamedOperation}
use Rattle.chr_json.specs.Messages.{summary_data, delta_1_data, delta_2_data}
use Rattle.chr_ops.specs.declared.range.IdRange.{IdRange}
use Rattle.chr_ops.specs.Ids.{id_cmp}
use Rattle.chr_ops.specs.Operations.{Operation, Operations}
use Rattle.chr_ops.specs.Summaries.{lacking}

-- the text of a summary with these ranges, in the order in which they stand
abbrev pub summary_text : List IdRange → List ℕ
summary_text rs = compact_text (summary_data rs)

abbrev pub spelt_atom : List Declaration → Atom → NamedAtom
spelt_atom ds a = record { name = name_of ds a; args = a.args.items }

-- an operation as it is spelt: its atoms in the order of texts of stores
abbrev pub spelt : List Declaration → Operation → NamedOperation
spelt ds o = record { id = o.0; atoms = map (spelt_atom ds) (in_print_order ds o.1) }

-- no two of the operations have one id
abbrev pub HaveDifferentIds : List Operation → Type 0
HaveDifferentIds os = IsDistinct (eq_by_cmp id_cmp) (map (λ o. o.0) os)

-- what a set holds beyond some ranges has different ids
abbrev pub LackedIdsDiffer : Type 0
LackedIdsDiffer = (m : Operations) (rs : List IdRange) → HaveDifferentIds (lacking m rs)

-- the text of a delta of version 2, and of version 1, with the operations of a set in the order of ids
abbrev pub delta_text : List Declaration → Operations → List ℕ
delta_text ds m = compact_text (delta_2_data (map (spelt ds) (finite.entries m)))

abbrev pub delta_text_1 : List Declaration → Operations → List ℕ
delta_text_1 ds m = compact_text (delta_1_data (map (spelt ds) (finite.entries m)))
