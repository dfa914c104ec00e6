-- What nodes show whose operations a board holds.
use Rattle.std.specs.Prelude.{ℕ, List, ◌∷◌}
use Rattle.chr_base.specs.declared.program.Program.{Program}
use Rattle.chr_base.specs.Programs.{declarations, rules_of}
use Rattle.chr_base.specs.Stores.{Store}
use Rattle.chr_ops.specs.Operations.{Operations}
use Rattle.chr_replica.specs.Boards.{Held, program_on}
use Rattle.chr_node_laws.specs.Folders.{Shows}
use Rattle.chr_node_records.specs.Texts.{operations_in}
use Rattle.chr_node.specs.declared.node.Node.{Node}
use Rattle.chr_node.specs.Nodes.{IsNode}

-- the operations that a board holds
abbrev pub operations_on : Held → Operations
operations_on b = b.replica.operations

-- a node of other files, whose operations a board holds
abbrev pub IsBoardNode : {D : Type 0} → (D → List ℕ) → List (List ℕ) → Node D Held → Type 0
IsBoardNode seen others node = IsNode seen operations_on program_on others node

-- the files that tell a node's operations: its feed, the records that wait, and the others
abbrev pub files_of : {D : Type 0} → (D → List ℕ) → List (List ℕ) → Node D Held → List (List ℕ)
files_of seen others node = seen node.feed.disk ∷ node.waiting.items ∷ others

-- a node of a program that has read these files shows the store
abbrev pub ShowsBy : Program → List (List ℕ) → Store → Type 0
ShowsBy p files store = Shows (rules_of p) (operations_in (declarations p)) files store
