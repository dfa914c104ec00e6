-- Talks: a run of a node, the folder whose other files it hears, and what its caller was told.
use Rattle.std.specs.Prelude.{◌≡◌, ℕ, Bool, List}
use Rattle.chr_base.specs.declared.program.Program.{Program}
use Rattle.chr_ops.specs.Operations.{Operations}
use Rattle.chr_node.specs.declared.node.Node.{Node}
use Rattle.chr_node.specs.Nodes.{IsCommitted, IsOwner, Keeps}
use Rattle.chr_node_talk.specs.declared.talk.Talk.{Talk}
use Rattle.chr_node_talk.specs.Moments.{Run, Moment}

abbrev pub run_of : {D H F : Type 0} → (H → Program) → Talk D H F → Run
run_of program t = record { program = program t.node.holder; origin = t.node.origin; before = t.before }

abbrev pub moment_of : {D H F : Type 0} → (H → Operations) → Talk D H F → Moment
moment_of operations t = record { operations = operations t.node.holder; last = t.node.last; shown = t.shown }

-- A talk goes on with its node: it is the same run, over a feed that is not written.
pub record Stays {D H F : Type 0} (seen : D → List ℕ) (operations : H → Operations) (program : H → Program)
    (is_clean : F → Type 0) (old new : Talk D H F) : Type 0 where
  pub keeps : Keeps seen operations program (is_clean new.folder) old.node new.node
  pub feed : new.node.feed ≡ old.node.feed
  pub before : new.before ≡ old.before
  pub clean : is_clean new.folder → is_clean old.folder

-- The node can be told more: nothing waits, its feed is at rest, and tells what the node holds of its own.
pub record IsReady {D H : Type 0} (seen : D → List ℕ) (may_leave : D → List ℕ → Type 0) (is_usable : D → Bool)
    (operations : H → Operations) (program : H → Program) (node : Node D H) : Type 0 where
  pub committed : IsCommitted seen may_leave is_usable node
  pub owner : IsOwner seen operations program node
