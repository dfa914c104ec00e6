-- A node that takes in what others have told.
use Rattle.std.specs.Prelude.{◌≡◌, ℕ, List}
use Rattle.chr_base.specs.declared.program.Program.{Program}
use Rattle.chr_ops.specs.Operations.{Operations}
use Rattle.chr_node.specs.declared.node.Node.{Node}
use Rattle.chr_node.specs.Nodes.{Keeps}

-- The node keeps what it holds and its own feed, and may hold more of others.
pub record Hears {D H : Type 0} (seen : D → List ℕ) (operations : H → Operations) (program : H → Program)
    (old new : Node D H) : Type 0 where
  pub keeps : Keeps seen operations program (Unit {0}) old new
  pub feed : new.feed ≡ old.feed
  pub last : new.last ≡ old.last
