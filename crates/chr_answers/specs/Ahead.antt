-- Lines that were read before their turn.
use Rattle.std.specs.Prelude.{ℕ, List, All, IfSome}
use Rattle.std.specs.Vec.Iter.{into_iter_items}
use Rattle.chr_base.specs.declared.program.Program.{Program}
use Rattle.chr_answers.specs.declared.ahead.Ahead.{Ahead}
use Rattle.chr_answers.specs.Gathered.{AreTells}
use Rattle.chr_answers.specs.Requests.{IsHeard}

-- what was read of a text's lines is what they ask for
pub record IsAhead (p : Program) (text : List ℕ) (a : Ahead) : Type 0 where
  pub tells : IfSome a.tells (AreTells p text)
  pub heard : All (IsHeard p text) (into_iter_items a.heard)
