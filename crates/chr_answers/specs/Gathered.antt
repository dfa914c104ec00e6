-- Tells that were read together, and rested.
use Rattle.std.specs.Prelude.{◌≡◌, ◌<◌, ℕ, List, [], ◌∷◌, All}
use Rattle.chr_base.specs.declared.program.Program.{Program}
use Rattle.chr_base.specs.FinBag.{◌⊕◌}
use Rattle.chr_base.specs.Programs.{rules_of}
use Rattle.chr_base.specs.Rewriting.{Reaches}
use Rattle.chr_base.specs.Rules.{Step}
use Rattle.chr_base.specs.Stores.{Store}
use Rattle.chr_ops.specs.Operations.{Operation, sum_of}
use Rattle.chr_replica.specs.Replicas.{IsDeclared}
use Rattle.chr_answers.specs.declared.tells.Tells.{Tells}
use Rattle.chr_answers.specs.declared.request.Request.TheVariants as request
use Rattle.chr_answers.specs.Requests.{AsksFirst}

-- the first lines of a text's last `left` bytes tell the replica r these operations, and `more` bytes come after them
abbrev pub TellFirst : Program → List ℕ → ℕ → ℕ → List Operation → ℕ → Type 0
TellFirst p text r left [] more = left ≡ more
TellFirst p text r left (op ∷ ops) more =
    (mid : ℕ) × AsksFirst p text left mid (request.Tell r op) × TellFirst p text r mid ops more

-- a store and the atoms of operations reach another one
abbrev pub ReachTogether : Program → Store → List Operation → Store → Type 0
ReachTogether p before ops s = Reaches (Step (rules_of p)) (before ⊕ sum_of ops) s

-- the program declares the operations, and what was rested is reached by their atoms together with those that were
-- carried
pub record AreRested (p : Program) (t : Tells) : Type 0 where
  pub declared : All (IsDeclared p) t.ops.items
  pub reached : ReachTogether p t.carried.part t.ops.items t.rested

-- lines of the text, one at least, tell the operations, and their atoms were rested
pub record AreTells (p : Program) (text : List ℕ) (t : Tells) : Type 0 where
  pub some : t.more < t.left
  pub lines : TellFirst p text t.replica t.left t.ops.items t.more
  pub rested : AreRested p t
