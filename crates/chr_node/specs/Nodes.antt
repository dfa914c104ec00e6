-- A node: what it holds, of which files, and what of that is on its disk.
use Rattle.std.specs.Prelude.{◌≡◌, ℕ, ◌+◌, ◌≤◌, List, [], ◌∷◌, ◌++◌, Bool}
use Rattle.std.specs.List.{Contains}
use Rattle.chr_base.specs.declared.program.Program.{Program}
use Rattle.chr_base.specs.ProgramTests.{Declaration}
use Rattle.chr_base.specs.Programs.{declarations}
use Rattle.chr_ops.specs.declared.id.OpId.{OpId}
use Rattle.chr_ops.specs.Operations.{Operation, Operations, IsHeld}
use Rattle.chr_records.specs.Records.{records_of, IsWhole}
use Rattle.chr_feeds.specs.Feeds.{IsAtRest}
use Rattle.chr_node_laws.specs.Folders.{told_by, told_in, HoldsJust}
use Rattle.chr_node_records.specs.Texts.{operations_in}
use Rattle.chr_node.specs.declared.node.Node.{Node}

-- no operation that is held has the origin and a number after the last
abbrev pub AreNumberedUpTo : Operations → ℕ → ℕ → Type 0
AreNumberedUpTo m origin last = (o : Operation) → IsHeld m o → o.0.origin ≡ origin → o.0.number ≤ last

-- what is held, the second set holds
abbrev pub AreHeldIn : Operations → Operations → Type 0
AreHeldIn m n = (o : Operation) → IsHeld m o → IsHeld n o

-- each operation that is held and has the origin is told by these files
abbrev pub AreToldBy : Operations → List Declaration → List (List ℕ) → ℕ → Type 0
AreToldBy m ds files origin =
    (o : Operation) → IsHeld m o → o.0.origin ≡ origin → Contains (told_in (operations_in ds) files) o

-- The records that wait are whole. They and the feed tell what is held of the origin.
pub record Owns (m : Operations) (ds : List Declaration) (feed waiting : List ℕ) (origin : ℕ) : Type 0 where
  pub whole : IsWhole waiting
  pub told : AreToldBy m ds (feed ∷ waiting ∷ []) origin

-- a node's own operations are told by its feed and the records that wait, whatever files it has taken in
abbrev pub IsOwner : {D H : Type 0} → (D → List ℕ) → (H → Operations) → (H → Program) → Node D H → Type 0
IsOwner seen operations program node =
    Owns (operations node.holder) (declarations (program node.holder)) (seen node.feed.disk) node.waiting.items
    node.origin

-- The set holds just what the files tell: that of the feed, the records that wait, and others. Of the origin's numbers
-- those after the last are free.
pub record HoldsFiles (m : Operations) (ds : List Declaration) (feed waiting : List ℕ) (others : List (List ℕ))
    (origin last : ℕ) : Type 0 where
  pub held : HoldsJust m (told_in (operations_in ds) (feed ∷ waiting ∷ others))
  pub waiting_whole : IsWhole waiting
  pub numbered : AreNumberedUpTo m origin last

-- a node holds just what its feed, the records that wait for the next commit, and other files tell
abbrev pub IsNode : {D H : Type 0} → (D → List ℕ) → (H → Operations) → (H → Program) → List (List ℕ) → Node D H
    → Type 0
IsNode seen operations program others node =
    HoldsFiles (operations node.holder) (declarations (program node.holder)) (seen node.feed.disk) node.waiting.items
    others node.origin node.last

-- What becomes of a node by calls that tell it more, take files in, or write. What it holds grows, of more files where
-- no disk that was read has told a lie, and its own operations stay its own.
pub record Keeps {D H : Type 0} (seen : D → List ℕ) (operations : H → Operations) (program : H → Program)
    (clean : Type 0) (old new : Node D H) : Type 0 where
  pub grows : AreHeldIn (operations old.holder) (operations new.holder)
  pub files : clean → (others : List (List ℕ)) → IsNode seen operations program others old
      → (more : List (List ℕ)) × IsNode seen operations program (more ++ others) new
  pub owner : IsOwner seen operations program old → IsOwner seen operations program new
  pub same_program : program new.holder ≡ program old.holder
  pub same_origin : new.origin ≡ old.origin

-- Nothing waits: what the node was told is in its feed, which is at rest, so that each crash leaves it.
pub record IsCommitted {D H : Type 0} (seen : D → List ℕ) (may_leave : D → List ℕ → Type 0) (is_usable : D → Bool)
    (node : Node D H) : Type 0 where
  pub none : node.waiting.items ≡ []
  pub at_rest : IsAtRest seen may_leave is_usable node.feed

-- Whatever a crash leaves has the operation among its records.
abbrev pub IsKept : (List ℕ → Type 0) → List Declaration → Operation → Type 0
IsKept outcomes ds o =
    (file : List ℕ) → outcomes file → Contains (told_by (operations_in ds) (records_of file)) o

-- whatever a crash leaves has each operation that is held and has the origin
abbrev pub KeepsOwn : (List ℕ → Type 0) → List Declaration → Operations → ℕ → Type 0
KeepsOwn outcomes ds m origin = (o : Operation) → IsHeld m o → o.0.origin ≡ origin → IsKept outcomes ds o

-- the id is the one that the node's next operation has
abbrev pub IsNext : {D H : Type 0} → Node D H → OpId → Type 0
IsNext node id = (id.origin ≡ node.origin) × (id.number ≡ node.last + 1)
