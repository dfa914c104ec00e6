-- Runs of nodes, each of which writes one feed, and what crashes and copies leave of it.
use Rattle.std.specs.Prelude.{◌≡◌, ℕ, List, [], ◌∷◌, ◌++◌}
use Rattle.std.specs.List.{Contains, flat_map}
use Rattle.chr_ops.specs.Operations.{Operation}
use Rattle.chr_records.specs.Records.{records_of, IsFront}
use Rattle.chr_feeds.specs.Files.{IsGrown}
use Rattle.chr_node_laws.specs.Folders.{told_by, HasOneBag}

-- The batches of texts that a run appends to its feed, under its own origin: those whose calls were answered, and the
-- one in whose call a crash or a fault ended the run. No text is in that where the run ended between two calls.
pub record Run : Type 0 where
  pub origin : ℕ
  pub answered : List (List (List ℕ))
  pub cut : List (List ℕ)

-- the texts that were acknowledged
abbrev pub acknowledged : Run → List (List ℕ)
acknowledged r = flat_map (λ batch. batch) r.answered

-- all texts that it was told
abbrev pub told : Run → List (List ℕ)
told r = acknowledged r ++ r.cut

-- Calls that were answered lead from one content of a file to another, as the clause `durable` of `Feed::append` says
-- of each.
abbrev pub Keeps : List (List (List ℕ)) → List ℕ → List ℕ → Type 0
Keeps [] old new = new ≡ old
Keeps (batch ∷ batches) old new =
    (next : List ℕ) × (records_of next ≡ records_of old ++ batch) × Keeps batches next new

-- The run has left this file: it was made without a record, the calls that were answered kept their batches, and of the
-- last one a front is there, as the clause `any_moment` of `Feed::append` says.
pub record IsLeftBy (r : Run) (file : List ℕ) : Type 0 where
  pub made : List ℕ
  pub none : records_of made ≡ []
  pub last : List ℕ
  pub keeps : Keeps r.answered made last
  pub grown : IsGrown (records_of last) r.cut file

-- Each file is a copy of what some run has told, up to some record, however often and whenever it was copied.
abbrev pub AreCopies : List Run → List (List ℕ) → Type 0
AreCopies runs files =
    (file : List ℕ) → Contains files file → (r : Run) × Contains runs r × IsFront (records_of file) (told r)

-- the operations that the run was told have its origin, and no id stands for two bags in them
pub record IsNumbered (meaning : List ℕ → List Operation) (r : Run) : Type 0 where
  pub origin : (o : Operation) → Contains (told_by meaning (told r)) o → o.0.origin ≡ r.origin
  pub one : HasOneBag (told_by meaning (told r))

-- each run numbers its operations, and no two runs have one origin
pub record AreNumbered (meaning : List ℕ → List Operation) (runs : List Run) : Type 0 where
  pub each : (r : Run) → Contains runs r → IsNumbered meaning r
  pub different : (r s : Run) → Contains runs r → Contains runs s → r.origin ≡ s.origin → r ≡ s
