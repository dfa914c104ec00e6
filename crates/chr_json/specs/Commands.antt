-- Commands over JSON values, by their shape alone.
use Rattle.std.specs.Prelude.{ℕ, List, [], ◌∷◌, if◌then◌else◌, Option, Some, None, option_map, option_and_then, codes}
use Rattle.serde_json.specs.Data.{Data}
use Rattle.chr_ops.specs.declared.range.IdRange.{IdRange}
use Rattle.chr_json.specs.declared.command.DeltaVersion.{DeltaVersion}
use Rattle.chr_json.specs.declared.command.DeltaVersion.TheVariants as version
use Rattle.chr_json.specs.Values.{elements, natural_of, is_string}
use Rattle.chr_json.specs.NamedAtoms.{NamedAtom, named_atoms_of, id_of}
use Rattle.chr_json.specs.Summaries.{summary_of}
use Rattle.chr_json.specs.Deltas.{NamedOperation, is_natural, delta_of}

-- what a command says
pub data Said : Type 0 where
  -- a replica
  show : ℕ → Said
  -- a replica, an origin, the operation's number there, and the operation's atoms
  tell : ℕ → ℕ → ℕ → List NamedAtom → Said
  -- the replica whose operations are wanted, and the one that is to have them
  sync : ℕ → ℕ → Said
  -- a replica
  summary : ℕ → Said
  -- a replica, the ranges of a summary, and the version of the delta that is wanted
  lacks : ℕ → List IdRange → DeltaVersion → Said
  -- a replica, and the operations of a delta
  merge : ℕ → List NamedOperation → Said

abbrev pub tell_of : Data → Data → Data → Option Said
tell_of r id atoms =
    option_and_then
    (λ replica. option_and_then (λ p. option_map (tell replica p.0 p.1) (named_atoms_of atoms)) (id_of id))
    (natural_of r)

abbrev pub sync_of : Data → Data → Option Said
sync_of from to = option_and_then (λ a. option_map (sync a) (natural_of to)) (natural_of from)

abbrev pub lacks_of : Data → Data → DeltaVersion → Option Said
lacks_of r held v = option_and_then (λ replica. option_map (λ rs. lacks replica rs v) (summary_of held)) (natural_of r)

abbrev pub merge_of : Data → Data → Option Said
merge_of r delta = option_and_then (λ replica. option_map (merge replica) (delta_of delta)) (natural_of r)

-- the number 1 or 2
abbrev pub version_of : Data → Option DeltaVersion
version_of d = if is_natural 1 d then Some version.One else if is_natural 2 d then Some version.Two else None

-- a command's word, and what it takes: one thing, two or three
abbrev pub command_of_one : Data → Data → Option Said
command_of_one w r =
    if is_string (codes "show") w then option_map show (natural_of r)
    else if is_string (codes "summary") w then option_map summary (natural_of r) else None

abbrev pub command_of_two : Data → Data → Data → Option Said
command_of_two w r d =
    if is_string (codes "sync") w then sync_of r d
    else if is_string (codes "lacks") w then lacks_of r d version.Two
    else if is_string (codes "merge") w then merge_of r d else None

abbrev pub command_of_three : Data → Data → Data → Data → Option Said
command_of_three w r d e =
    if is_string (codes "tell") w then tell_of r d e
    else if is_string (codes "lacks") w then option_and_then (lacks_of r d) (version_of e) else None

-- the command of an array of a word and what it takes
abbrev pub command_from : List Data → Option Said
command_from [] = None
command_from (w ∷ []) = None
command_from (w ∷ r ∷ []) = command_of_one w r
command_from (w ∷ r ∷ d ∷ []) = command_of_two w r d
command_from (w ∷ r ∷ d ∷ e ∷ []) = command_of_three w r d e
command_from (w ∷ r ∷ d ∷ e ∷ f ∷ ds) = None

abbrev pub command_of : Data → Option Said
command_of d = option_and_then command_from (elements d)
