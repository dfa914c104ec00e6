-- What a line asks of a node.
use Rattle.std.specs.Prelude.{◌≡◌, ◌≢◌, ℕ, ℤ, List, [], ◌∷◌, Bool, if◌then◌else◌, length, position, Option, Some, None}
use Rattle.std.specs.Prelude.{is_some, option_map, option_and_then, Result, Ok, Err, string_bytes, codes}
use Rattle.std.specs.List.{list_any}
use Rattle.std.specs.Str.{bytes_eq}
use Rattle.serde_json.specs.Data.{Data}
use Rattle.serde_json.specs.Find.{as_null, as_str}
use Rattle.chr_base.specs.ProgramTests.{Declaration, declares}
use Rattle.chr_base.specs.Traversals.{each}
use Rattle.chr_json.specs.Values.{elements, integer_of, is_string, json_in, natural_of}
use Rattle.chr_json.specs.NamedAtoms.{NamedAtom, named_atoms_of}
use Rattle.chr_json.specs.Deltas.{NamedOperation, named_operation}
use Rattle.chr_json.specs.Lines.{has_line_length}
use Rattle.chr_ops.specs.declared.id.OpId.{OpId}
use Rattle.chr_ops.specs.Operations.{Operation}
use Rattle.chr_exchange.specs.Names.{declared_operation, named_atom}
use Rattle.chr_node_lines.specs.declared.fault.Refusal.{Refusal}
use Rattle.chr_node_lines.specs.declared.fault.Refusal.TheVariants as refusal
use Rattle.chr_node_lines.specs.declared.word.Word.{Word}
use Rattle.chr_node_lines.specs.declared.word.Word.TheVariants as word
use Rattle.chr_node_lines.specs.declared.request.Request.{Request}
use Rattle.chr_node_lines.specs.declared.request.Request.TheVariants as request
use Rattle.chr_queries.specs.declared.wanted.Wanted.{Wanted}

-- what a line asks, in atoms of a program
pub data Asked : Type 0 where
  -- to tell an operation; the number that the caller expects, if it says one
  tell : Option ℕ → Operation → Asked
  last : Asked
  -- the atoms of one name, or all
  show : Option (List ℕ) → Asked
  find : Wanted → Asked
  count : Wanted → Asked
  changes : Asked
  status : Asked

-- what a request of the code stands for
abbrev pub request_view : Request → Asked
request_view (request.Tell expected op) = tell expected op
request_view request.Last = last
request_view (request.Show name) = show (option_map string_bytes name)
request_view (request.Find w) = find w
request_view (request.Count w) = count w
request_view request.Changes = changes
request_view request.Status = status

-- ---- words

abbrev pub word_of : Data → Option Word
word_of d =
    if is_string (codes "tell") d then Some word.Tell
    else if is_string (codes "last") d then Some word.Last
    else if is_string (codes "show") d then Some word.Show
    else if is_string (codes "find") d then Some word.Find
    else if is_string (codes "count") d then Some word.Count
    else if is_string (codes "changes") d then Some word.Changes
    else if is_string (codes "status") d then Some word.Status else None

-- ---- names

-- some symbol has this name, with whatever number of arguments
abbrev pub has_name : List Declaration → List ℕ → Bool
has_name ds name = list_any (λ d. bytes_eq d.name name) ds

-- why there is no symbol of this name with some number of arguments
abbrev pub cause_of_name : List Declaration → List ℕ → Refusal
cause_of_name ds name = if has_name ds name then refusal.WrongArity else refusal.UnknownSymbol

-- the cause of the first atom that is not declared
abbrev pub cause_of_atoms : List Declaration → List NamedAtom → Refusal
cause_of_atoms ds [] = refusal.UnknownSymbol
cause_of_atoms ds (w ∷ ws) =
    if is_some (named_atom ds w) then cause_of_atoms ds ws else cause_of_name ds w.name

-- ---- what each word takes

-- nothing
abbrev pub alone : Asked → List Data → Result Asked Refusal
alone q [] = Ok q
alone q (d ∷ ds) = Err refusal.WrongArguments

-- an operation of the program's atoms
abbrev pub operation_told : List Declaration → Option ℕ → NamedOperation → Option Operation → Result Asked Refusal
operation_told ds expected o None = Err (cause_of_atoms ds o.atoms)
operation_told ds expected o (Some op) = Ok (tell expected op)

abbrev pub named_told : List Declaration → Option ℕ → Option NamedOperation → Result Asked Refusal
named_told ds expected None = Err refusal.WrongArguments
named_told ds expected (Some o) = operation_told ds expected o (declared_operation ds o)

-- atoms, which make the operation of an id
abbrev pub atoms_told : List Declaration → OpId → Option ℕ → Data → Result Asked Refusal
atoms_told ds id expected atoms =
    named_told ds expected (option_map (named_operation id.origin id.number) (named_atoms_of atoms))

-- the number that is expected, and atoms
abbrev pub numbered_told : List Declaration → OpId → Option ℕ → Data → Result Asked Refusal
numbered_told ds id None atoms = Err refusal.WrongArguments
numbered_told ds id (Some n) atoms = atoms_told ds id (Some n) atoms

-- atoms, or a number and atoms
abbrev pub told_by : List Declaration → OpId → List Data → Result Asked Refusal
told_by ds id [] = Err refusal.WrongArguments
told_by ds id (atoms ∷ []) = atoms_told ds id None atoms
told_by ds id (n ∷ atoms ∷ []) = numbered_told ds id (natural_of n) atoms
told_by ds id (n ∷ atoms ∷ d ∷ more) = Err refusal.WrongArguments

abbrev pub shown_name : List Declaration → Option (List ℕ) → Result Asked Refusal
shown_name ds None = Err refusal.WrongArguments
shown_name ds (Some name) = if has_name ds name then Ok (show (Some name)) else Err refusal.UnknownSymbol

-- nothing, or a name
abbrev pub shown_by : List Declaration → List Data → Result Asked Refusal
shown_by ds [] = Ok (show None)
shown_by ds (name ∷ []) = shown_name ds (as_str name)
shown_by ds (name ∷ d ∷ more) = Err refusal.WrongArguments

-- a wanted value, or null where any will do
abbrev pub wanted_of : Data → Option (Option ℤ)
wanted_of d = if is_some (as_null d) then Some None else option_map Some (integer_of d)

-- a name, and as many arguments as its symbol has
pub record NamedPattern : Type 0 where
  pub name : List ℕ
  pub args : List (Option ℤ)

abbrev pub pattern_from : List Data → Option NamedPattern
pattern_from [] = None
pattern_from (d ∷ ds) =
    option_and_then (λ name. option_map (λ ws. record { name = name; args = ws }) (each wanted_of ds)) (as_str d)

abbrev pub pattern_of : Data → Option NamedPattern
pattern_of d = option_and_then pattern_from (elements d)

abbrev pub placed : List Declaration → NamedPattern → Option ℕ → Result Wanted Refusal
placed ds p None = Err (cause_of_name ds p.name)
placed ds p (Some i) = Ok (record { symbol = record { 0 = i }; places = record { items = p.args } })

-- what a pattern wants, in the program's symbols
abbrev pub declared_pattern : List Declaration → Option NamedPattern → Result Wanted Refusal
declared_pattern ds None = Err refusal.WrongArguments
declared_pattern ds (Some p) = placed ds p (position (declares p.name (length p.args)) ds)

-- a pattern
abbrev pub sought_by : List Declaration → List Data → Result Wanted Refusal
sought_by ds [] = Err refusal.WrongArguments
sought_by ds (p ∷ []) = declared_pattern ds (pattern_of p)
sought_by ds (p ∷ d ∷ more) = Err refusal.WrongArguments

abbrev pub sought_as : (Wanted → Asked) → Result Wanted Refusal → Result Asked Refusal
sought_as f (Ok w) = Ok (f w)
sought_as f (Err e) = Err e

-- ---- lines

-- what a word asks of a node whose next operation has this id
abbrev pub asked_by : List Declaration → OpId → Word → List Data → Result Asked Refusal
asked_by ds id word.Tell args = told_by ds id args
asked_by ds id word.Last args = alone last args
asked_by ds id word.Show args = shown_by ds args
asked_by ds id word.Find args = sought_as find (sought_by ds args)
asked_by ds id word.Count args = sought_as count (sought_by ds args)
asked_by ds id word.Changes args = alone changes args
asked_by ds id word.Status args = alone status args

abbrev pub worded : List Declaration → OpId → Option Word → List Data → Result Asked Refusal
worded ds id None args = Err refusal.NoWord
worded ds id (Some w) args = asked_by ds id w args

abbrev pub elements_ask : List Declaration → OpId → Option (List Data) → Result Asked Refusal
elements_ask ds id None = Err refusal.NoWord
elements_ask ds id (Some []) = Err refusal.NoWord
elements_ask ds id (Some (w ∷ args)) = worded ds id (word_of w) args

-- what a JSON value asks: an array of a word and what it takes
abbrev pub value_asks : List Declaration → OpId → Data → Result Asked Refusal
value_asks ds id d = elements_ask ds id (elements d)

abbrev pub json_asks : List Declaration → OpId → Option Data → Result Asked Refusal
json_asks ds id None = Err refusal.BadLine
json_asks ds id (Some d) = value_asks ds id d

-- what a line asks, or the first cause for which it is refused
abbrev pub line_asks : List Declaration → OpId → List ℕ → Result Asked Refusal
line_asks ds id line = if has_line_length line then json_asks ds id (json_in line) else Err refusal.BadLine

-- a refusal for want of memory says nothing, and every other is the line's own
abbrev pub Fails : {A : Type 0} → Refusal → Result A Refusal → Type 0
Fails e asked = e ≢ refusal.Memory → asked ≡ Err e

-- the answer of the code, seen as `view` does, is what is asked
abbrev pub Gives : {X A : Type 0} → (X → A) → Result X Refusal → Result A Refusal → Type 0
Gives view (Ok x) asked = asked ≡ Ok (view x)
Gives view (Err e) asked = Fails e asked
