-- What a line says has arguments of 64 bits: the reader of JSON gives whole numbers no others.
use Rattle.std.specs.Prelude.{◌≡◌, ℕ, zero, suc, ◌≤◌, ◌^◌, pos, neg_ℤ, List, [], ◌∷◌, ◌++◌, length, drop, slice_index}
use Rattle.std.specs.Prelude.{Bool, true, false, ◌&&◌, ◌==◌, cond, nat_lt, nat_le, Option, Some, None, option_map}
use Rattle.std.specs.Prelude.{option_and_then, Result, Err, IfSome, IfOk, FitsSigned, codes, ⊤}
use Rattle.std.proofs.Common.{refl, arith}
use Rattle.std.proofs.lemmas.Bool.Decides.{nat_tests}
use Rattle.std.specs.Int.{w64}
use Rattle.std.specs.List.{AllByRecursion}
use Rattle.std.specs.Str.{is_utf8}
use Rattle.std.specs.Float.{binary64, float_is_finite}
use Rattle.std.specs.Float.Numeral.{minus, Parts, scan_numeral, numeral_digits, nearest_float}
use Rattle.json.specs.Json as json
use Rattle.json.specs.Lex.{tokens}
use Rattle.serde_json.specs.Data.{Num, unsigned, negative, float, Data, null, boolean, number, string, array, object}
use Rattle.serde_json.specs.Data.{Items, no_items, item, no_members}
use Rattle.serde_json.specs.Find.{as_array, as_str, as_i64}
use Rattle.serde_json.specs.Read.{is_integer, float_of, number_from, number_of, of_json, of_items, of_members}
use Rattle.serde_json.specs.Read.{max_depth, read}
use Rattle.std.specs.Option.{ok_or}
use Rattle.chr_json.specs.declared.fault.LineFault.{LineFault}
use Rattle.chr_json.specs.declared.fault.LineFault.TheVariants as fault
use Rattle.chr_base.specs.declared.limits.TheConstants.{MAX_OPERATION}
use Rattle.chr_base.specs.Traversals.{each}
use Rattle.chr_json.specs.Values.{json_in, listed, elements, joined, natural_of, integer_of, origin_of, is_string}
use Rattle.chr_json.specs.NamedAtoms.{named_atom_from, named_atom_of, named_atoms_from, named_atoms_of, id_of}
use Rattle.chr_json.specs.declared.command.DeltaVersion.{DeltaVersion}
use Rattle.chr_json.specs.declared.command.DeltaVersion.TheVariants as version
use Rattle.chr_json.specs.Summaries.{summary_of}
use Rattle.chr_json.specs.Deltas.{NamedOperation, named_operation, operation_with, operation_from, operation_of}
use Rattle.chr_json.specs.Deltas.{numbered_from, numbered_of, all_numbered_of, group_from, group_of, groups_of}
use Rattle.chr_json.specs.Deltas.{is_natural, begins_with_number, delta_2_from, delta_from, delta_of}
use Rattle.chr_json.specs.Commands.{Said, show, tell, sync, summary, lacks, merge, tell_of, sync_of, lacks_of, merge_of}
use Rattle.chr_json.specs.Commands.{version_of, command_of_one, command_of_two, command_of_three, command_from}
use Rattle.chr_json.specs.Commands.{command_of}
use Rattle.chr_json.specs.Printed.{ArgumentsFit}
use Rattle.chr_json.specs.Lines.{has_line_length}
use Rattle.chr_json.specs.Reads.{value_said, line_said}

-- a whole number has 64 bits
abbrev pub HasRange : Num → Type 0
HasRange n = IfSome (as_i64 n) (FitsSigned w64)

-- each whole number in the arrays of a value, at any depth, has 64 bits
abbrev mutual
  pub HasRanges : Data → Type 0
  HasRanges null = ⊤
  HasRanges (boolean b) = ⊤
  HasRanges (number n) = HasRange n
  HasRanges (string s) = ⊤
  HasRanges (array ds) = HaveRanges ds
  HasRanges (object ms) = ⊤

  pub HaveRanges : Items → Type 0
  HaveRanges no_items = ⊤
  HaveRanges (item d ds) = HasRanges d × HaveRanges ds

abbrev pub OperationFits : NamedOperation → Type 0
OperationFits o = AllByRecursion ArgumentsFit o.atoms

-- each argument of each atom has 64 bits
abbrev pub HasFittingArguments : Said → Type 0
HasFittingArguments (show r) = ⊤
HasFittingArguments (tell r o n ws) = AllByRecursion ArgumentsFit ws
HasFittingArguments (merge r os) = AllByRecursion OperationFits os
HasFittingArguments (sync a b) = ⊤
HasFittingArguments (summary r) = ⊤
HasFittingArguments (lacks r rs v) = ⊤

-- ---- what holds of a value where there is one

pub if_map : {A B : Type 0} (P : A → Type 0) (Q : B → Type 0) (f : A → B) → ((a : A) → P a → Q (f a)) → (o : Option A)
    → IfSome o P → IfSome (option_map f o) Q
if_map P Q f k None h = tt
if_map P Q f k (Some a) h = k a h

if_then : {A B : Type 0} (P : A → Type 0) (Q : B → Type 0) (f : A → Option B) → ((a : A) → P a → IfSome (f a) Q)
    → (o : Option A) → IfSome o P → IfSome (option_and_then f o) Q
if_then P Q f k None h = tt
if_then P Q f k (Some a) h = k a h

if_either : {A : Type 0} (P : A → Type 0) (b : Bool) (o u : Option A) → (b ≡ true → IfSome o P) → IfSome u P
    → IfSome (cond b o u) P
if_either P true o u h g = h refl
if_either P false o u h g = g

pub always : {A : Type 0} (o : Option A) → IfSome o (λ _. ⊤)
always None = tt
always (Some a) = tt

pub if_each : {A B : Type 0} (P : A → Type 0) (Q : B → Type 0) (f : A → Option B) → ((a : A) → P a → IfSome (f a) Q)
    → (xs : List A) → AllByRecursion P xs → IfSome (each f xs) (AllByRecursion Q)
if_each P Q f k [] h = tt
if_each P Q f k (x ∷ xs) h =
    if_then Q (AllByRecursion Q) (λ y. option_map (λ ys. y ∷ ys) (each f xs))
    (λ y g. if_map (AllByRecursion Q) (AllByRecursion Q) (λ ys. y ∷ ys) (λ ys r. (g, r)) (each f xs)
    (if_each P Q f k xs h.1)) (f x) (k x h.0)

-- ---- what is read has ranges

small : (n : ℕ) → HasRange (unsigned n)
small n = if_either (FitsSigned w64) (nat_lt n (2 ^ 63)) (Some (pos n)) None
    (λ e. record { sfits = grind (arith, nat_tests) }) tt

below_zero : (n : ℕ) → n ≤ 2 ^ 63 → FitsSigned w64 (neg_ℤ (pos n))
below_zero zero h = record { sfits = omega arith }
below_zero (suc n) h = record { sfits = omega (arith, h) }

within : (b : Bool) (n m : ℕ) → b && nat_le n m ≡ true → n ≤ m
within b n m h = grind (arith, nat_tests)

float_ranged : (sign : Bool) (p : Parts) → IfSome (float_of sign p) HasRange
float_ranged sign p = if_either HasRange (float_is_finite (nearest_float binary64 sign p))
    (Some (float (nearest_float binary64 sign p))) None (λ _. tt) tt

number_from_ranged : (sign : Bool) (p : Parts) → IfSome (number_from sign p) HasRange
number_from_ranged false p =
    if_either HasRange (is_integer p && nat_lt (numeral_digits p) (2 ^ 64)) (Some (unsigned (numeral_digits p)))
    (float_of false p) (λ _. small (numeral_digits p)) (float_ranged false p)
number_from_ranged true p =
    if_either HasRange (is_integer p && nat_lt 0 (numeral_digits p) && nat_le (numeral_digits p) (2 ^ 63))
    (Some (negative (neg_ℤ (pos (numeral_digits p))))) (float_of true p)
    (λ e. below_zero (numeral_digits p) (within (is_integer p && nat_lt 0 (numeral_digits p)) (numeral_digits p)
    (2 ^ 63) e)) (float_ranged true p)

number_ranged : (s : List ℕ) → IfSome (number_of s) HasRange
unfolding number_of
number_ranged s =
    if_either HasRange (slice_index s 0 == minus) (number_from true (scan_numeral (drop 1 s)))
    (number_from false (scan_numeral s))
    (λ _. number_from_ranged true (scan_numeral (drop 1 s))) (number_from_ranged false (scan_numeral s))

mutual
  json_ranged : (j : json.Json) → IfSome (of_json j) HasRanges
  json_ranged json.null = tt
  json_ranged (json.boolean b) = tt
  json_ranged (json.number s) = if_map HasRange HasRanges number (λ n h. h) (number_of s) (number_ranged s)
  json_ranged (json.string s) = tt
  json_ranged (json.array js) = if_map HaveRanges HasRanges array (λ ds h. h) (of_items js) (items_ranged js)
  json_ranged (json.object ms) = if_map (λ _. ⊤) HasRanges object (λ _ h. h) (of_members ms no_members)
      (always (of_members ms no_members))

  items_ranged : (js : json.Items) → IfSome (of_items js) HaveRanges
  items_ranged json.no_items = tt
  items_ranged (json.item j js) =
      if_then HasRanges HaveRanges (λ d. option_map (item d) (of_items js))
      (λ d h. if_map HaveRanges HaveRanges (item d) (λ ds g. (h, g)) (of_items js) (items_ranged js)) (of_json j)
      (json_ranged j)

read_ranged : (text : List ℕ) → IfSome (read text) HasRanges
read_ranged text =
    if_then (λ _. ⊤) HasRanges of_json (λ j _. json_ranged j)
    (option_and_then (λ p. json.if_last p.0 p.1) (json.value max_depth (tokens text)))
    (always (option_and_then (λ p. json.if_last p.0 p.1) (json.value max_depth (tokens text))))

value_ranged : (bytes : List ℕ) → IfSome (json_in bytes) HasRanges
value_ranged bytes = if_either HasRanges (is_utf8 bytes) (read bytes) None (λ _. read_ranged bytes) tt

-- ---- what is said has words

integer_ranged : (d : Data) → HasRanges d → IfSome (integer_of d) (FitsSigned w64)
integer_ranged null h = tt
integer_ranged (boolean b) h = tt
integer_ranged (number n) h = h
integer_ranged (string s) h = tt
integer_ranged (array ds) h = tt
integer_ranged (object ms) h = tt

array_ranged : (d : Data) → HasRanges d → IfSome (as_array d) HaveRanges
array_ranged null h = tt
array_ranged (boolean b) h = tt
array_ranged (number n) h = tt
array_ranged (string s) h = tt
array_ranged (array ds) h = h
array_ranged (object ms) h = tt

listed_ranged : (ds : Items) → HaveRanges ds → AllByRecursion HasRanges (listed ds)
listed_ranged no_items h = tt
listed_ranged (item d ds) h = (h.0, listed_ranged ds h.1)

-- what is read of elements
of_elements : {B : Type 0} (Q : B → Type 0) (f : List Data → Option B)
    → ((ds : List Data) → AllByRecursion HasRanges ds → IfSome (f ds) Q) → (d : Data) → HasRanges d
    → IfSome (option_and_then f (elements d)) Q
of_elements Q f k d h = if_then (AllByRecursion HasRanges) Q f k (elements d)
    (if_map HaveRanges (AllByRecursion HasRanges) listed listed_ranged (as_array d) (array_ranged d h))

named_atom_from_fits : (ds : List Data) → AllByRecursion HasRanges ds → IfSome (named_atom_from ds) ArgumentsFit
named_atom_from_fits [] h = tt
named_atom_from_fits (d ∷ ds) h =
    if_then (λ _. ⊤) ArgumentsFit (λ name. option_map (λ zs. record { name = name; args = zs }) (each integer_of ds))
    (λ name _. if_map (AllByRecursion (FitsSigned w64)) ArgumentsFit (λ zs. record { name = name; args = zs })
    (λ zs g. g) (each integer_of ds) (if_each HasRanges (FitsSigned w64) integer_of integer_ranged ds h.1))
    (as_str d) (always (as_str d))

named_atom_fits : (d : Data) → HasRanges d → IfSome (named_atom_of d) ArgumentsFit
named_atom_fits d h = of_elements ArgumentsFit named_atom_from named_atom_from_fits d h

named_atoms_from_fit : (ds : List Data) → AllByRecursion HasRanges ds
    → IfSome (named_atoms_from ds) (AllByRecursion ArgumentsFit)
named_atoms_from_fit ds h = if_either (AllByRecursion ArgumentsFit)
    (nat_le 1 (length ds) && nat_le (length ds) MAX_OPERATION) (each named_atom_of ds) None
    (λ _. if_each HasRanges ArgumentsFit named_atom_of named_atom_fits ds h) tt

named_atoms_fit : (d : Data) → HasRanges d → IfSome (named_atoms_of d) (AllByRecursion ArgumentsFit)
named_atoms_fit d h = of_elements (AllByRecursion ArgumentsFit) named_atoms_from named_atoms_from_fit d h

tell_fits : (r id atoms : Data) → HasRanges atoms → IfSome (tell_of r id atoms) HasFittingArguments
tell_fits r id atoms h =
    if_then (λ _. ⊤) HasFittingArguments (λ replica. option_and_then
    (λ p. option_map (tell replica p.0 p.1) (named_atoms_of atoms)) (id_of id))
    (λ replica _. if_then (λ _. ⊤) HasFittingArguments (λ p. option_map (tell replica p.0 p.1) (named_atoms_of atoms))
    (λ p _. if_map (AllByRecursion ArgumentsFit) HasFittingArguments (tell replica p.0 p.1) (λ ws g. g)
    (named_atoms_of atoms) (named_atoms_fit atoms h)) (id_of id) (always (id_of id)))
    (natural_of r) (always (natural_of r))

-- ---- operations of a delta

operation_with_fits : (id atoms : Data) → HasRanges atoms → IfSome (operation_with id atoms) OperationFits
operation_with_fits id atoms h =
    if_then (λ _. ⊤) OperationFits (λ p. option_map (named_operation p.0 p.1) (named_atoms_of atoms))
    (λ p _. if_map (AllByRecursion ArgumentsFit) OperationFits (named_operation p.0 p.1) (λ ws g. g)
    (named_atoms_of atoms) (named_atoms_fit atoms h)) (id_of id) (always (id_of id))

operation_from_fits : (ds : List Data) → AllByRecursion HasRanges ds → IfSome (operation_from ds) OperationFits
operation_from_fits [] h = tt
operation_from_fits (id ∷ []) h = tt
operation_from_fits (id ∷ atoms ∷ []) h = operation_with_fits id atoms h.1.0
operation_from_fits (id ∷ atoms ∷ d ∷ ds) h = tt

operation_fits : (d : Data) → HasRanges d → IfSome (operation_of d) OperationFits
operation_fits d h = of_elements OperationFits operation_from operation_from_fits d h

numbered_from_fits : (o : ℕ) (ds : List Data) → AllByRecursion HasRanges ds → IfSome (numbered_from o ds) OperationFits
numbered_from_fits o [] h = tt
numbered_from_fits o (n ∷ []) h = tt
numbered_from_fits o (n ∷ atoms ∷ []) h =
    if_then (λ _. ⊤) OperationFits (λ number. option_map (named_operation o number) (named_atoms_of atoms))
    (λ number _. if_map (AllByRecursion ArgumentsFit) OperationFits (named_operation o number) (λ ws g. g)
    (named_atoms_of atoms) (named_atoms_fit atoms h.1.0)) (natural_of n) (always (natural_of n))
numbered_from_fits o (n ∷ atoms ∷ d ∷ ds) h = tt

numbered_fits : (o : ℕ) (d : Data) → HasRanges d → IfSome (numbered_of o d) OperationFits
numbered_fits o d h = of_elements OperationFits (numbered_from o) (numbered_from_fits o) d h

abbrev OperationsFit : List NamedOperation → Type 0
OperationsFit os = AllByRecursion OperationFits os

all_numbered_fit : (o : ℕ) (d : Data) → HasRanges d → IfSome (all_numbered_of o d) OperationsFit
all_numbered_fit o d h = of_elements OperationsFit (each (numbered_of o))
    (λ ds g. if_each HasRanges OperationFits (numbered_of o) (numbered_fits o) ds g) d h

group_from_fits : (ds : List Data) → AllByRecursion HasRanges ds → IfSome (group_from ds) OperationsFit
group_from_fits [] h = tt
group_from_fits (o ∷ []) h = tt
group_from_fits (o ∷ ops ∷ []) h =
    if_then (λ _. ⊤) OperationsFit (λ origin. all_numbered_of origin ops)
    (λ origin _. all_numbered_fit origin ops h.1.0) (origin_of o) (always (origin_of o))
group_from_fits (o ∷ ops ∷ d ∷ ds) h = tt

group_fits : (d : Data) → HasRanges d → IfSome (group_of d) OperationsFit
group_fits d h = of_elements OperationsFit group_from group_from_fits d h

appended_fit : (os ps : List NamedOperation) → OperationsFit os → OperationsFit ps → OperationsFit (os ++ ps)
appended_fit [] ps h g = g
appended_fit (o ∷ os) ps h g = (h.0, appended_fit os ps h.1 g)

joined_fit : (ds : List Data) → AllByRecursion HasRanges ds → IfSome (joined group_of ds) OperationsFit
joined_fit [] h = tt
joined_fit (d ∷ ds) h =
    if_then OperationsFit OperationsFit (λ os. option_map (λ ps. os ++ ps) (joined group_of ds))
    (λ os g. if_map OperationsFit OperationsFit (λ ps. os ++ ps) (λ ps k. appended_fit os ps g k) (joined group_of ds)
    (joined_fit ds h.1)) (group_of d) (group_fits d h.0)

groups_fit : (d : Data) → HasRanges d → IfSome (groups_of d) OperationsFit
groups_fit d h = of_elements OperationsFit (joined group_of) joined_fit d h

delta_2_from_fits : (ds : List Data) → AllByRecursion HasRanges ds → IfSome (delta_2_from ds) OperationsFit
delta_2_from_fits [] h = tt
delta_2_from_fits (v ∷ []) h = tt
delta_2_from_fits (v ∷ gs ∷ []) h = if_either OperationsFit (is_natural 2 v) (groups_of gs) None
    (λ _. groups_fit gs h.1.0) tt
delta_2_from_fits (v ∷ gs ∷ d ∷ ds) h = tt

delta_from_fits : (ds : List Data) → AllByRecursion HasRanges ds → IfSome (delta_from ds) OperationsFit
delta_from_fits ds h =
    if_either OperationsFit (begins_with_number ds) (delta_2_from ds) (each operation_of ds)
    (λ _. delta_2_from_fits ds h)
    (if_each HasRanges OperationFits operation_of operation_fits ds h)

delta_fits : (d : Data) → HasRanges d → IfSome (delta_of d) OperationsFit
delta_fits d h = of_elements OperationsFit delta_from delta_from_fits d h

merge_fits : (r d : Data) → HasRanges d → IfSome (merge_of r d) HasFittingArguments
merge_fits r d h =
    if_then (λ _. ⊤) HasFittingArguments (λ replica. option_map (merge replica) (delta_of d))
    (λ replica _. if_map OperationsFit HasFittingArguments (merge replica) (λ os g. g) (delta_of d) (delta_fits d h))
    (natural_of r) (always (natural_of r))

-- ---- commands without atoms

one_fits : (w r : Data) → IfSome (command_of_one w r) HasFittingArguments
one_fits w r =
    if_either HasFittingArguments (is_string (codes "show") w) (option_map show (natural_of r))
    (cond (is_string (codes "summary") w) (option_map summary (natural_of r)) None)
    (λ _. if_map (λ _. ⊤) HasFittingArguments show (λ _ h. h) (natural_of r) (always (natural_of r)))
    (if_either HasFittingArguments (is_string (codes "summary") w) (option_map summary (natural_of r)) None
    (λ _. if_map (λ _. ⊤) HasFittingArguments summary (λ _ h. h) (natural_of r) (always (natural_of r))) tt)

sync_fits : (a b : Data) → IfSome (sync_of a b) HasFittingArguments
sync_fits a b =
    if_then (λ _. ⊤) HasFittingArguments (λ from. option_map (sync from) (natural_of b))
    (λ from _. if_map (λ _. ⊤) HasFittingArguments (sync from) (λ _ h. h) (natural_of b) (always (natural_of b)))
    (natural_of a) (always (natural_of a))

lacks_fits : (r d : Data) (v : DeltaVersion) → IfSome (lacks_of r d v) HasFittingArguments
lacks_fits r d v =
    if_then (λ _. ⊤) HasFittingArguments (λ replica. option_map (λ rs. lacks replica rs v) (summary_of d))
    (λ replica _. if_map (λ _. ⊤) HasFittingArguments (λ rs. lacks replica rs v) (λ _ h. h) (summary_of d)
    (always (summary_of d))) (natural_of r) (always (natural_of r))

two_fits : (w r d : Data) → HasRanges d → IfSome (command_of_two w r d) HasFittingArguments
two_fits w r d h =
    let merged = cond (is_string (codes "merge") w) (merge_of r d) None in
    if_either HasFittingArguments (is_string (codes "sync") w) (sync_of r d)
    (cond (is_string (codes "lacks") w) (lacks_of r d version.Two) merged) (λ _. sync_fits r d)
    (if_either HasFittingArguments (is_string (codes "lacks") w) (lacks_of r d version.Two) merged
    (λ _. lacks_fits r d version.Two)
    (if_either HasFittingArguments (is_string (codes "merge") w) (merge_of r d) None (λ _. merge_fits r d h) tt))

three_fits : (w r d e : Data) → HasRanges e → IfSome (command_of_three w r d e) HasFittingArguments
three_fits w r d e h =
    let lacked = option_and_then (lacks_of r d) (version_of e) in
    if_either HasFittingArguments (is_string (codes "tell") w) (tell_of r d e)
    (cond (is_string (codes "lacks") w) lacked None) (λ _. tell_fits r d e h)
    (if_either HasFittingArguments (is_string (codes "lacks") w) lacked None
    (λ _. if_then (λ _. ⊤) HasFittingArguments (lacks_of r d) (λ v _. lacks_fits r d v) (version_of e)
    (always (version_of e))) tt)

command_from_fits : (ds : List Data) → AllByRecursion HasRanges ds → IfSome (command_from ds) HasFittingArguments
command_from_fits [] h = tt
command_from_fits (w ∷ []) h = tt
command_from_fits (w ∷ r ∷ []) h = one_fits w r
command_from_fits (w ∷ r ∷ d ∷ []) h = two_fits w r d h.1.1.0
command_from_fits (w ∷ r ∷ d ∷ e ∷ []) h = three_fits w r d e h.1.1.1.0
command_from_fits (w ∷ r ∷ d ∷ e ∷ f ∷ ds) h = tt

pub command_fits : (d : Data) → HasRanges d → IfSome (command_of d) HasFittingArguments
command_fits d h = of_elements HasFittingArguments command_from command_from_fits d h

shape_fits : (o : Option Said) → IfSome o HasFittingArguments → IfOk (ok_or o fault.Shape) HasFittingArguments
shape_fits None h = tt
shape_fits (Some s) h = h

value_fits : (o : Option Data) → IfSome o HasRanges → IfOk (value_said o) HasFittingArguments
value_fits None h = tt
value_fits (Some d) h = shape_fits (command_of d) (command_fits d h)

within_fits : (b : Bool) (r : Result Said LineFault) → IfOk r HasFittingArguments
    → IfOk (cond b r (Err fault.BadLine)) HasFittingArguments
within_fits true r h = h
within_fits false r h = tt

pub line_fits : (line : List ℕ) → IfOk (line_said line) HasFittingArguments
line_fits line = within_fits (has_line_length line) (value_said (json_in line))
    (value_fits (json_in line) (value_ranged line))
