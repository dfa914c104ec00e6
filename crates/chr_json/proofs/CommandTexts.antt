-- A line with a command's own text says that command.
use Rattle.std.proofs.Common.{◌≡◌, ℕ, ℤ, max, ◌≤◌, ◌<◌, ◌^◌, pos, negsuc, List, [], ◌∷◌, map, Some, refl, ap, subst}
use Rattle.std.proofs.Common.{◌∙◌, arith, FitsSigned, Ok, Err, cond, length, le-leb}
use Rattle.std.specs.Int.{w64}
use Rattle.std.specs.List.{AllByRecursion}
use Rattle.std.specs.Option.{ok_or}
use Rattle.std.specs.Str.{IsUtf8}
use Rattle.json.proofs.Printed.Utf8.{IsUtf8-are_ascii}
use Rattle.serde_json.specs.Data.{Data, string, depth, items_depth}
use Rattle.serde_json.specs.Read.{max_depth, read}
use Rattle.serde_json.specs.View.{items_of}
use Rattle.chr_json.specs.declared.command.DeltaVersion.{DeltaVersion}
use Rattle.chr_json.specs.declared.command.DeltaVersion.TheVariants as version
use Rattle.chr_json.specs.NamedAtoms.{NamedAtom}
use Rattle.chr_json.specs.Commands.{Said, show, tell, sync, summary, lacks, merge}
use Rattle.chr_json.specs.declared.fault.LineFault.TheVariants as fault
use Rattle.chr_json.specs.declared.limits.TheConstants.{MAX_LINE}
use Rattle.chr_json.specs.Reads.{value_said, line_said}
use Rattle.chr_json.specs.Texts.{command_text, IsWithinTextLimits, CommandTextsAreSaid}
use Rattle.chr_json.specs.Values.{json_in}
use Rattle.chr_json.specs.working.Compact.{IsTextOf}
use Rattle.chr_json.specs.WrittenCommands.{version_data, said_data, word_of, command_data}
use Rattle.chr_json.specs.Printed.{argument_data, atom_data, ArgumentsFit}
use Rattle.chr_json.specs.Messages.{array_data}
use Rattle.chr_json.proofs.CommandsBack.{commands_back}
use Rattle.chr_json.proofs.Laws.{json_some}
use Rattle.chr_json.proofs.MessagesBack.{summary_writable, delta_2_writable}
use Rattle.chr_json.proofs.Reading.{IsPlain, ArePlain, texts_read}
use Rattle.chr_json.proofs.PartedTexts.{parted_texts_read}
use Rattle.chr_json.proofs.Writable.{IsWritable, deeper, name_writable, natural_writable, array_writable}

-- ---- the value of a tell is plain, and at most four deep

plain_arguments : (zs : List ℤ) → AllByRecursion (FitsSigned w64) zs → ArePlain (items_of (map argument_data zs))
plain_arguments [] h = tt
plain_arguments (pos n ∷ zs) h = (let fits = h.0.sfits in omega (arith, fits), plain_arguments zs h.1)
plain_arguments (negsuc n ∷ zs) h = (let fits = h.0.sfits in omega (arith, fits), plain_arguments zs h.1)

plain_atoms : (ws : List NamedAtom) → AllByRecursion ArgumentsFit ws → ArePlain (items_of (map atom_data ws))
plain_atoms [] h = tt
plain_atoms (w ∷ ws) h = ((tt, plain_arguments w.args h.0), plain_atoms ws h.1)

plain_tell : (r o n : ℕ) (ws : List NamedAtom) → IsWithinTextLimits (tell r o n ws)
    → IsPlain (command_data (tell r o n ws))
plain_tell r o n ws h =
    let origin : o < 2 ^ 64 = omega (arith, h.0.0) in (tt, (h.1.0, ((origin, (h.1.1, tt)), (plain_atoms ws h.0.2, tt))))

flat_arguments : (zs : List ℤ) → items_depth (items_of (map argument_data zs)) ≡ 0
flat_arguments [] = refl
flat_arguments (pos n ∷ zs) = ap (max 0) (flat_arguments zs)
flat_arguments (negsuc n ∷ zs) = ap (max 0) (flat_arguments zs)

atoms_depth : (ws : List NamedAtom) → items_depth (items_of (map atom_data ws)) ≤ 1
atoms_depth [] = omega arith
atoms_depth (w ∷ ws) = omega (arith, flat_arguments w.args, atoms_depth ws)

tell_depth : (r o n : ℕ) (ws : List NamedAtom) → depth (command_data (tell r o n ws)) ≤ max_depth
tell_depth r o n ws = omega (arith, atoms_depth ws)

-- ---- the value of any other command can be written

version_writable : (v : DeltaVersion) → AllByRecursion (IsWritable 7) (version_data v)
version_writable version.One = (natural_writable 7 1 (omega arith), tt)
version_writable version.Two = tt

words_writable : (s : Said) (ds : List Data) → IsUtf8 (word_of s) → AllByRecursion (IsWritable 7) ds
    → IsWritable 8 (array_data (string (word_of s) ∷ ds))
words_writable s ds word h = array_writable 7 (string (word_of s) ∷ ds) (name_writable 7 (word_of s) word, h)

-- a command's value is plain, and not deep
abbrev IsReadable : Data → Type 0
IsReadable d = IsPlain d × (depth d ≤ max_depth)

writable_command : (s : Said) → IsWritable 8 (command_data s) → IsReadable (command_data s)
writable_command s h = (h.plain, omega (arith, h.shallow))

readable_command : (s : Said) → IsWithinTextLimits s → IsReadable (command_data s)
readable_command (tell r o n ws) h = (plain_tell r o n ws h, tell_depth r o n ws)
readable_command (show r) h =
    writable_command (show r) (words_writable (show r) (said_data (show r)) (IsUtf8-are_ascii _ refl)
    (natural_writable 7 r h.1, tt))
readable_command (summary r) h =
    writable_command (summary r) (words_writable (summary r) (said_data (summary r)) (IsUtf8-are_ascii _ refl)
    (natural_writable 7 r h.1, tt))
readable_command (sync a b) h =
    writable_command (sync a b)
    (words_writable (sync a b) (said_data (sync a b)) (IsUtf8-are_ascii _ refl)
    (natural_writable 7 a h.1.0, (natural_writable 7 b h.1.1, tt)))
readable_command (lacks r rs v) h =
    writable_command (lacks r rs v)
    (words_writable (lacks r rs v) (said_data (lacks r rs v)) (IsUtf8-are_ascii _ refl)
    (natural_writable 7 r h.1, (deeper 4 7 _ (omega arith) (summary_writable rs h.0), version_writable v)))
readable_command (merge r os) h =
    writable_command (merge r os)
    (words_writable (merge r os) (said_data (merge r os)) (IsUtf8-are_ascii _ refl)
    (natural_writable 7 r h.1, (delta_2_writable os h.0, tt)))

-- ---- a line of a command's text says the command

value_is_said : (line : List ℕ) (s : Said) → read line ≡ Some (command_data s) → IsWithinTextLimits s → IsUtf8 line
    → length line ≤ MAX_LINE → line_said line ≡ Ok s
value_is_said line s value h utf8 within =
    ap (λ b. cond b (value_said (json_in line)) (Err fault.BadLine)) (le-leb (length line) MAX_LINE within)
    ∙ ap value_said (json_some line (command_data s) utf8 value)
    ∙ ap (λ o. ok_or o fault.Shape) (commands_back s h.0)

pub texts_are_said : CommandTextsAreSaid
texts_are_said s h utf8 within =
    let is = readable_command s h in
    value_is_said (command_text s) s (texts_read (command_data s) is.0 is.1) h utf8 within

-- a line that is known to be a command's text says the command
pub line_is_said : (line : List ℕ) (s : Said) → IsTextOf line s → IsWithinTextLimits s → IsUtf8 line
    → length line ≤ MAX_LINE → line_said line ≡ Ok s
line_is_said line s (k, is) h utf8 within =
    let can = readable_command s h in
    value_is_said line s (ap read is ∙ parted_texts_read k (command_data s) can.0 can.1) h utf8 within
