-- A command's own value is read as that command.
use Rattle.std.proofs.Common.{option_map, option_and_then, refl, ap, ◌∙◌}
use Rattle.chr_json.specs.declared.command.DeltaVersion.TheVariants as version
use Rattle.chr_json.specs.NamedAtoms.{named_atoms_of}
use Rattle.chr_json.specs.Commands.{show, tell, sync, summary, lacks, merge}
use Rattle.chr_json.specs.Printed.{atoms_data}
use Rattle.chr_json.specs.WrittenCommands.{CommandsAreRead}
use Rattle.chr_json.proofs.Back.{id_back, atoms_back}
use Rattle.chr_json.proofs.MessagesBack.{summary_back, delta_2_back}

pub commands_back : CommandsAreRead
commands_back (show r) h = refl
commands_back (summary r) h = refl
commands_back (sync a b) h = refl
commands_back (tell r o n ws) h =
    ap (λ p. option_and_then (λ q. option_map (λ xs. tell r q.0 q.1 xs) (named_atoms_of (atoms_data ws))) p)
    (id_back o n h.0)
    ∙ ap (option_map (tell r o n)) (atoms_back ws h.1.0 h.1.1 h.2)
commands_back (lacks r rs version.One) h = ap (option_map (λ xs. lacks r xs version.One)) (summary_back rs h)
commands_back (lacks r rs version.Two) h = ap (option_map (λ xs. lacks r xs version.Two)) (summary_back rs h)
commands_back (merge r os) h = ap (option_map (merge r)) (delta_2_back os h)
