use Rattle.std.proofs.Common.{string_bytes, rules}
use Rattle.chr_base.specs.Programs.{declarations}
use Rattle.chr_json.specs.Printed.{atom_data}
use Rattle.chr_exchange.specs.Texts.{spelt_atom}
use Rattle.chr_exchange.proofs.Listed.{listed_pushed}
use Rattle.chr_exchange.proofs.pieces.push_atoms.Goals as goal

pub returns-in_ok-push_str-in-Some-2 : goal.returns-in_ok-push_str-in-Some-2
returns-in_ok-push_str-in-Some-2 c =
    listed_pushed atom_data (spelt_atom (declarations c.args.program.now)) c.in-Some.first.now c.args.atoms.now
    c.in-Some.rest.now (string_bytes c.args.out.now) (string_bytes c.push_str-in-Some.new.self)
    (string_bytes c.push_atom.new.out) (string_bytes c.push_more_atoms.new.out)
    (string_bytes c.push_str-in-Some-2.new.self)
    (search rules) (search rules) (search rules) (search rules) (search rules)
