use Rattle.std.proofs.Common.{rules, string_bytes}
use Rattle.chr_exchange.proofs.Spelling.{atom_pushed}
use Rattle.chr_exchange.proofs.pieces.push_atom.Goals as goal

pub returns : goal.returns
returns c =
    let bracket = string_bytes c.push_str.new.self in
    atom_pushed c.args.program.now c.args.atom.now (string_bytes c.args.out.now) bracket
    (string_bytes c.push_str-2.new.self) (string_bytes c.push_str-3.new.self)
    (string_bytes c.push_arguments.new.out) (string_bytes c.push_str-4.new.self) (search rules) (search rules)
    (search rules) (search rules) (search rules)
