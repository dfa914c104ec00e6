use Rattle.std.proofs.Common.{rules, ◌≡◌, [], length, Some}
use Rattle.std.proofs.Math.Seq.{set-append_seam}
use Rattle.chr_base.specs.Programs.{declarations}
use Rattle.chr_json.specs.Reads.{raw_atom_view}
use Rattle.chr_exchange.specs.Names.{named_atom}
use Rattle.chr_exchange.proofs.named.push_named.Goals as goal

pub returns-clause-some : goal.returns-clause-some
returns-clause-some c =
    let named : named_atom (declarations c.args.program.now) (raw_atom_view c.args.word.now)
    ≡ Some c.set_atom.new.atom = search rules in
    let last : c.len-last.result ≡ length c.args.atoms.now.items = search rules in (
      c.set_atom.new.atom,
      named,
      rw (c.in_ok-push.ensures.items, last)
          (set-append_seam c.args.atoms.now.items c.default.result [] c.set_atom.new.atom),
    )
