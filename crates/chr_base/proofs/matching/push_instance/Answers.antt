use Rattle.std.proofs.Common.{rules, ◌≡◌, [], length}
use Rattle.std.proofs.Math.Seq.{set-append_seam}
use Rattle.chr_base.specs.Rules.{atom_at}
use Rattle.chr_base.specs.Rules.{valued}
use Rattle.chr_base.proofs.matching.push_instance.Goals as goal

pub returns-clause-items : goal.returns-clause-items
returns-clause-items c =
    let last : c.len-last.result ≡ length c.args.items.now.items = search rules in
    rw (c.push_reserved.ensures.items, c.set_instance.ensures, last)
    (set-append_seam c.args.items.now.items c.default.result [] (atom_at (valued c.args.values.now) c.args.pattern.now))
