use Rattle.std.proofs.Common.{rules, ◌≡◌, [], length}
use Rattle.std.proofs.Math.Seq.{set-append_seam}
use Rattle.chr_base.proofs.lists.push_copy.Goals as goal

pub returns-clause-items : goal.returns-clause-items
returns-clause-items c =
    let last : c.len-last.result ≡ length c.args.items.now.items = search rules in
    rw (c.push_reserved.ensures.items, c.copy_from.ensures, last)
    (set-append_seam c.args.items.now.items c.default.result [] c.args.atom.now)
