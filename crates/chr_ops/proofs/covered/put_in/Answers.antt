use Rattle.std.proofs.Common.{rules, arith, ◌^◌, ◌<◌}
use Rattle.chr_ops.proofs.OnePutIn.{grown, alone}
use Rattle.chr_ops.proofs.covered.put_in.Goals as goal

pub returns-in-Some-clause-ok : goal.returns-in-Some-clause-ok
returns-in-Some-clause-ok c =
    let before = c.in-Some.ensures.some in
    let fit : c.args.id.number < 2 ^ 64 = search (rules, arith) in
    rw (c.set.ensures)
    (grown c.args.ends.now c.args.id c.requires.longest c.requires.new c.in-Some.first before.0 before.1 before.2
    before.3 fit)

pub returns-in_ok-insert-in-None-clause-ok : goal.returns-in_ok-insert-in-None-clause-ok
returns-in_ok-insert-in-None-clause-ok c =
    rw (c.in_ok-insert-in-None.ensures.ok)
    (alone c.args.ends.now c.args.id c.requires.longest c.requires.new c.insert.ensures.fits c.in-None.ensures.none)
