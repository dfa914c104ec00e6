use Rattle.chr_rewrite.proofs.Choosing.{pick_more}
use Rattle.chr_rewrite.proofs.choose.atoms_at.Goals as goal

pub loop-i-preserved : goal.loop-i-preserved
loop-i-preserved c =
    rw (c.push.ensures.items, c.copy.ensures) (pick_more c.args.items.now c.args.indices.now c.loop-i.i-index
    c.loop-i.atoms.items c.index-items-i.result c.loop-i-test.true c.requires.choice c.loop-i.invariant
    c.index-items-i.is)
