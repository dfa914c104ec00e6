use Rattle.std.proofs.Common.{ap, ◌∙◌}
use Rattle.chr_base.specs.Atoms.{atom_cmp}
use Rattle.chr_base.specs.FinBag.{count_in}
use Rattle.chr_base.proofs.Counts.{more_at}
use Rattle.chr_base.proofs.Edits.{rises_without}
use Rattle.chr_base.proofs.lists.take_all_out.Goals as goal

pub loop-atom-preserved : goal.loop-atom-preserved
loop-atom-preserved c = record {
  counts = λ q. ap (count_in atom_cmp q) c.take_out.ensures
      ∙ more_at q c.args.atoms.now c.loop-atom.items.items c.args.items.now.items c.loop-atom.atom-index
      c.atom-item.result c.loop-atom-test.true c.atom-item.is (c.loop-atom.invariant.counts q);
  rising = λ h. rises_without c.loop-atom.items.items _ c.atom-item.result c.take_out.ensures
      (c.loop-atom.invariant.rising h);
}
