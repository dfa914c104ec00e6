use Rattle.std.proofs.Common.{ap, arith, ◌<◌, ◌^◌, ◌+◌}
use Rattle.chr_base.specs.declared.weight.Weight.{Weight}
use Rattle.chr_weights.specs.Weights.{weight_in}
use Rattle.chr_weights.proofs.Weighing.{next_fits, atoms_more}
use Rattle.chr_weights.proofs.sums.atoms_weight.Goals as goal

pub plus-sum-requires : goal.plus-sum-requires
plus-sum-requires c =
    let one = c.atom_weight.ensures in
    let so_far = c.loop-atom.invariant in
    let xs = c.args.atoms.now in
    let next_first = next_fits (λ a. (weight_in c.args.program.now a).first) xs c.loop-atom.atom-index
    (2 ^ 64) c.atom-item.result c.atom_weight.result.first c.requires.first c.loop-atom-test.true c.atom-item.is
    (ap (λ (w : Weight). w.first) one) in
    let next_second = next_fits (λ a. (weight_in c.args.program.now a).second) xs c.loop-atom.atom-index
    (2 ^ 64) c.atom-item.result c.atom_weight.result.second c.requires.second c.loop-atom-test.true c.atom-item.is
    (ap (λ (w : Weight). w.second) one) in
    record {
      first = rw so_far next_first;
      second = rw so_far next_second;
    }

pub loop-atom-preserved : goal.loop-atom-preserved
loop-atom-preserved c =
    atoms_more (weight_in c.args.program.now) c.args.atoms.now c.loop-atom.atom-index c.atom-item.result c.loop-atom.sum
    c.atom_weight.result c.plus-sum.result c.loop-atom-test.true c.atom-item.is c.loop-atom.invariant
    c.atom_weight.ensures c.plus-sum.ensures
