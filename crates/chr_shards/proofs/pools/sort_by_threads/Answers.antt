use Rattle.std.proofs.Common.{◌≡◌, length, arith, ap, ◌∙◌}
use Rattle.chr_base.specs.Stores.{store_of}
use Rattle.chr_base.proofs.Sorting.{same_multiset}
use Rattle.chr_shards.proofs.Sums.{written_back}
use Rattle.chr_shards.proofs.pools.sort_by_threads.Goals as goal

pub returns : goal.returns
returns g c =
    let xs = c.args.atoms.now.items in
    let ys = c.par_sort_unstable_by.new.s in
    let is : c.args.atoms.now.len ≡ length xs = omega (arith, c.args.atoms.now.ok.0) in
    let len : length ys ≡ length xs = c.par_sort_unstable_by.ensures.len ∙ ap length c.deref_mut.ensures.value in
    ap store_of (written_back xs ys c.args.atoms.now.len is len)
    ∙ same_multiset c.deref_mut.result.now ys c.par_sort_unstable_by.ensures.permutation
    ∙ ap store_of c.deref_mut.ensures.value
