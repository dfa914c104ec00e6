use Rattle.std.proofs.Common.{ℕ, ◌<◌, ◌≤◌, get_or}
use Rattle.chr_base.specs.declared.atom.Atom.{Atom}
use Rattle.chr_base.specs.Atoms.{atom_cmp}
use Rattle.chr_base.specs.FinBag.{count_in}
use Rattle.chr_base.specs.Stores.{count, stores_sum}
use Rattle.chr_shards.proofs.pools.have_each.Given as goal

abbrev pub invariant-loop-atom : goal.invariant-loop-atom
invariant-loop-atom l =
    (k : ℕ) (d : Atom) → k < l.atom-index
    → count_in atom_cmp (get_or l.atoms k d) l.atoms ≤ count (stores_sum l.pools) (get_or l.atoms k d)
