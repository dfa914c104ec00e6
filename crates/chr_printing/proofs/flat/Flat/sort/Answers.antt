use Rattle.std.proofs.lemmas.List.Sorted.{IsPermutation-map}
use Rattle.chr_printing.specs.working.Printing.{flat_atom}
use Rattle.chr_printing.proofs.flat.Flat.sort.Goals as goal

pub returns : goal.returns
returns c = IsPermutation-map (flat_atom c.args.self.now) _ _ c.sort_unstable.ensures.permutation
