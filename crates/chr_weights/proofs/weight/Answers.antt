use Rattle.std.proofs.Common.{sym, ◌∙◌}
use Rattle.chr_base.proofs.FinBags.{sum_over-items}
use Rattle.chr_weights.specs.Weights.{weight_in}
use Rattle.chr_weights.specs.WeighedPrograms.{program_of}
use Rattle.chr_weights.proofs.weight.Goals as goal

pub atoms_weight-requires : goal.atoms_weight-requires
atoms_weight-requires c =
    let w = weight_in (program_of c.args.weighed.now) in
    record {
      first = rw (c.program.ensures, c.atoms.ensures, ← sum_over-items (λ a. (w a).first) c.args.bag.now)
          c.requires.first;
      second = rw (c.program.ensures, c.atoms.ensures, ← sum_over-items (λ a. (w a).second) c.args.bag.now)
          c.requires.second;
    }

pub returns : goal.returns
returns c =
    let w = weight_in (program_of c.args.weighed.now) in
    let first = sum_over-items (λ a. (w a).first) c.args.bag.now in
    let second = sum_over-items (λ a. (w a).second) c.args.bag.now in
    rw (c.atoms_weight.ensures, c.program.ensures, c.atoms.ensures)
    (λ i. record { first = sym first i; second = sym second i })
