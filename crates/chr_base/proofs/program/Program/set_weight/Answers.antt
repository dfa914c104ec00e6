use Rattle.std.proofs.Common.{ap, ◌∙◌}
use Rattle.chr_base.specs.ProgramTests.{with_weight}
use Rattle.chr_base.specs.Programs.{declarations, rules_of}
use Rattle.chr_base.proofs.Weighing.{still_program}
use Rattle.chr_base.proofs.program.Program.set_weight.Goals as goal

pub invariant_of-self : goal.invariant_of-self
invariant_of-self c = record {
  well_formed = still_program (declarations c.args.self.now) _ (rules_of c.args.self.now) c.args.symbol.0 c.args.weight
      (c.put_weight.ensures ∙ ap (λ i. with_weight (declarations c.args.self.now) i c.args.weight) c.from.ensures)
      c.requires.range c.args.self.now.well_formed;
}
