use Rattle.std.specs.Prelude.{map}
use Rattle.chr_base.specs.ProgramTests.{declared}
use Rattle.chr_base.specs.Programs.{declarations, rules_of}
use Rattle.chr_base.proofs.Declared.{after_adding}
use Rattle.chr_base.proofs.program.Program.declare.Goals as goal

pub invariant_of-self : goal.invariant_of-self
invariant_of-self c = record {
  well_formed =
      after_adding (declarations c.args.self.now) (map declared c.add_symbol.new.symbols.entries)
      (rules_of c.args.self.now) c.args.name.now c.args.arity c.of-symbol.result.name.bytes c.of-symbol.result.arity
      c.add_symbol.result
      c.of-symbol.ensures.name c.of-symbol.ensures.arity c.add_symbol.ensures.ok c.add_symbol.ensures.err
      c.args.self.now.well_formed c.requires.room c.requires.word c.requires.name c.requires.arity c.requires.new;
}
