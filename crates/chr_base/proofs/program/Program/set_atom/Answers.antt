use Rattle.std.specs.Prelude.{length}
use Rattle.chr_base.specs.Programs.{declarations, rules_of}
use Rattle.chr_base.proofs.Declared.{few_arguments}
use Rattle.chr_base.proofs.program.Program.set_atom.Goals as goal

pub set-requires : goal.set-requires
set-requires c =
    few_arguments (declarations c.args.self.now) (rules_of c.args.self.now) c.args.name.now
    (length c.args.args.now) _ c.args.self.now.well_formed c.in-Some.ensures
