use Rattle.chr_base.specs.Programs.{declarations}
use Rattle.chr_base.proofs.Declared.{is_there}
use Rattle.chr_base.proofs.program.Program.entry.Goals as goal

pub unwrap-requires : goal.unwrap-requires
unwrap-requires c = is_there _ _ (declarations c.args.self.now) c.args.symbol.0 c.find.ensures c.requires
