use Rattle.std.proofs.Common.{ap, ◌∙◌}
use Rattle.std.specs.Prelude.{slice_get}
use Rattle.chr_base.proofs.Declared.{found}
use Rattle.chr_base.proofs.program.Program.find.Goals as goal

pub returns : goal.returns
returns c =
    let entries = c.args.self.now.symbols.entries in
    found c.get_index.result entries c.args.symbol.0 (c.get_index.ensures.entry ∙ ap (slice_get entries) c.from.ensures)
