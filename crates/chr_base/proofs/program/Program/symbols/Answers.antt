use Rattle.std.proofs.Common.{ap, ◌∙◌, sym, length}
use Rattle.std.proofs.lemmas.List.{length-map}
use Rattle.chr_base.specs.ProgramTests.{declared}
use Rattle.chr_base.proofs.program.Program.symbols.Goals as goal

pub returns : goal.returns
returns c = c.len.ensures ∙ ap length c.as_slice.ensures.entries
    ∙ sym (length-map c.args.self.now.symbols.entries declared)
