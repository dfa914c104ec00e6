use Rattle.std.proofs.Common.{take, ap, ◌∙◌}
use Rattle.chr_tables.specs.working.Cells.{row_atoms}
use Rattle.chr_tables.proofs.Compacting.{atoms_taken}
use Rattle.chr_tables.proofs.cells.Cells.truncate.Goals as goal

pub returns : goal.returns
returns c =
    ap (row_atoms c.self.inside.columns 0) c.truncate.ensures.items
    ∙ atoms_taken c.self.inside.columns 0 c.self.inside.shapes.items c.args.count
    ∙ ap (take c.args.count) c.self.view_is
