use Rattle.std.proofs.Common.{sym, ◌∙◌}
use Rattle.std.proofs.lemmas.Bool.{OnTrue_at, OnFalse_at}
use Rattle.chr_printing.proofs.Printed.{flat_row}
use Rattle.chr_printing.proofs.flat.Flat.atom_at.Goals as goal

pub returns-then-read : goal.returns-then-read
returns-then-read c =
    sym (OnTrue_at c.if-read.true c.read.ensures.there) ∙ flat_row c.args.self.now c.args.row

pub returns-else-read : goal.returns-else-read
returns-else-read c =
    sym (OnFalse_at c.if-read.false c.read.ensures.none) ∙ flat_row c.args.self.now c.args.row
