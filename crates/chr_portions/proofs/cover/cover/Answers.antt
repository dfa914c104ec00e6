use Rattle.std.proofs.Common.{arith}
use Rattle.chr_portions.proofs.Entries.{rows_moved}
use Rattle.chr_portions.proofs.cover.cover.Goals as goal

pub returns-clause-rows : goal.returns-clause-rows
returns-clause-rows c =
    let before = c.requires.index.placed.as_many in
    let after = c.rearrange.ensures.placed.as_many in
    let size = c.rearrange.ensures.size in
    rows_moved c.args.records.now c.args.places.now c.rearrange.new.records c.rearrange.new.places
    (omega (arith, before, after, size)) c.rearrange.ensures.same
