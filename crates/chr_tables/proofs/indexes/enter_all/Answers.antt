use Rattle.std.proofs.Common.{length, ap, ◌∙◌, arith}
use Rattle.chr_tables.specs.working.Indexes.{keyed_entries, ways_of}
use Rattle.chr_tables.proofs.Lives.{length_ways}
use Rattle.chr_tables.proofs.Compacting.{entered_more}
use Rattle.chr_tables.proofs.indexes.enter_all.Goals as goal

pub loop-row-preserved : goal.loop-row-preserved
loop-row-preserved c =
    let g = c.loop-row-test.true in
    let ways = c.loop-row.invariant.ways in
    let m = ap length ways in
    let n = length_ways c.loop-row.indexes in
    record {
      ways = c.push_in.ensures.ways ∙ ways;
      rooms = c.push_in.ensures.rooms ∙ c.loop-row.invariant.rooms;
      rows = entered_more c.args.atoms.now (ways_of c.args.indexes.now) (keyed_entries c.loop-row.indexes)
          (keyed_entries c.push_in.new.indexes) c.loop-row.row c.atom.result (omega (arith, g))
          (c.atom.ensures c.atom.result) c.loop-row.invariant.rows
          (λ j l. (rw ways at (c.push_in.ensures.rows j (omega (arith, l, m, n)))));
    }
