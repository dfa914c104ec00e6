use Rattle.std.proofs.Common.{◌<◌, length, refl, arith}
use Rattle.chr_plans.specs.Seats.{seat}
use Rattle.chr_columns.proofs.Stored.{row_there, kill_rows, kill_keys, kill_many, same_columns}
use Rattle.chr_columns.proofs.rested.kill_all.Goals as goal

pub loop-seat-preserved : goal.loop-seat-preserved
loop-seat-preserved c =
    let ts = c.loop-seat.tables.tables.items in
    let us = c.args.tables.now.tables.items in
    let ss = c.args.seats.now in
    let i = c.loop-seat.seat-index in
    let live = row_there us (seat ss i).table (seat ss i).row (c.requires i c.loop-seat-test.true) in
    let many = c.loop-seat.invariant.many.0 in
    let w = live.0 in
    let within : (seat ss i).table < length ts = omega (arith, many, w) in
    let x = c.index_mut.result.now in
    let y = c.kill.new.self in
    record {
      rows = kill_rows ts us ss i x y c.loop-seat-test.true within c.index_mut.ensures.value c.kill.ensures.rows
          c.kill.ensures.keys c.loop-seat.invariant.rows;
      keys = kill_keys ts us ss i x y c.loop-seat-test.true within c.index_mut.ensures.value c.kill.ensures.rows
          c.kill.ensures.keys c.loop-seat.invariant.keys;
      many = kill_many ts us ss i x y c.loop-seat-test.true within c.index_mut.ensures.value c.kill.ensures.rows
          c.kill.ensures.keys c.loop-seat.invariant.many;
    }

pub returns-clause-columns : goal.returns-clause-columns
returns-clause-columns c = same_columns _ _ c.loop-seat.invariant.keys

pub returns-clause-ranks : goal.returns-clause-ranks
returns-clause-ranks c = refl
