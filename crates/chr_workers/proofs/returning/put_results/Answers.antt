use Rattle.std.proofs.Common.{rules, arith}
use Rattle.chr_workers.proofs.InParts.{put_more}
use Rattle.chr_workers.proofs.returning.put_results.Goals as goal

pub loop-cell-preserved-then-put_one : goal.loop-cell-preserved-then-put_one
loop-cell-preserved-then-put_one c =
    let i = c.loop-cell.invariant in
    record {
      kept = search rules;
      puts = put_more c.args.board.now c.loop-cell.board c.put_one.new.board c.loop-cell.count c.put_one.result
          i.kept.program c.if-put_one.true i.puts c.put_one.ensures.put;
      fits = omega (arith, i.fits, c.in-Some.ensures.len);
    }
