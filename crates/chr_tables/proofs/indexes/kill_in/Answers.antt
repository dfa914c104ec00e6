use Rattle.std.proofs.Common.{[], set, refl, sym, ap, ◌∙◌, arith}
use Rattle.std.specs.Prelude.{None}
use Rattle.std.proofs.lemmas.List.{length-set}
use Rattle.std.proofs.Math.Seq.{map-set_same}
use Rattle.chr_tables.specs.working.Indexes.{way_of}
use Rattle.chr_tables.proofs.Walks.{done_more, left_more}
use Rattle.chr_tables.proofs.Lives.{entries_at, entries_set, length_entries, same_way}
use Rattle.chr_tables.proofs.indexes.kill_in.Goals as goal

pub loop-i-preserved : goal.loop-i-preserved
loop-i-preserved c =
    let n = length_entries c.loop-i.indexes in
    let g = c.loop-i-test.true in
    let len = c.loop-i.invariant.len in
    let here = entries_at c.loop-i.indexes c.loop-i.i c.index-indexes-i.result (omega (arith, g, len)) in
    let old = c.loop-i.invariant.left c.loop-i.i (omega arith) in
    record {
      len = length-set c.loop-i.indexes _ _ ∙ c.loop-i.invariant.len;
      ways = map-set_same way_of c.loop-i.indexes c.loop-i.i _ c.index-indexes-i.result
          (same_way _ _ refl refl c.kill.ensures.order) ∙ c.loop-i.invariant.ways;
      done = λ j h. (rw (entries_set c.loop-i.indexes c.loop-i.i)
          (done_more _ _ [] c.loop-i.i _ (λ _ xs. set xs c.args.row None)
          (omega (arith, n, g, len)) c.loop-i.invariant.done
          (c.kill.ensures.rows ∙ ap (λ xs. set xs c.args.row None) (sym here ∙ old)) j h));
      left = λ j h. (rw (entries_set c.loop-i.indexes c.loop-i.i)
          (left_more _ _ [] c.loop-i.i _ c.loop-i.invariant.left j h));
    }
