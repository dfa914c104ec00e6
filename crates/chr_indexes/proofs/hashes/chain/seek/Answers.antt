use Rattle.std.proofs.Common.{◌-◌, ◌<◌, get_or, length, arith, sym, ap, ◌∙◌}
use Rattle.std.proofs.lemmas.List.{get_or-map}
use Rattle.chr_indexes.specs.declared.hashes.row.Row.{Row}
use Rattle.chr_indexes.specs.working.HashEntries.{hashes_of, flags_of}
use Rattle.chr_indexes.proofs.HashFields.{length_hashes, as_many}
use Rattle.chr_indexes.proofs.HashRows.{entry_is, passed}
use Rattle.chr_indexes.proofs.hashes.chain.seek.Goals as goal

pub returns-then-rows-row-clause-live : goal.returns-then-rows-row-clause-live
returns-then-rows-row-clause-live c = λ p.
    let i = c.loop-at.invariant in
    let w = i.within in
    let v = c.requires.within in
    let size = i.size in
    let n = length_hashes c.args.rows.now in
    let l : c.loop-at.at - 1 < length c.loop-at.rows = omega (arith, size, w, v, p) in
    entry_is (hashes_of c.args.rows.now) (flags_of c.args.rows.now) (c.loop-at.at - 1) c.args.hash
    (omega (arith, size, l, n)) (as_many c.args.rows.now) (i.live p).1
    (ap (λ hs. get_or hs (c.loop-at.at - 1) 0) (sym i.hashes)
    ∙ get_or-map (λ (r : Row). r.hash) c.loop-at.rows (c.loop-at.at - 1) _ 0 l ∙ c.if-rows-row.true)

pub loop-at-preserved : goal.loop-at-preserved
loop-at-preserved c =
    let i = c.loop-at.invariant in
    let p = c.loop-at-test.true in
    let w = i.within in
    let v = c.requires.within in
    let size = i.size in
    let n = length_hashes c.args.rows.now in
    let l : c.loop-at.at - 1 < length c.loop-at.rows = omega (arith, size, w, v, p) in
    let e = c.next_live-at.ensures.within in
    let live = rw (i.hashes, i.flags) at c.next_live-at.ensures.live in
    record {
      index = record {
        chained = c.next_live-at.ensures.chained;
        some = c.requires.index.some;
        most = c.requires.index.most;
      };
      size = c.next_live-at.ensures.size ∙ size;
      hashes = c.next_live-at.ensures.hashes ∙ i.hashes;
      flags = c.next_live-at.ensures.flags ∙ i.flags;
      within = omega (arith, w, e);
      live = λ q. ((live q).0 ∙ (i.live p).0, (live q).1);
      above = λ r k f. (passed (length c.args.heads.now) (hashes_of c.args.rows.now) (flags_of c.args.rows.now)
          c.args.hash c.loop-at.at c.next_live-at.result c.args.from r p (omega (arith, n, w, v)) (i.live p).0
          (λ g. c.if-rows-row.false (sym (get_or-map (λ (r : Row). r.hash) c.loop-at.rows (c.loop-at.at - 1) _ 0 l)
          ∙ ap (λ hs. get_or hs (c.loop-at.at - 1) 0) i.hashes ∙ g))
          (rw (i.hashes, i.flags) at c.next_live-at.ensures.none_between) i.above k f);
    }
