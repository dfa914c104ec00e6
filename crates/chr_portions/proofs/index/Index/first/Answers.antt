use Rattle.std.proofs.Common.{◌≡◌, length, vec_len, arith, ap}
use Rattle.chr_portions.specs.RankedPairs.{rank_of}
use Rattle.chr_portions.proofs.Entries.{none_then, crossed_within}
use Rattle.chr_portions.proofs.index.Index.first.Goals as goal

pub returns-clause-none : goal.returns-clause-none
returns-clause-none c =
    let size : vec_len c.self.inside.records ≡ length c.self.inside.records.items =
    omega (arith, c.self.inside.records.ok.0) in
    let bound = c.len-bound.ensures in
    none_then c.row_below.result c.row_below.ensures.none (λ below other w.
    (let l = crossed_within c.self.inside.records.items c.self.inside.places.items c.args.hash c.args.first.now
    c.args.second.now other c.self.invariant.placed (rw (← ap (λ x. x.rows) c.self.view_is) at w) in
    let e = ap (λ x. rank_of x.ranks other) c.self.view_is in
    below other (omega (arith, l, e, bound, size)) w))
