use Rattle.std.proofs.Common.{◌≡◌, ◌<◌, ◌+◌, ◌-◌, ◌++◌, length, List, sym, ap, ◌∙◌, arith, ℕ}
use Rattle.std.specs.List.{flat_map, range_with_len}
use Rattle.chr_overlaps.specs.declared.overlap.Overlap.{Overlap}
use Rattle.chr_overlaps.specs.working.Listing.{overlaps_of_pair, begun}
use Rattle.chr_overlaps.proofs.Steps.{more_overlaps, pair_added}
use Rattle.chr_overlaps.proofs.listing.add_overlaps_of.Goals as goal

pub loop-other-preserved : goal.loop-other-preserved
loop-other-preserved c =
    let rules = c.args.rules.now in
    let i = c.args.place in
    let j = c.loop-other.other in
    let here : i < length rules = c.requires.there in
    let there : j < length rules = omega arith in
    let low : i + (j - i) ≡ j = omega arith in
    let next : j + 1 - i ≡ (j - i) + 1 = omega arith in
    let o : Overlap = record { first = i + 1; second = j + 1; matching = c.new.result } in
    let start : o ≡ begun i j = λ k. record {
      first = i + 1;
      second = j + 1;
      matching =
          record { items = c.new.ensures k };
    } in
    let step : c.add_overlaps.new.found.items ≡ c.loop-other.found.items ++ overlaps_of_pair rules i j =
    c.in_ok-add_overlaps.ensures ∙ ap (λ (xs : List Overlap). c.loop-other.found.items ++ xs)
    (pair_added rules i j c.index-rules-place.result c.index-rules-other.result o here there c.index-rules-place.is
    c.index-rules-other.is start) in
    more_overlaps (overlaps_of_pair rules i) c.args.found.now.items c.loop-other.found.items
    c.add_overlaps.new.found.items i (j - i) j c.loop-other.invariant step (sym low)
    ∙ ap (λ (n : ℕ). c.args.found.now.items ++ flat_map (overlaps_of_pair rules i) (range_with_len i n)) (sym next)
