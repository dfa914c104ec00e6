use Rattle.std.proofs.Common.{ap, sym, ◌∙◌, ◌≤◌}
use Rattle.std.proofs.lemmas.List.Sorted.{All-permutation, list_any-IsPermutation}
use Rattle.chr_ops.specs.declared.range.IdRange.{IdRange}
use Rattle.chr_ops.specs.Summaries.{in_range, covers}
use Rattle.chr_ops.proofs.summary.Summary.of.Goals as goal

pub merge_ranges-requires-clause-ranges : goal.merge_ranges-requires-clause-ranges
merge_ranges-requires-clause-ranges c =
    let P : IdRange → Type 0 = λ r. r.lo ≤ r.hi in
    rw c.deref.ensures.value (All-permutation P c.args.ranges.items c.sort_unstable.new.self.items
    c.sort_unstable.ensures.permutation c.requires)

pub returns : goal.returns
returns c = λ id.
    ap (λ rs. covers rs id) c.of_merged.ensures ∙ c.in_ok-merge_ranges.ensures.covers id
    ∙ ap (λ rs. covers rs id) c.deref.ensures.value
    ∙ sym (list_any-IsPermutation (λ r. in_range r id) c.args.ranges.items c.sort_unstable.new.self.items
    c.sort_unstable.ensures.permutation)
