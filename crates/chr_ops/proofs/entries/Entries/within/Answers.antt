use Rattle.std.proofs.Common.{arith, ap, sym, ◌∙◌, ◌++◌, slice_range}
use Rattle.std.specs.FinMap as map
use Rattle.chr_ops.specs.working.Entries.{is_before, is_up_to}
use Rattle.chr_ops.specs.working.Walks.{first_id, last_id, within}
use Rattle.chr_ops.proofs.Appended.{count_while, count_prefix, counted_inside, counted_less, rise_back, start_is_up_to}
use Rattle.chr_ops.proofs.Appended.{within_both}
use Rattle.chr_ops.proofs.CoveredLists.{stands_within}
use Rattle.chr_ops.proofs.entries.Entries.within.Goals as goal

pub count_before-start-requires : goal.count_before-start-requires
count_before-start-requires c = rise_back c.self.inside.bags.entries c.self.inside.appended.items c.self.invariant

pub count_up_to-end-requires : goal.count_up_to-end-requires
count_up_to-end-requires c = rise_back c.self.inside.bags.entries c.self.inside.appended.items c.self.invariant

pub range-requires-2-clause-start_le_end : goal.range-requires-2-clause-start_le_end
range-requires-2-clause-start_le_end c =
    let r = c.args.range.now in
    let os = c.self.inside.appended.items in
    let start = c.count_before-start.ensures ∙ sym (count_prefix (is_before c.first.result) os)
    ∙ ap (λ a. count_while (is_before a) os) c.first.ensures in
    let end = c.count_up_to-end.ensures ∙ sym (count_prefix (is_up_to c.last.result) os)
    ∙ ap (λ a. count_while (is_up_to a) os) c.last.ensures in
    let fewer = counted_less (is_before (first_id r)) (is_up_to (last_id r)) (start_is_up_to r c.requires) os in
    omega (arith, start, end, fewer)

pub range-requires-2-clause-in_bounds : goal.range-requires-2-clause-in_bounds
range-requires-2-clause-in_bounds c =
    let os = c.self.inside.appended.items in
    let end = c.count_up_to-end.ensures ∙ sym (count_prefix (is_up_to c.last.result) os) in
    let inside = counted_inside (is_up_to c.last.result) os in
    let len = c.self.inside.appended.ok.0 in
    omega (arith, end, inside, len)

pub returns : goal.returns
returns c =
    let r = c.args.range.now in
    let es = c.self.inside.bags.entries in
    let os = c.self.inside.appended.items in
    let start = c.count_before-start.ensures ∙ sym (count_prefix (is_before c.first.result) os)
    ∙ ap (λ a. count_while (is_before a) os) c.first.ensures in
    let end = c.count_up_to-end.ensures ∙ sym (count_prefix (is_up_to c.last.result) os)
    ∙ ap (λ a. count_while (is_up_to a) os) c.last.ensures in
    let begins = c.new.ensures.start ∙ c.first-2.ensures in
    let ends = c.new.ensures.end ∙ c.last-2.ensures in
    let front = c.range.ensures.between c.new.ensures.exhausted ∙ stands_within r _ _ begins ends es in
    let back = c.range-2.ensures.rest ∙ (λ i. slice_range os (start i) (end i)) in
    (λ i. front i ++ back i) ∙ within_both r c.requires es os c.self.invariant
    ∙ ap (λ m. within r (map.entries m)) c.self.view_is
