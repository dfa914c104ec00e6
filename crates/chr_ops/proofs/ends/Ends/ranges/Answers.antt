use Rattle.std.proofs.Common.{rules, ap, sym, ◌∙◌, ◌≡◌, []}
use Rattle.std.specs.Prelude.{map as each}
use Rattle.std.specs.List.Sorted.{IsStrictlySortedBy}
use Rattle.std.specs.Map.{keys_of}
use Rattle.chr_ops.specs.Ids.{id_cmp}
use Rattle.chr_ops.specs.working.Covering.{end_range, end_ranges}
use Rattle.chr_ops.proofs.EntryLists.{entries_of}
use Rattle.chr_ops.proofs.ends.Ends.ranges.Goals as goal

pub loop-first-init : goal.loop-first-init
loop-first-init c =
    let es = c.self.inside.last.entries in
    let ordered : IsStrictlySortedBy id_cmp (keys_of es) = search rules in
    let all : c.into_iter-first-iterator.result ≡ es = search rules in
    let none : c.new-ranges.result.items ≡ [] = search rules in
    rw (all, none) (ap (each end_range) (sym (entries_of es ordered)) ∙ ap end_ranges c.self.view_is)
