use Rattle.std.proofs.Common.{rules, arith, ◌∙◌}
use Rattle.std.proofs.lemmas.List.Sorted.{IsPartitionPoint-from_clause}
use Rattle.chr_ops.specs.working.Entries.{is_before}
use Rattle.chr_ops.proofs.Appended.{count_prefix, counted, down_before, partitioned}
use Rattle.chr_ops.proofs.entries.count_before.Goals as goal

pub returns : goal.returns
returns c =
    let os = c.args.appended.now.items in
    let p = is_before c.args.id in
    let facts = c.partition_point.ensures in
    let point = IsPartitionPoint-from_clause (λ o. p o.0) os c.partition_point.result facts.partitioned
    (partitioned p (down_before c.args.id) os c.requires) (λ a r f called. search rules) in
    counted p os c.partition_point.result (omega (arith, facts.bound, c.args.appended.now.ok.0))
    point.0 point.1 ∙ count_prefix p os
