use Rattle.std.proofs.Common.{◌+◌, ◌<◌, length, arith}
use Rattle.chr_confluence.specs.Overlaps.{variables_of}
use Rattle.chr_overlaps.proofs.Bounds.{comparisons_below}
use Rattle.chr_overlaps.proofs.sorted.join_guard.Goals as goal

pub renamed_apart-left-requires : goal.renamed_apart-left-requires
renamed_apart-left-requires c =
    let few : c.args.shift + variables_of c.args.rule.now < 256 =
    (let r = c.requires in let f = c.args.classes.now.few in omega (arith, r, f)) in
    (comparisons_below c.args.rule.now c.args.shift 256 c.loop-comparison.comparison-index
    c.as_slice-comparison-items.result.now _ c.as_slice-comparison-items.ensures.value c.loop-comparison-test.true
    few).0

pub renamed_apart-right-requires : goal.renamed_apart-right-requires
renamed_apart-right-requires c =
    let few : c.args.shift + variables_of c.args.rule.now < 256 =
    (let r = c.requires in let f = c.args.classes.now.few in omega (arith, r, f)) in
    (comparisons_below c.args.rule.now c.args.shift 256 c.loop-comparison.comparison-index
    c.as_slice-comparison-items.result.now _ c.as_slice-comparison-items.ensures.value c.loop-comparison-test.true
    few).1

pub join-requires-clause-left : goal.join-requires-clause-left
join-requires-clause-left c =
    let within : c.args.shift + variables_of c.args.rule.now < length c.loop-comparison.classes.terms.items =
    (let r = c.requires in let n = c.loop-comparison.invariant.len in omega (arith, r, n)) in
    rw c.renamed_apart-left.ensures
    (comparisons_below c.args.rule.now c.args.shift _ c.loop-comparison.comparison-index
    c.as_slice-comparison-items.result.now _ c.as_slice-comparison-items.ensures.value c.loop-comparison-test.true
    within).0

pub join-requires-clause-right : goal.join-requires-clause-right
join-requires-clause-right c =
    let within : c.args.shift + variables_of c.args.rule.now < length c.loop-comparison.classes.terms.items =
    (let r = c.requires in let n = c.loop-comparison.invariant.len in omega (arith, r, n)) in
    rw c.renamed_apart-right.ensures
    (comparisons_below c.args.rule.now c.args.shift _ c.loop-comparison.comparison-index
    c.as_slice-comparison-items.result.now _ c.as_slice-comparison-items.ensures.value c.loop-comparison-test.true
    within).1
