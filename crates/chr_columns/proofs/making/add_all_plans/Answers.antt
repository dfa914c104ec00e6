use Rattle.std.proofs.Common.{length, refl}
use Rattle.std.proofs.lemmas.Option.{slice_get_read}
use Rattle.chr_plans.specs.Plans.{pattern_at}
use Rattle.chr_columns.proofs.Planned.{grouped_same, keep_all, covered_more}
use Rattle.chr_columns.proofs.making.add_all_plans.Goals as goal

pub add_plans-requires-clause-grouped : goal.add_plans-requires-clause-grouped
add_plans-requires-clause-grouped c p l =
    let x = c.index-rules-number.result in
    let at = slice_get_read c.args.rules.now (length c.args.rules.now) c.loop-number.number x refl
    c.loop-number-test.true c.index-rules-number.is in
    grouped_same c.args.groups.now c.loop-number.groups (pattern_at x p) c.loop-number.invariant.keep.shapes
    (c.requires.grouped c.loop-number.number x at p l)

pub loop-number-preserved : goal.loop-number-preserved
loop-number-preserved c =
    let x = c.index-rules-number.result in
    let at = slice_get_read c.args.rules.now (length c.args.rules.now) c.loop-number.number x refl
    c.loop-number-test.true c.index-rules-number.is in
    record {
      tables = c.add_plans.ensures.tables;
      keep = keep_all _ _ _ c.loop-number.invariant.keep c.in_ok-add_plans.ensures.keep;
      planned = c.in_ok-add_plans.ensures.planned c.args.rules.now at c.loop-number.invariant.planned;
      covered = covered_more c.args.rules.now _ _ c.loop-number.number x c.in_ok-add_plans.ensures.keep
          c.loop-number-test.true c.index-rules-number.is c.loop-number.invariant.covered
          c.in_ok-add_plans.ensures.plans;
    }
