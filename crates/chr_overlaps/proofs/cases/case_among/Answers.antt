use Rattle.chr_weights.specs.WeighedPrograms.{rules_in}
use Rattle.chr_overlaps.proofs.UnifiedOverlaps.{unified_in, case_in}
use Rattle.chr_overlaps.proofs.cases.case_among.Goals as goal

pub case_at-requires : goal.case_at-requires
case_at-requires c =
    unified_in (rules_in c.args.weighed.now) c.args.overlap.now c.rule_of-first.result.now c.rule_of-second.result.now
    c.args.unified.now (c.rule_of-first.ensures, c.rule_of-second.ensures) c.requires.unified

pub returns : goal.returns
returns c r1 r2 a =
    case_in (rules_in c.args.weighed.now) c.args.overlap.now c.rule_of-first.result.now c.rule_of-second.result.now r1
    r2 c.args.unified.now c.args.values.now c.case_at.result (c.rule_of-first.ensures, c.rule_of-second.ensures) a
    c.case_at.ensures
