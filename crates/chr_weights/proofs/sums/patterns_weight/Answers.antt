use Rattle.std.proofs.Common.{ap, arith, rules, ◌≤◌, ◌∙◌, length}
use Rattle.chr_base.specs.declared.weight.Weight.{Weight}
use Rattle.chr_base.specs.Programs.{declarations}
use Rattle.chr_weights.specs.Weights.{weight_in}
use Rattle.chr_weights.proofs.Weighing.{next_declared, declared_within, pattern_weight, patterns_more}
use Rattle.chr_weights.proofs.WeightLaws.{found_at_most}
use Rattle.chr_weights.proofs.sums.patterns_weight.Goals as goal

pub weight_of-requires : goal.weight_of-requires
weight_of-requires c =
    declared_within (declarations c.args.program.now) c.pattern-item.result.symbol.0
    (length c.pattern-item.result.args.items)
    (next_declared c.args.program.now c.args.patterns.now c.loop-pattern.pattern-index c.pattern-item.result
    c.requires.declared c.loop-pattern-test.true c.pattern-item.is)

pub plus-sum-requires : goal.plus-sum-requires
plus-sum-requires c =
    let one = found_at_most c.args.program.now c.pattern-item.result.symbol.0 c.weight_of.result c.weight_of.ensures in
    let a = one.0 in
    let b = one.1 in
    record {
      first = omega (arith, a, c.loop-pattern.invariant.first, c.loop-pattern-test.true, c.requires.few);
      second = omega (arith, b, c.loop-pattern.invariant.second, c.loop-pattern-test.true, c.requires.few);
    }

pub loop-pattern-preserved : goal.loop-pattern-preserved
loop-pattern-preserved c =
    let one = found_at_most c.args.program.now c.pattern-item.result.symbol.0 c.weight_of.result c.weight_of.ensures in
    let a = one.0 in
    let b = one.1 in
    let first = ap (λ (w : Weight). w.first) c.plus-sum.ensures in
    let second = ap (λ (w : Weight). w.second) c.plus-sum.ensures in
    record {
      sum = λ v. (let d = next_declared c.args.program.now c.args.patterns.now c.loop-pattern.pattern-index
          c.pattern-item.result c.requires.declared c.loop-pattern-test.true c.pattern-item.is in
          patterns_more (weight_in c.args.program.now) c.args.patterns.now c.loop-pattern.pattern-index
          c.pattern-item.result v c.loop-pattern.sum c.weight_of.result c.plus-sum.result c.loop-pattern-test.true
          c.pattern-item.is
          (pattern_weight c.args.program.now c.pattern-item.result c.weight_of.result v d c.weight_of.ensures)
          (c.loop-pattern.invariant.sum v) c.plus-sum.ensures);
      first = omega (arith, first, a, c.loop-pattern.invariant.first);
      second = omega (arith, second, b, c.loop-pattern.invariant.second);
    }
