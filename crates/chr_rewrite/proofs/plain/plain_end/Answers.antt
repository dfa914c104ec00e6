use Rattle.std.proofs.Common.{ap, sym, ◌∙◌}
use Rattle.chr_base.specs.Programs.{rules_of}
use Rattle.chr_weights.specs.WeighedPrograms.{program_of}
use Rattle.chr_rewrite.proofs.Deriving.{found_lowers, found_more, at_end}
use Rattle.chr_rewrite.proofs.plain.plain_end.Goals as goal

pub loop-now-smaller : goal.loop-now-smaller
loop-now-smaller c =
    found_lowers (program_of c.args.weighed.now) c.rules-rules.result.now
    (c.rules-rules.ensures ∙ ap rules_of c.program.ensures) c.in_ok-take_least.field-0 c.loop-now.now
    c.take_least.new.bag c.args.weighed.now.lowers
    (sym c.is_some.ensures ∙ c.if-is_some.true) c.in_ok-take_least.ensures.taken

pub loop-now-preserved : goal.loop-now-preserved
loop-now-preserved c =
    found_more (program_of c.args.weighed.now) c.rules-rules.result.now
    (c.rules-rules.ensures ∙ ap rules_of c.program.ensures) c.in_ok-take_least.field-0 c.args.bag.now c.loop-now.now
    c.take_least.new.bag
    (sym c.is_some.ensures ∙ c.if-is_some.true) c.in_ok-take_least.ensures.least c.in_ok-take_least.ensures.taken
    c.loop-now.invariant

pub returns : goal.returns
returns c =
    at_end (program_of c.args.weighed.now) c.rules-rules.result.now
    (c.rules-rules.ensures ∙ ap rules_of c.program.ensures) c.in_ok-take_least.field-0 c.args.bag.now c.loop-now.now
    c.take_least.new.bag
    (sym c.is_some.ensures ∙ c.if-is_some.false) c.in_ok-take_least.ensures.rests c.in_ok-take_least.ensures.same
    c.loop-now.invariant
