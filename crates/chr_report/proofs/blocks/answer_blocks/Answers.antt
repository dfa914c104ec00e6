use Rattle.std.proofs.Common.{refl, sym, ap, subst, ◌∙◌}
use Rattle.std.specs.Bool.{OnTrue}
use Rattle.std.specs.Io.KnownBytes.{IsAtEnd}
use Rattle.std.specs.Prelude.{string_bytes}
use Rattle.chr_base.specs.Programs.{declarations, rules_of}
use Rattle.chr_device.specs.Devices.{inner_of}
use Rattle.chr_report.specs.working.Blocks.{left_of}
use Rattle.chr_report.specs.working.Continuing.{AnswersUpTo}
use Rattle.chr_answers.specs.Services.{held, served, IsBetweenLines}
use Rattle.chr_report.proofs.InBlocks.{answers_in_blocks, ends_in_blocks, none_answered, reads_in_blocks}
use Rattle.chr_report.proofs.blocks.answer_blocks.Goals as goal

pub loop-block-init : goal.loop-block-init
loop-block-init g c =
    let p = served c.args.service in
    let from = g.D.Read.remaining (inner_of c.args.reader.now) in
    let start = held c.args.service in
    let before = string_bytes c.args.text in
    let s = c.in_ok-blocks.blocks in
    let e = c.in_ok-blocks.ensures in
    record {
      blocks = record {
        ready = subst IsBetweenLines (sym e.service) c.requires.ready;
        program = ap served e.service;
        whole = e.whole;
        answered =
            subst (λ v. AnswersUpTo (declarations p) (rules_of p) c.args.first.now from from (left_of s) start (held v)
            before (string_bytes s.at.out)) (sym e.service)
            (subst (λ o. AnswersUpTo (declarations p) (rules_of p) c.args.first.now from from (left_of s) start start
            before (string_bytes o)) (sym e.out)
            (none_answered (declarations p) (rules_of p) c.args.first.now (left_of s) from start before e.first));
        end = subst (λ b. OnTrue b (IsAtEnd from)) (sym e.ended) c.requires.end;
      };
      accepted = refl;
      whole = refl;
    }

pub loop-block-preserved : goal.loop-block-preserved
loop-block-preserved g c =
    let i = c.loop-block.invariant in
    let f = c.in_ok-fill.ensures in
    let p = served c.args.service in
    let from = g.D.Read.remaining (inner_of c.args.reader.now) in
    let mid = g.D.Read.remaining (inner_of c.loop-block.reader) in
    let to = g.D.Read.remaining (inner_of c.fill.new.reader) in
    let start = held c.args.service in
    let before = string_bytes c.args.text in
    let filled = reads_in_blocks p c.args.first.now from mid start before c.loop-block.blocks c.fill.new.self i.blocks
    to f.read in
    record {
      blocks = answers_in_blocks p c.args.first.now from to start before c.fill.new.self c.in_ok-blocks-2.blocks filled
          c.in_ok-blocks-2.ensures.answers;
      accepted = c.in_ok-blocks-2.ensures.accepted ∙ f.accepted ∙ i.accepted;
      whole = f.whole ∙ i.whole;
    }

pub end-requires-after_bounds : goal.end-requires-after_bounds
end-requires-after_bounds g c κs within =
    subst (λ a. IsBetweenLines a.service) (sym c.in_ok-fill.ensures.read.at) c.loop-block.invariant.blocks.ready

pub answer_first-requires-clause-ready : goal.answer_first-requires-clause-ready
answer_first-requires-clause-ready g c κs within =
    subst (λ a. IsBetweenLines a.service) (sym c.in_ok-fill.ensures.read.at) c.loop-block.invariant.blocks.ready

pub returns-then-is_done-clause-ok : goal.returns-then-is_done-clause-ok
returns-then-is_done-clause-ok g c =
    let i = c.loop-block.invariant in
    let p = served c.args.service in
    let from = g.D.Read.remaining (inner_of c.args.reader.now) in
    let mid = g.D.Read.remaining (inner_of c.loop-block.reader) in
    let to = g.D.Read.remaining (inner_of c.fill.new.reader) in
    let start = held c.args.service in
    let before = string_bytes c.args.text in
    ends_in_blocks p c.args.first.now from to start before (string_bytes c.in_ok-end.field-0) c.fill.new.self
    (reads_in_blocks p c.args.first.now from mid start before c.loop-block.blocks c.fill.new.self i.blocks to
    c.in_ok-fill.ensures.read) (c.is_done.ensures.ended c.if-is_done.true) (c.is_done.ensures.blocks c.if-is_done.true)
    c.in_ok-end.ensures
