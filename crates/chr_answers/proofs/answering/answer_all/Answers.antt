use Rattle.std.proofs.Common.{ap, ◌∙◌}
use Rattle.std.specs.Prelude.{string_bytes}
use Rattle.chr_answers.specs.Lines.{without_return}
use Rattle.chr_answers.specs.Services.{held}
use Rattle.chr_answers.proofs.Continuing.{all_answered}
use Rattle.chr_answers.proofs.answering.answer_all.Goals as goal

pub returns : goal.returns
returns g c =
    all_answered c.args.text.now c.args.at c.in_ok-at.at c.without_return-line.result.now
    (held c.answer_line.new.service) (string_bytes c.answer_line.new.out) c.in_ok-at.ensures
    (c.without_return-line.ensures ∙ ap without_return c.last_bytes.ensures) c.in_ok-answer_line.ensures.answer
