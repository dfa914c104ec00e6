use Rattle.std.proofs.Common.{rules, ◌≡◌, ◌++◌, ◌∙◌, ap, append_assoc, codes}
use Rattle.std.specs.Prelude.{string_bytes}
use Rattle.chr_answers.specs.working.ReplyTexts.{told_lines}
use Rattle.chr_answers.proofs.ToldAhead.{told_push}
use Rattle.chr_answers.proofs.answering.push_told.Goals as goal

pub loop-line-preserved : goal.loop-line-preserved
loop-line-preserved c =
    let before = string_bytes c.args.out.now in
    let lines = told_lines c.loop-line._line in
    let added : string_bytes c.push_str.new.self ≡ string_bytes c.loop-line.out ++ codes "told\n" = search rules in
    added ∙ ap (λ b. b ++ codes "told\n") c.loop-line.invariant ∙ append_assoc before lines (codes "told\n")
    ∙ ap (λ l. before ++ l) (told_push c.loop-line._line)
