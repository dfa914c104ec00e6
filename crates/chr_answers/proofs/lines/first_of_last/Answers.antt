use Rattle.std.proofs.Common.{◌≡◌, ◌∷◌, ◌++◌, sym, ap, ◌∙◌, rules}
use Rattle.chr_answers.specs.Lines.{last_bytes}
use Rattle.chr_answers.proofs.Continuing.{last_after}
use Rattle.chr_answers.proofs.lines.first_of_last.Goals as goal

pub returns-clause-some : goal.returns-clause-some
returns-clause-some c =
    let text = c.args.text.now in
    let line = c.in_ok-line.line.now in
    let rest = c.in_ok-line.rest.now in
    let cut : last_bytes c.args.left text ≡ line ++ 10 ∷ rest = search rules in
    cut ∙ ap (λ r. line ++ 10 ∷ r) (sym (last_after text line rest c.args.left cut))
