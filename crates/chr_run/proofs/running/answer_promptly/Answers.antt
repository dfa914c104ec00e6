use Rattle.std.proofs.Common.{◌≡◌, [], refl, rules}
use Rattle.std.specs.Prelude.{string_bytes}
use Rattle.chr_run.proofs.Inputs.{if_err}
use Rattle.chr_run.proofs.Outputs.{both_ok, is_prompt, served, served_part}
use Rattle.chr_run.proofs.running.answer_promptly.Goals as goal

pub answer-requires-clause-prompt : goal.answer-requires-clause-prompt
answer-requires-clause-prompt g c s p k m left has more settled fits =
    let none : string_bytes c.new-held.result ≡ [] = search rules in
    let first : c.new-batch.result.items ≡ [] = search rules in
    c.requires.prompt p (is_prompt (g.M.Machine.Answers c.args.machine.now) g.M.Machine.IsDone m _ _ _ _ _ _ _
    first none settled (λ done. more (refl, done)) has)

pub returns-clause-ok : goal.returns-clause-ok
returns-clause-ok g c =
    let none : string_bytes c.new-held.result ≡ [] = search rules in
    let first : c.new-batch.result.items ≡ [] = search rules in
    both_ok c.answer.result (λ a f. served _ _ _ _ _ _ _ _ refl first none f a) c.answer.ensures.ok
    c.answer.ensures.settled

pub returns-clause-err : goal.returns-clause-err
returns-clause-err g c =
    let none : string_bytes c.new-held.result ≡ [] = search rules in
    let first : c.new-batch.result.items ≡ [] = search rules in
    if_err c.answer.result (served_part (g.M.Machine.AnswersAll c.args.machine.now) _ _ _ _ _ _ refl first none)
    c.answer.ensures.err
