use Rattle.std.proofs.Common.{refl, sym, ap, subst, ◌∙◌, ◌≡◌, All, map}
use Rattle.std.proofs.lemmas.List.Elements.{All-head}
use Rattle.std.specs.Arc.{arc_value}
use Rattle.chr_base.specs.Programs.{declarations, rules_of}
use Rattle.chr_join.specs.AcceptedPrograms.{program_in}
use Rattle.chr_answers.specs.Lines.{AreWholeLines}
use Rattle.chr_report.specs.working.BlockLines.{lines_of}
use Rattle.chr_answers.specs.Continuing.{AnswersLines}
use Rattle.chr_answers.specs.Services.{held, served}
use Rattle.chr_answers.specs.Answered.{AnswersFront}
use Rattle.chr_answers.proofs.Continuing.{program_of_both, whole_answered}
use Rattle.chr_report.proofs.InBlocks.{first_answered, none_first}
use Rattle.chr_report.proofs.blocks.Blocks.answer_first.Goals as goal

pub returns-in_default-clause-answers : goal.returns-in_default-clause-answers
returns-in_default-clause-answers g c =
    let items = c.in_default.ensures.items in
    none_first c.args.self _ refl refl c.requires.whole refl (ap (λ bs. map (λ b. arc_value b) bs) items)
    c.requires.ready

pub returns-clause-answers : goal.returns-clause-answers
returns-clause-answers g c =
    let s = c.args.self in
    let block = arc_value c.in-Some.block in
    let lines = lines_of block in
    let first = ap (λ bs. map (λ b. arc_value b) bs) c.in-Some.ensures.items in
    let text : c.lines.result.now ≡ lines = c.lines.ensures ∙ ap lines_of c.deref-2.ensures in
    let a : AnswersLines lines s.at c.in_ok-at.at =
    subst (λ t. AnswersLines t s.at c.in_ok-at.at) text c.in_ok-at.ensures in
    let whole = All-head (λ b. AreWholeLines (lines_of b)) block _
    (subst (All (λ b. AreWholeLines (lines_of b))) first c.requires.whole) in
    let program = program_of_both s.at.service c.rest_told.new.service (program_in c.args.asking.now.accepted.now)
    (c.in_ok-rest_told.ensures.program ∙ a.0.program) c.requires.program ∙ sym c.requires.program in
    first_answered s _ refl refl c.requires.whole block a.0.out first c.in_ok-rest_told.ensures.ready program
    (subst (λ h. AnswersFront (declarations (served s.at.service)) (rules_of (served s.at.service)) lines
    (held s.at.service) a.0.out h) (sym c.in_ok-rest_told.ensures.operations)
    (whole_answered lines s.at c.in_ok-at.at whole a)) a.0.written
