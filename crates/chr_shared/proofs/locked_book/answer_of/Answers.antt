use Rattle.std.proofs.Common.{◌∙◌, refl, sym}
use Rattle.chr_shared.proofs.Showing.{refused_answer, shown_answer}
use Rattle.chr_shared.proofs.locked_book.answer_of.Goals as goal

pub returns-in-Some : goal.returns-in-Some
returns-in-Some c = refused_answer c.args.shown c.args.shown.reply c.in-Some.refusal refl c.requires
    (sym c.refusal_of.ensures ∙ c.in-Some.is)

pub returns-in-None : goal.returns-in-None
returns-in-None c = (refl, shown_answer c.args.shown.reply c.requires (sym c.refusal_of.ensures ∙ c.in-None.is))
