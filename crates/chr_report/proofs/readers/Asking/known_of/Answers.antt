use Rattle.std.proofs.Common.{ap, sym, subst, ◌∙◌}
use Rattle.std.specs.Arc.{arc_value}
use Rattle.std.specs.Prelude.{IfSome}
use Rattle.chr_join.specs.AcceptedPrograms.{program_in}
use Rattle.chr_answers.specs.Ahead.{IsAhead}
use Rattle.chr_report.specs.working.BlockLines.{lines_of}
use Rattle.chr_report.proofs.readers.Asking.known_of.Goals as goal

pub returns-then-not-has_lines_of : goal.returns-then-not-has_lines_of
returns-then-not-has_lines_of g c =
    c.none.ensures (program_in c.args.self.now.accepted.now) (lines_of c.args.block.now)

pub returns : goal.returns
returns g c = c.none-in-None.ensures (program_in c.args.self.now.accepted.now) (lines_of c.args.block.now)

pub returns-in-Some : goal.returns-in-Some
returns-in-Some g c =
    let p = program_in c.args.self.now.accepted.now in
    let done = c.args.done in
    subst (λ l. IsAhead p l c.in-Some.ahead)
    (ap lines_of (sym c.deref.ensures) ∙ c.has_lines_of.ensures c.if-not-has_lines_of.false)
    (subst (λ o. IfSome o (IsAhead p (lines_of (arc_value done.block)))) c.in-Some.is
    (c.requires.agree.back done c.requires.known))
