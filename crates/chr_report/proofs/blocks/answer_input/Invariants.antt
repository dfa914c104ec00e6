use Rattle.chr_join.specs.AcceptedPrograms.{program_in}
use Rattle.chr_report.specs.working.Readings.{IsRead}
use Rattle.chr_report.proofs.blocks.answer_input.Given as goal

abbrev pub ghosts-answer_beside : goal.ghosts-answer_beside
ghosts-answer_beside g a = record { holds = IsRead (program_in a.accepted.now) }
