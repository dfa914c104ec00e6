use Rattle.std.proofs.Common.{◌≤◌, ◌+◌, length, subst, sym}
use Rattle.std.specs.Prelude.{Err, IfOk, IfNone, IfSome}
use Rattle.chr_read.specs.Meanings.{meaning_of}
use Rattle.chr_read.specs.ProgramTexts.{IsAnswer}
use Rattle.chr_faults.specs.BadClauses.{IsProgram}
use Rattle.chr_faults.proofs.Shorter.{refused_within}
use Rattle.chr_faults.proofs.faults.first_bad.Goals as goal
use Rattle.chr_faults.proofs.faults.first_bad.Goals.{in-Ok, in-Err-Bad, in-Err-Memory}

pub returns-clause-none : goal.returns-clause-none
returns-clause-none c = elim c.match-read.branch [
  | in-Ok w ↦ subst (λ r. IfOk r (λ bad. IfNone bad (IsProgram c.args.text.now))) (sym w.result-is)
      (meaning_of w.in-Ok.field-0, w.in-Ok.ensures)
  | in-Err-Bad w ↦ subst (λ r. IfOk r (λ bad. IfNone bad (IsProgram c.args.text.now))) (sym w.result-is) tt
  | in-Err-Memory w ↦ subst (λ r. IfOk r (λ bad. IfNone bad (IsProgram c.args.text.now))) (sym w.result-is) tt
]

pub returns-clause-within : goal.returns-clause-within
returns-clause-within c = elim c.match-read.branch [
  | in-Ok w ↦ subst (λ r. IfOk r (λ bad. IfSome bad (λ b. b.number ≤ length c.args.text.now + 1))) (sym w.result-is) tt
  | in-Err-Bad w ↦ subst (λ r. IfOk r (λ bad. IfSome bad (λ b. b.number ≤ length c.args.text.now + 1)))
      (sym w.result-is) (refused_within c.args.text.now w.in-Err-Bad.fault w.in-Err-Bad.clause
      (subst (λ e. IsAnswer c.args.text.now (Err e)) w.in-Err-Bad.field-0-is w.in-Err-Bad.ensures))
  | in-Err-Memory w ↦ subst (λ r. IfOk r (λ bad. IfSome bad (λ b. b.number ≤ length c.args.text.now + 1)))
      (sym w.result-is) tt
]
