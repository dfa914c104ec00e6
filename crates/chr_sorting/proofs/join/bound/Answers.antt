use Rattle.std.proofs.Common.{subst}
use Rattle.std.specs.List.{All}
use Rattle.std.proofs.lemmas.List.{take_all}
use Rattle.chr_sorting.specs.working.Notes.{IsBelow}
use Rattle.chr_sorting.proofs.Joining.{step_below}
use Rattle.chr_sorting.proofs.join.bound.Goals as goal

pub loop-note-preserved : goal.loop-note-preserved
loop-note-preserved c = step_below c.args.notes.now c.loop-note.note-index _ c.loop-note.bound c.raised-bound.result
    c.loop-note-test.true c.raised-bound.ensures.least c.loop-note.invariant c.raised-bound.ensures.below

pub returns : goal.returns
returns c = subst (All (IsBelow c.loop-note.bound)) (take_all c.loop-note.note-index c.args.notes.now
    c.loop-note-test.false) c.loop-note.invariant
