use Rattle.std.proofs.Common.{rules, ◌≡◌, ◌<◌, ◌≤◌, ◌∙◌, get_or, length, subst}
use Rattle.std.specs.List.{All}
use Rattle.std.proofs.lemmas.Bool.{OnTrue_at}
use Rattle.std.proofs.lemmas.List.{take_all}
use Rattle.chr_base.specs.Programs.{declarations}
use Rattle.chr_printing.specs.working.Printing.{IsWrittenOut}
use Rattle.chr_printing.proofs.Printed.{one_same, one_written}
use Rattle.chr_printing.proofs.writing.write_each.Goals as goal

pub loop-place-preserved : goal.loop-place-preserved
loop-place-preserved c =
    let fs = c.loop-place.flats.items in
    let i = c.loop-place.place in
    let f = c.index_mut.result.now in
    let within : i < length fs = search rules in
    let here : f ≡ get_or fs i f = search rules in (
      one_same fs i f c.write.new.flat within here c.write.ensures.atoms ∙ c.loop-place.invariant.0,
      one_written (declarations c.args.program.now) fs i c.write.new.flat within c.loop-place.invariant.1
          (OnTrue_at c.if-not-branch.false c.in_ok-write.ensures.written),
    )

pub returns-clause-written : goal.returns-clause-written
returns-clause-written c =
    let fs = c.loop-place.flats.items in
    let done : length fs ≤ c.loop-place.place = search rules in
    subst (All (IsWrittenOut (declarations c.args.program.now))) (take_all c.loop-place.place fs done)
    c.loop-place.invariant.1
