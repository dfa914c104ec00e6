use Rattle.std.proofs.Common.{◌≡◌, ◌+◌, ◌++◌, [], ◌∷◌, take, sym, ap, ◌∙◌, append_assoc}
use Rattle.std.proofs.lemmas.Bool.{OnTrue_at, OnFalse_at}
use Rattle.chr_base.specs.Programs.{declarations}
use Rattle.chr_plans.specs.Grids.{live_atoms}
use Rattle.chr_printing.specs.working.Printing.{turn_rows}
use Rattle.chr_columns.proofs.Listed.{live_more, dead_more}
use Rattle.chr_printing.proofs.Printed.{rises_more}
use Rattle.chr_printing.proofs.turns.follow_rows.Goals as goal
use Rattle.chr_printing.proofs.turns.follow_rows.Goals.{then-read+else-not-comes_after, else-read}

pub loop-row-preserved : goal.loop-row-preserved
loop-row-preserved c =
    let ds = declarations c.args.program.now in
    let rows = turn_rows c.args.source.now in
    let i = c.loop-row.row in
    elim c.if-read.branch [
      | then-read+else-not-comes_after w ↦ (λ before h.
          let atom = c.read.new.atom in
          let next = live_more rows i atom (OnTrue_at w.if-read.true c.read.ensures.there) in
          let done = before ++ live_atoms (take i rows) in
          let whole : before ++ live_atoms (take (i + 1) rows) ≡ done ++ atom ∷ [] =
          ap (λ xs. before ++ xs) next ∙ sym (append_assoc before (live_atoms (take i rows)) (atom ∷ [])) in
          rw (whole, w.last-is, w.keep_last.ensures) (rises_more ds done c.loop-row.last atom
          (c.loop-row.invariant before h) w.if-not-comes_after.ensures))
      | else-read w ↦ (λ before h.
          rw (dead_more rows i (OnFalse_at w.if-read.false c.read.ensures.none), w.last-is)
          (c.loop-row.invariant before h))
    ]
