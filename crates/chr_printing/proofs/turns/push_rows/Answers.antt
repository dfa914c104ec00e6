use Rattle.std.proofs.Common.{◌≡◌, ◌+◌, ◌++◌, [], ◌∷◌, take, sym, ap, ◌∙◌, append_assoc}
use Rattle.std.proofs.lemmas.Bool.{OnTrue_at, OnFalse_at}
use Rattle.chr_plans.specs.Grids.{live_atoms}
use Rattle.chr_printing.specs.working.Printing.{turn_rows}
use Rattle.chr_columns.proofs.Listed.{live_more, dead_more}
use Rattle.chr_printing.proofs.turns.push_rows.Goals as goal
use Rattle.chr_printing.proofs.turns.push_rows.Goals.{then-read+in_ok-push_one, else-read}

pub loop-row-preserved : goal.loop-row-preserved
loop-row-preserved c =
    let rows = turn_rows c.args.source.now in
    let i = c.loop-row.row in
    elim c.if-read.branch [
      | then-read+in_ok-push_one w ↦ (λ start before h.
          let atom = c.read.new.atom in
          let next = live_more rows i atom (OnTrue_at w.if-read.true c.read.ensures.there) in
          let done = before ++ live_atoms (take i rows) in
          let whole : before ++ live_atoms (take (i + 1) rows) ≡ done ++ atom ∷ [] =
          ap (λ xs. before ++ xs) next ∙ sym (append_assoc before (live_atoms (take i rows)) (atom ∷ [])) in
          let more = w.in_ok-push_one.ensures start done (c.loop-row.invariant start before h) in
          rw (whole, w.out-is, w.started-is) more)
      | else-read w ↦ (λ start before h.
          rw (dead_more rows i (OnFalse_at w.if-read.false c.read.ensures.none), w.out-is, w.started-is)
          (c.loop-row.invariant start before h))
    ]
