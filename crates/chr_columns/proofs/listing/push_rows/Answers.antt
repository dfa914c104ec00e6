use Rattle.std.proofs.Common.{◌≡◌, ◌++◌, sym, ap, ◌∙◌, [], ◌∷◌, append_assoc, arith}
use Rattle.std.proofs.lemmas.Grind.{common_steps}
use Rattle.chr_columns.proofs.Listed.{live_more, dead_more}
use Rattle.chr_columns.proofs.listing.push_rows.Goals as goal
use Rattle.chr_columns.proofs.listing.push_rows.Goals.{in-Some+else-is_err, in_default}

pub loop-row-preserved : goal.loop-row-preserved
loop-row-preserved c =
    let rows = c.args.table.now.rows in
    let i = c.loop-row.row in
    let old = c.args.atoms.now.items in
    elim c.match-get.branch [
      | in-Some+else-is_err w ↦ (let new : w.push.new.self.items ≡ c.loop-row.atoms.items ++ w.in-Some.atom ∷ [] =
          grind (arith, common_steps) in
          ap (λ v. v.items) w.atoms-is ∙ new ∙ ap (λ as'. as' ++ w.in-Some.atom ∷ []) c.loop-row.invariant
          ∙ append_assoc old _ (w.in-Some.atom ∷ [])
          ∙ ap (λ as'. old ++ as') (sym (live_more rows i w.in-Some.atom (sym w.in-Some.ensures))))
      | in_default w ↦ ap (λ v. v.items) w.atoms-is ∙ c.loop-row.invariant
          ∙ ap (λ as'. old ++ as') (sym (dead_more rows i (sym w.in_default.ensures)))
    ]
