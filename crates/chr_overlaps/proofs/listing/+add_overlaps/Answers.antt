use Rattle.std.proofs.Common.{◌≡◌, ◌++◌, List, ap, ◌∙◌, arith}
use Rattle.chr_overlaps.specs.declared.overlap.Overlap.{Overlap}
use Rattle.chr_overlaps.proofs.Steps.{next, more_overlaps, none_added, entry_follows, entry_not}
use Rattle.chr_overlaps.proofs.listing.+add_overlaps.Goals as goal
use Rattle.chr_overlaps.proofs.listing.+add_overlaps.Goals.{then-may_follow+in_ok-add_overlaps, else-may_follow}

pub loop-entry-preserved : goal.loop-entry-preserved
loop-entry-preserved t c =
    let r = c.args.first.now in
    let s = c.args.second.now in
    let o = c.args.begun.now in
    let e = c.loop-entry.entry in
    let step : c.if-may_follow.found.items ≡ c.loop-entry.found.items ++ next r s o e = elim c.if-may_follow.branch [
      | then-may_follow+in_ok-add_overlaps w ↦ ap (λ v. v.items) w.found-is ∙ w.in_ok-add_overlaps.ensures
          ∙ ap (λ (xs : List Overlap). c.loop-entry.found.items ++ xs)
          (entry_follows r s o w.with.result _ e _ w.with.ensures c.deref-in-loop-entry.ensures.0 c.may_follow.ensures
          w.if-may_follow.true)
      | else-may_follow w ↦ ap (λ v. v.items) w.found-is ∙ none_added (next r s o) c.loop-entry.found.items e
          (entry_not r s o _ e _ c.deref-in-loop-entry.ensures.0 c.may_follow.ensures w.if-may_follow.false)
    ] in
    more_overlaps (next r s o) c.args.found.now.items c.loop-entry.found.items c.if-may_follow.found.items 0 e e
    c.loop-entry.invariant step (omega arith)
