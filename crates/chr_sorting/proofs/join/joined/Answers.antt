use Rattle.std.proofs.Common.{[], sym, ap, subst, ◌∙◌, take, ◌+◌, length, List, ℕ}
use Rattle.std.proofs.lemmas.List.FromFn.{length-range_with_len}
use Rattle.chr_sorting.specs.working.Notes.{Joins}
use Rattle.chr_sorting.proofs.Joining.{none_joined, step_joined, step_other}
use Rattle.chr_sorting.proofs.join.joined.Goals as goal
use Rattle.chr_sorting.proofs.join.joined.Goals.{in-Joined+in_ok-sorts-2, in_default}

pub loop-note-init : goal.loop-note-init
loop-note-init c =
    let is = c.in_ok-sorts.ensures in
    record {
      joins = subst (Joins []) (sym is) (none_joined c.args.positions);
      len = ap length is ∙ length-range_with_len 0 c.args.positions;
    }

pub loop-note-preserved : goal.loop-note-preserved
loop-note-preserved c =
    let notes = c.args.notes.now in
    let i = c.loop-note.note-index in
    let l = c.loop-note-test.true in
    elim c.match-note.branch [
      | in-Joined+in_ok-sorts-2 w ↦
          let p = w.in-Joined.one in
          let q = w.in-Joined.other in
          let before = c.loop-note.sorts.items in
          let e = w.deref.ensures.value in
          let more = w.in_ok-sorts-2.ensures.joins (take i notes)
          (subst (λ (ts : List ℕ). Joins (take i notes) ts) (sym e) c.loop-note.invariant.joins) in
          record {
            joins = subst (λ (ts : List ℕ). Joins (take (i + 1) notes) ts) (sym (ap (λ v. v.items) w.sorts-is))
                (step_joined notes i _ p q w.in_ok-sorts-2.sorts.items l w.in-Joined.is more);
            len = ap (λ v. length v.items) w.sorts-is ∙ w.in_ok-sorts-2.ensures.len ∙ ap length e
                ∙ c.loop-note.invariant.len;
          }
      | in_default w ↦ record {
        joins = subst (λ (ts : List ℕ). Joins (take (i + 1) notes) ts) (sym (ap (λ v. v.items) w.sorts-is))
            (step_other notes i _ c.loop-note.sorts.items l w.in_default.not-Joined c.loop-note.invariant.joins);
        len = ap (λ v. length v.items) w.sorts-is ∙ c.loop-note.invariant.len;
      }
    ]
