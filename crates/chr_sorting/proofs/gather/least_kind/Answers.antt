use Rattle.std.proofs.Common.{sym, ap, subst, ◌∙◌, take, ◌+◌}
use Rattle.chr_sorting.specs.FinestSorts.{sort_in, kind_of}
use Rattle.chr_sorting.specs.working.Notes.{IsBelow, IsLeastKind}
use Rattle.std.specs.Prelude.{length}
use Rattle.chr_sorting.proofs.Joining.{sort_here}
use Rattle.chr_sorting.proofs.LeastKinds.{step_raised, step_elsewhere, step_other}
use Rattle.chr_confluence.specs.Sorts.{Kind}
use Rattle.chr_sorting.proofs.gather.least_kind.Goals as goal
use Rattle.chr_sorting.proofs.gather.least_kind.Goals.{in-Compared+then-sorts-position, in-Compared+else-sorts-position}
use Rattle.chr_sorting.proofs.gather.least_kind.Goals.{in_default}

pub loop-note-preserved : goal.loop-note-preserved
loop-note-preserved c =
    let notes = c.args.notes.now in
    let sorts = c.args.sorts.now in
    let f = sort_in sorts in
    let n = c.args.sort in
    let i = c.loop-note.note-index in
    let l = c.loop-note-test.true in
    let k = kind_of c.loop-note.kind in
    elim c.match-note.branch [
      | in-Compared+then-sorts-position w ↦
          let p = w.in-Compared.position in
          let here = subst (IsBelow (length sorts)) w.in-Compared.is (c.requires i _ l) in
          subst (λ (x : Kind). IsLeastKind (take (i + 1) notes) f n x)
          (sym (ap kind_of w.kind-is ∙ w.raised-kind.ensures))
          (step_raised f n notes i _ k p w.in-Compared.cmp l w.in-Compared.is c.loop-note.invariant
          (sort_here sorts p p 0 here ∙ w.if-sorts-position.true))
      | in-Compared+else-sorts-position w ↦
          let p = w.in-Compared.position in
          let here = subst (IsBelow (length sorts)) w.in-Compared.is (c.requires i _ l) in
          subst (λ (x : Kind). IsLeastKind (take (i + 1) notes) f n x) (sym (ap kind_of w.kind-is))
          (step_elsewhere f n notes i _ k p w.in-Compared.cmp l w.in-Compared.is c.loop-note.invariant
          (λ e. w.if-sorts-position.false (sort_here sorts p 0 p here ∙ e)))
      | in_default w ↦
          subst (λ (x : Kind). IsLeastKind (take (i + 1) notes) f n x) (sym (ap kind_of w.kind-is))
          (step_other f n notes i _ k l w.in_default.not-Compared c.loop-note.invariant)
    ]
