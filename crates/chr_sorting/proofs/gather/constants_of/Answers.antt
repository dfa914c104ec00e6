use Rattle.std.proofs.Common.{sym, ap, subst, ◌∙◌, take, ◌+◌, ℤ, List, [], ◌∷◌, rules}
use Rattle.std.specs.Prelude.{length}
use mir.Val.{SFits}
use mir.Syntax.{w64}
use Rattle.std.proofs.lemmas.Int.{to_z-of_z}
use Rattle.chr_base.specs.declared.term.Term.TheVariants.{Constant}
use Rattle.chr_overlaps.specs.working.Gathering.{AreConstantsIn, Gathers}
use Rattle.chr_sorting.specs.FinestSorts.{sort_in}
use Rattle.chr_sorting.specs.working.Notes.{IsBelow, terms_at}
use Rattle.chr_sorting.proofs.Joining.{sort_here}
use Rattle.chr_sorting.proofs.Listing.{constant_gathered, elsewhere_passed, other_passed}
use Rattle.chr_sorting.proofs.gather.constants_of.Goals as goal
use Rattle.chr_sorting.proofs.gather.constants_of.Goals.{in-Stands+then-sorts-position+in_ok-add_constant}
use Rattle.chr_sorting.proofs.gather.constants_of.Goals.{in-Stands+else-sorts-position, in_default}

pub loop-note-preserved : goal.loop-note-preserved
loop-note-preserved c =
    let notes = c.args.notes.now in
    let sorts = c.args.sorts.now in
    let f = sort_in sorts in
    let n = c.args.sort in
    let i = c.loop-note.note-index in
    let l = c.loop-note-test.true in
    let cs = c.loop-note.found.items in
    elim c.match-note.branch [
      | in-Stands+then-sorts-position+in_ok-add_constant w ↦
          let p = w.in-Stands.position in
          let fits : SFits w64 w.in-Stands.constant = search (rules, w) in
          let one : Gathers (Constant w.in-Stands.constant ∷ []) cs w.add_constant.new.found.items =
          simp to_z-of_z at w.in_ok-add_constant.ensures in
          let here = subst (IsBelow (length sorts)) w.in-Stands.is (c.requires i _ l) in
          subst (λ (ds : List ℤ). AreConstantsIn (terms_at f n (take (i + 1) notes)) ds)
          (sym (ap (λ v. v.items) w.found-is))
          (constant_gathered f n notes i _ p w.in-Stands.constant cs w.add_constant.new.found.items l w.in-Stands.is
          (sort_here sorts p p 0 here ∙ w.if-sorts-position.true) one c.loop-note.invariant)
      | in-Stands+else-sorts-position w ↦
          let p = w.in-Stands.position in
          let here = subst (IsBelow (length sorts)) w.in-Stands.is (c.requires i _ l) in
          subst (λ (ds : List ℤ). AreConstantsIn (terms_at f n (take (i + 1) notes)) ds)
          (sym (ap (λ v. v.items) w.found-is))
          (elsewhere_passed f n notes i _ p w.in-Stands.constant cs l w.in-Stands.is
          (λ e. w.if-sorts-position.false (sort_here sorts p 0 p here ∙ e)) c.loop-note.invariant)
      | in_default w ↦
          subst (λ (ds : List ℤ). AreConstantsIn (terms_at f n (take (i + 1) notes)) ds)
          (sym (ap (λ v. v.items) w.found-is))
          (other_passed f n notes i _ cs l w.in_default.not-Stands c.loop-note.invariant)
    ]
