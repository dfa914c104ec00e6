use Rattle.std.proofs.Common.{arith, sym, ap, ◌∙◌, length, refl}
use Rattle.std.specs.List.{list_any}
use Rattle.std.specs.Prelude.{nat_eq}
use Rattle.chr_rewrite.proofs.Searching.{tried_chosen, tried_taken, shape_missed, all_tried, dropped, next_choice}
use Rattle.chr_rewrite.proofs.Searching.{place_left}
use Rattle.std.proofs.lemmas.Bool.{OnTrue_from}
use Rattle.chr_rewrite.proofs.Earliest.{first_itself, first_of_next}
use Rattle.chr_rewrite.proofs.choose.+complete.Goals as goal
use Rattle.chr_rewrite.proofs.choose.+complete.Goals.{then-has_shape_at+then-not-contains+else-complete}
use Rattle.chr_rewrite.proofs.choose.+complete.Goals.{else-has_shape_at}
use Rattle.chr_rewrite.proofs.choose.+complete.Goals.{else-has_shape_at-via-then-has_shape_at+else-not-contains}
use Rattle.chr_rewrite.proofs.choose.+complete.Goals.{else-has_shape_at-via-else-has_shape_at}

pub complete-requires : goal.complete-requires
complete-requires t c =
    let left = place_left _ _ _ _ c.len-place.ensures.value c.places.ensures.places c.if-place-places.false
    c.requires.room in
    let same = ap length c.loop-i.invariant.same in
    let len = c.push.ensures.len in (
      omega (arith, left, same, len),
      (
        next_choice c.args.items.now c.loop-i.chosen.items _ c.loop-i.i-counter
            (rw c.loop-i.invariant.same c.requires.choice) c.loop-i-test.true
            (ap (list_any (λ j. nat_eq j c.loop-i.i-counter)) (sym c.deref-then-has_shape_at.ensures.0)
            ∙ sym c.contains.ensures.value ∙ c.if-not-contains.true) c.push.ensures.items,
        omega (arith, left, same, len),
      ),
    )

pub loop-i-preserved : goal.loop-i-preserved
loop-i-preserved t c = record {
  same = elim c.if-has_shape_at.branch [
    | then-has_shape_at+then-not-contains+else-complete w ↦ ap (λ v. v.items) w.chosen-is
        ∙ dropped _ _ _ _ (w.if-complete.ensures.same ∙ w.push.ensures.items) w.pop.ensures.rest
        ∙ c.loop-i.invariant.same
    | else-has_shape_at w ↦ ap (λ v. v.items) w.chosen-is ∙ c.loop-i.invariant.same
  ];
  none = elim c.if-has_shape_at.branch [
    | then-has_shape_at+then-not-contains+else-complete w ↦ tried_chosen c.args.rule.now c.args.items.now
        c.args.chosen.now.items c.loop-i.i-counter c.loop-i.invariant.none
        (rw (w.push.ensures.items, c.loop-i.invariant.same) at w.if-complete.ensures.none)
    | else-has_shape_at w ↦ elim w.else-has_shape_at.branch [
      | else-has_shape_at-via-then-has_shape_at+else-not-contains w' ↦ tried_taken c.args.rule.now c.args.items.now
          c.args.chosen.now.items c.loop-i.i-counter c.loop-i.invariant.none
          (ap (list_any (λ j. nat_eq j c.loop-i.i-counter))
          (sym c.loop-i.invariant.same ∙ sym w'.deref-then-has_shape_at.ensures.0) ∙ sym w'.contains.ensures.value
          ∙ w'.if-not-contains.false)
      | else-has_shape_at-via-else-has_shape_at w' ↦ (let left =
          place_left _ _ _ _ c.len-place.ensures.value c.places.ensures.places c.if-place-places.false
          c.requires.room in
          shape_missed c.args.rule.now c.args.items.now c.args.chosen.now.items c.args.chosen.now.items
          c.loop-i.i-counter c.len-place.result c.index-items-i.result c.has_shape_at.result c.loop-i.invariant.none
          refl c.len-place.ensures.value left c.loop-i-test.true c.index-items-i.is c.has_shape_at.ensures
          w'.if-has_shape_at.false)
    ]
  ];
}

pub returns-clause-none : goal.returns-clause-none
returns-clause-none t c = all_tried c.args.rule.now c.args.items.now c.args.chosen.now.items c.loop-i.i-counter
    c.loop-i.invariant.none (omega arith) (λ e. c.if-place-places.false
    (c.len-place.ensures.value ∙ e ∙ sym c.places.ensures.places))

pub returns-then-place-places-clause-first : goal.returns-then-place-places-clause-first
returns-then-place-places-clause-first t c = OnTrue_from c.fires.result _
    (λ _. first_itself c.args.rule.now c.args.items.now c.args.chosen.now.items)

pub returns-then-complete-clause-first : goal.returns-then-complete-clause-first
returns-then-complete-clause-first t c =
    first_of_next c.args.rule.now c.args.items.now c.args.chosen.now.items c.complete.new.chosen.items
    c.loop-i.i-counter c.loop-i.invariant.none (λ e. c.if-place-places.false
    (c.len-place.ensures.value ∙ e ∙ sym c.places.ensures.places))
    (rw (c.push.ensures.items, c.loop-i.invariant.same) at c.if-complete.ensures.first)
