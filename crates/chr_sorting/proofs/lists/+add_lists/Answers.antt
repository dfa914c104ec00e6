use Rattle.std.proofs.Common.{rules, ◌≡◌, ◌++◌, ◌∷◌, [], length, refl, sym, ap, subst, ◌∙◌, arith, List, ℤ, pos, get_or}
use Rattle.std.proofs.Common.{map, of_z}
use mir.Val.{SFits}
use mir.Syntax.{w64}
use Rattle.std.proofs.lemmas.Int.{to_z-of_z}
use Rattle.std.proofs.lemmas.List.{length-map}
use Rattle.chr_types.specs.OrderTypes.{Rises}
use Rattle.chr_sorting.specs.working.Blocks.{inserted}
use Rattle.chr_sorting.proofs.Blocks.{inserted_rises}
use Rattle.chr_sorting.proofs.Choices.{next_lists, number_goes_on, choice_goes_on, more_lists, no_more, all_lists}
use Rattle.chr_sorting.proofs.Choices.{rest_of, length-rest, same_value}
use Rattle.chr_sorting.proofs.lists.+add_lists.Goals as goal
use Rattle.chr_sorting.proofs.lists.+add_lists.Goals.{then-value-numbers+in_ok-stops, else-value-numbers+in_ok-stops-2}

pub add_lists-requires : goal.add_lists-requires
add_lists-requires t c =
    let ns = c.args.numbers.now in
    let n : ℤ = get_or ns 0 (pos 0) in
    let fn : SFits w64 n = search rules in
    let m : c.in_ok-more.more.items ≡ inserted n c.args.choices.now = simp to_z-of_z at c.in_ok-more.ensures in
    let d = c.decreases in
    let some = c.if-left-eq0.false in
    let e = c.requires.enough in
    let r = ap length (rest_of ns) ∙ length-rest ns in (
      omega (arith, d, some),
      (
        subst Rises (sym (c.deref.ensures.value ∙ m))
            (inserted_rises n c.args.choices.now c.requires.rise),
        omega (arith, e, r),
      ),
    )

pub returns-then-stops-clause-many : goal.returns-then-stops-clause-many
returns-then-stops-clause-many t c =
    let ks = c.args.choices.now in
    let ns = c.args.numbers.now in
    let p = c.args.begun.now in
    let left = c.args.left in
    let items = c.deref-value-items.result.now in
    let i = c.loop-value.value-index in
    let n : ℤ = get_or ns 0 (pos 0) in
    let z : ℤ = get_or items i (pos 0) in
    let fz : SFits w64 z = search rules in
    let fn : SFits w64 n = search rules in
    let m : c.in_ok-more.more.items ≡ inserted n ks = simp to_z-of_z at c.in_ok-more.ensures in
    let lo : c.in_ok-next.next.items ≡ p ++ z ∷ [] = simp to_z-of_z at c.in_ok-next.ensures in
    let l = c.loop-value-test.true in
    let old = length-map c.args.found.now.items (λ x. x.items) in
    let now = length-map c.loop-value.found.items (λ x. x.items) in
    let all = no_more left ks ns p (map (λ x. x.items) c.args.found.now.items)
    (map (λ x. x.items) c.loop-value.found.items) items i (pos 0) c.if-left-eq0.false
    (c.deref-value-items.ensures.value ∙ m) (omega (arith, l)) c.loop-value.invariant.lists in
    elim c.if-value-numbers.branch [
      | then-value-numbers+in_ok-stops w ↦ λ _. (
          let d = ap length (number_goes_on left ks ns p w.deref.result.now _ w.deref-then-value-numbers.result.now z n
          refl (same_value z n fz fn w.if-value-numbers.true) (w.deref.ensures.value ∙ m) (rest_of ns)
          (w.deref-then-value-numbers.ensures.value ∙ lo)) in
          let more = w.in_ok-stops.ensures.many (sym w.stops-is ∙ c.if-stops.true) in
          omega (arith, d, more, all, old, now)
          )
      | else-value-numbers+in_ok-stops-2 w ↦ λ _. (
          let d = ap length (choice_goes_on left ks ns p w.deref-else-value-numbers.result.now z n refl
          (λ e. w.if-value-numbers.false (ap (of_z w64) e)) (w.deref-else-value-numbers.ensures.value ∙ lo)) in
          let more = w.in_ok-stops-2.ensures.many (sym w.stops-is ∙ c.if-stops.true) in
          omega (arith, d, more, all, old, now)
          )
    ]

pub loop-value-preserved : goal.loop-value-preserved
loop-value-preserved t c =
    let ks = c.args.choices.now in
    let ns = c.args.numbers.now in
    let p = c.args.begun.now in
    let left = c.args.left in
    let items = c.deref-value-items.result.now in
    let i = c.loop-value.value-index in
    let n : ℤ = get_or ns 0 (pos 0) in
    let z : ℤ = get_or items i (pos 0) in
    let fz : SFits w64 z = search rules in
    let fn : SFits w64 n = search rules in
    let m : c.in_ok-more.more.items ≡ inserted n ks = simp to_z-of_z at c.in_ok-more.ensures in
    let lo : c.in_ok-next.next.items ≡ p ++ z ∷ [] = simp to_z-of_z at c.in_ok-next.ensures in
    let l = c.loop-value-test.true in
    let before = map (λ x. x.items) c.loop-value.found.items in
    elim c.if-value-numbers.branch [
      | then-value-numbers+in_ok-stops w ↦ (
          let d = number_goes_on left ks ns p w.deref.result.now _ w.deref-then-value-numbers.result.now z n refl
          (same_value z n fz fn w.if-value-numbers.true) (w.deref.ensures.value ∙ m) (rest_of ns)
          (w.deref-then-value-numbers.ensures.value ∙ lo) in
          let now = w.in_ok-stops.ensures.lists (sym w.stops-is ∙ c.if-stops.false)
          ∙ ap (λ (xs : List (List ℤ)). before ++ xs) d in
          record {
            lists = ap (λ v. map (λ x. x.items) v.items) w.found-is ∙ more_lists (next_lists left ks ns p)
                (map (λ x. x.items) c.args.found.now.items) before (map (λ x. x.items) w.add_lists.new.found.items)
                items i (pos 0) (omega (arith, l)) c.loop-value.invariant.lists now;
            within = λ h. (let e = ap (λ v. length v.items) w.found-is in let k =
                w.in_ok-stops.ensures.within (sym w.stops-is ∙ c.if-stops.false) (c.loop-value.invariant.within h) in
                omega (arith, e, k));
          }
          )
      | else-value-numbers+in_ok-stops-2 w ↦ (
          let d = choice_goes_on left ks ns p w.deref-else-value-numbers.result.now z n refl
          (λ e. w.if-value-numbers.false (ap (of_z w64) e)) (w.deref-else-value-numbers.ensures.value ∙ lo) in
          let now = w.in_ok-stops-2.ensures.lists (sym w.stops-is ∙ c.if-stops.false)
          ∙ ap (λ (xs : List (List ℤ)). before ++ xs) d in
          record {
            lists = ap (λ v. map (λ x. x.items) v.items) w.found-is ∙ more_lists (next_lists left ks ns p)
                (map (λ x. x.items) c.args.found.now.items) before
                (map (λ x. x.items) w.add_lists-else-value-numbers.new.found.items) items i (pos 0)
                (omega (arith, l)) c.loop-value.invariant.lists now;
            within = λ h. (let e = ap (λ v. length v.items) w.found-is in let k =
                w.in_ok-stops-2.ensures.within (sym w.stops-is ∙ c.if-stops.false) (c.loop-value.invariant.within h) in
                omega (arith, e, k));
          }
          )
    ]

pub returns-clause-lists : goal.returns-clause-lists
returns-clause-lists t c =
    let ns = c.args.numbers.now in
    let n : ℤ = get_or ns 0 (pos 0) in
    let fn : SFits w64 n = search rules in
    let m : c.in_ok-more.more.items ≡ inserted n c.args.choices.now = simp to_z-of_z at c.in_ok-more.ensures in
    let l = c.loop-value-test.false in
    λ _. all_lists c.args.left c.loop-value.value-index c.args.choices.now ns c.args.begun.now
    c.deref-value-items.result.now (map (λ x. x.items) c.args.found.now.items)
    (map (λ x. x.items) c.loop-value.found.items) c.if-left-eq0.false (c.deref-value-items.ensures.value ∙ m)
    (omega (arith, l)) c.loop-value.invariant.lists
