use Rattle.std.proofs.Common.{rules, ◌≡◌, ◌∷◌, ◌++◌, [], sym, ap, ◌∙◌, take, map, ◌+◌, List, ℤ}
use mir.Val.{SFits, to_z, of_z}
use mir.Syntax.{w64}
use Rattle.std.proofs.lemmas.Int.{to_z-of_z}
use Rattle.std.proofs.lemmas.List.{nil_from_length, map_push, take_all}
use Rattle.chr_sorting.proofs.Weaving.{next_list, no_tail, other_tail, next_tail}
use Rattle.chr_sorting.specs.working.Weaving.{tails}
use Rattle.chr_sorting.proofs.weave.tails_at.Goals as goal
use Rattle.chr_sorting.proofs.weave.tails_at.Goals.{in-Some+then-first-value+in_ok-tail+in_ok-extend_from_slice+in_ok-push}
use Rattle.chr_sorting.proofs.weave.tails_at.Goals.{in-Some+else-first-value, in_default}

pub loop-list-preserved : goal.loop-list-preserved
loop-list-preserved c =
    let vs = c.args.lists.now in
    let i = c.loop-list.list-index in
    let v = c.list-item.result in
    let z = c.args.value in
    let ls = map (λ l. l.items) (take i vs) in
    let more = next_list vs i v c.loop-list-test.true c.list-item.is in
    let fits : SFits w64 z = search (rules, c.ranges.value.sfits) in
    let same = to_z-of_z w64 z fits in
    let now : map (λ l. l.items) c.loop-list.found.items ≡ tails z ls = c.loop-list.invariant
    ∙ ap (λ x. tails x ls) same in
    let all = ap (tails z) (sym more) ∙ ap (λ x. tails x (map (λ l. l.items) (take (i + 1) vs))) (sym same) in
    elim c.match-split_first.branch [
      | in-Some+then-first-value+in_ok-tail+in_ok-extend_from_slice+in_ok-push w ↦
          let rest = w.in-Some.rest.now in
          let first_fits : SFits w64 w.in-Some.first.now = search (rules, w) in
          let equal : w.in-Some.first.now ≡ z = sym (to_z-of_z w64 w.in-Some.first.now first_fits)
          ∙ ap (to_z w64) w.if-first-value.true ∙ same in
          let tail : w.extend_from_slice.new.self.items ≡ rest = w.in_ok-extend_from_slice.ensures.items
          ∙ ap (λ (x : List ℤ). x ++ rest) w.in_ok-tail.ensures.items in
          ap (λ x. map (λ l. l.items) x.items) w.found-is ∙ ap (map (λ l. l.items)) w.in_ok-push.ensures.items
          ∙ map_push (λ l. l.items) c.loop-list.found.items w.extend_from_slice.new.self
          ∙ (λ j. now j ++ tail j ∷ [])
          ∙ sym (next_tail z w.in-Some.first.now rest ls v.items (sym c.deref.ensures.value ∙ w.in-Some.ensures.cases.0)
          equal) ∙ all
      | in-Some+else-first-value w ↦
          ap (λ x. map (λ l. l.items) x.items) w.found-is ∙ now
          ∙ sym (other_tail z w.in-Some.first.now w.in-Some.rest.now ls v.items
          (sym c.deref.ensures.value ∙ w.in-Some.ensures.cases.0) (λ e. w.if-first-value.false (ap (of_z w64) e)))
          ∙ all
      | in_default w ↦
          ap (λ x. map (λ l. l.items) x.items) w.found-is ∙ now
          ∙ sym (no_tail z ls v.items (sym c.deref.ensures.value
          ∙ nil_from_length c.deref.result.now w.in_default.ensures.cases)) ∙ all
    ]

pub returns : goal.returns
returns c =
    let fits : SFits w64 c.args.value = search (rules, c.ranges.value.sfits) in
    c.loop-list.invariant ∙ ap (λ x. tails x (map (λ l. l.items) (take c.loop-list.list-index c.args.lists.now)))
    (to_z-of_z w64 c.args.value fits)
    ∙ ap (λ x. tails c.args.value (map (λ l. l.items) x))
    (take_all c.loop-list.list-index c.args.lists.now c.loop-list-test.false)
