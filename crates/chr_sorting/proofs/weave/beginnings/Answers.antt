use Rattle.std.proofs.Common.{rules, ◌≡◌, ◌∷◌, ◌++◌, [], true, false, sym, ap, subst, ◌∙◌, take, map}
use mir.Val.{SFits}
use mir.Syntax.{w64}
use Rattle.std.proofs.lemmas.Int.{to_z-of_z}
use Rattle.std.proofs.lemmas.List.{nil_from_length}
use Rattle.chr_types.specs.OrderTypes.{In}
use Rattle.chr_types.specs.working.Search.{has}
use Rattle.chr_types.proofs.Holes.{has_in, has_not}
use Rattle.chr_sorting.proofs.Weaving.{next_list, none_begins, known_begins, new_begins}
use Rattle.chr_sorting.specs.working.Weaving.{each_once, firsts}
use Rattle.chr_sorting.proofs.weave.beginnings.Goals as goal
use Rattle.chr_sorting.proofs.weave.beginnings.Goals.{in-Some+then-not-contains+in_ok-push, in-Some+else-not-contains}
use Rattle.chr_sorting.proofs.weave.beginnings.Goals.{in_default}

pub loop-list-preserved : goal.loop-list-preserved
loop-list-preserved c =
    let vs = c.args.lists.now in
    let i = c.loop-list.list-index in
    let v = c.list-item.result in
    let ls = map (λ l. l.items) (take i vs) in
    let more = next_list vs i v c.loop-list-test.true c.list-item.is in
    let all = ap (λ xs. each_once (firsts xs)) (sym more) in
    elim c.match-split_first.branch [
      | in-Some+then-not-contains+in_ok-push w ↦
          let z = w.in-Some.first.now in
          let fits : SFits w64 z = search (rules, w) in
          let pushed : w.push.new.self.items ≡ c.loop-list.found.items ++ z ∷ [] =
          simp to_z-of_z at w.in_ok-push.ensures.items in
          let no : has z w.deref-in-Some.result.now ≡ false = sym w.contains.ensures.value ∙ w.if-not-contains.true in
          let known = w.deref-in-Some.ensures.value ∙ c.loop-list.invariant in
          ap (λ x. x.items) w.found-is ∙ pushed ∙ ap (λ xs. xs ++ z ∷ []) c.loop-list.invariant
          ∙ sym (new_begins ls v.items z w.in-Some.field-0-1.now (sym c.deref.ensures.value ∙ w.in-Some.ensures.cases.0)
          (λ j. has_not z w.deref-in-Some.result.now no (subst (In z) (sym known) j))) ∙ all
      | in-Some+else-not-contains w ↦
          let z = w.in-Some.first.now in
          let yes : has z w.deref-in-Some.result.now ≡ true = sym w.contains.ensures.value ∙ w.if-not-contains.false in
          let known = w.deref-in-Some.ensures.value ∙ c.loop-list.invariant in
          ap (λ x. x.items) w.found-is ∙ c.loop-list.invariant
          ∙ sym (known_begins ls v.items z w.in-Some.field-0-1.now
          (sym c.deref.ensures.value ∙ w.in-Some.ensures.cases.0)
          (subst (In z) known (has_in z w.deref-in-Some.result.now yes))) ∙ all
      | in_default w ↦
          ap (λ x. x.items) w.found-is ∙ c.loop-list.invariant
          ∙ sym (none_begins ls v.items (sym c.deref.ensures.value
          ∙ nil_from_length c.deref.result.now w.in_default.ensures.cases)) ∙ all
    ]
