use Rattle.std.proofs.Common.{◌∷◌, ◌++◌, [], get_or, take, map, refl, ap, sym, subst, ◌∙◌}
use Rattle.std.proofs.lemmas.List.{take_more}
use Rattle.std.proofs.lemmas.Bool.{eqb-true}
use Rattle.chr_types.specs.OrderTypes.{In}
use Rattle.chr_confluence.specs.SortLists.{sort_count}
use Rattle.chr_sorting.specs.FinestSorts.{sorts_of, kind_of}
use Rattle.chr_sorting.specs.working.Weaving.{AreListsOf, held}
use Rattle.chr_types.proofs.Members.{in_at}
use Rattle.chr_sorting.proofs.MoreCombinations.{more_like, lists_like, lists_known, lists_pushed}
use Rattle.chr_sorting.proofs.combinations.sort_lists.Goals as goal
use Rattle.chr_sorting.proofs.combinations.sort_lists.Goals.{then-not-contains+in_ok-lists+in-Some+in_ok-push-in-Some}
use Rattle.chr_sorting.proofs.combinations.sort_lists.Goals.{else-not-contains}

pub returns-in-None-clause-more : goal.returns-in-None-clause-more
returns-in-None-clause-more c =
    let s = sorts_of c.args.sorting.now in
    let ks = c.args.classes.now in
    let k = get_or ks c.loop-i.i 0 in
    let more = rw c.in-None.is at c.in_ok-lists.ensures.more in (
      k,
      in_at ks c.loop-i.i 0 c.loop-i-test.true,
      more_like c.args.limit (kind_of c.kind.result)
          (s.kind k) c.constants.result.now (s.constants k) c.count_of-count.result
          (sort_count k ks) c.kind.ensures c.constants.ensures c.count_of-count.ensures.count more,
    )

pub loop-i-preserved : goal.loop-i-preserved
loop-i-preserved c =
    let s = sorts_of c.args.sorting.now in
    let ks = c.args.classes.now in
    let i = c.loop-i.i in
    let k = get_or ks i 0 in
    let next = sym (take_more ks i 0 c.loop-i-test.true) in
    elim c.if-not-contains.branch [
      | then-not-contains+in_ok-lists+in-Some+in_ok-push-in-Some w ↦ (
          let listed = rw w.in-Some.is at w.in_ok-lists.ensures.lists in
          let are = lists_like (map (λ l. l.items) w.in-Some.lists.items) (kind_of w.kind.result)
          (s.kind k) w.constants.result.now (s.constants k) w.count_of-count.result
          (sort_count k ks) w.kind.ensures w.constants.ensures w.count_of-count.ensures.count listed in
          let pushed = lists_pushed s (take i ks) ks k c.loop-i.all.items (record { sort = k; lists = w.in-Some.lists })
          c.loop-i.invariant refl are in
          let items = ap (λ a. a.items) w.all-is ∙ w.in_ok-push-in-Some.ensures.items in
          subst (λ js. AreListsOf s js ks (held c.if-not-contains.all.items)) next
          (subst (λ all. AreListsOf s (take i ks ++ k ∷ []) ks (held all)) (sym items) pushed)
          )
      | else-not-contains w ↦ (
          let there = w.if-not-contains.ensures.cases in
          let known : In k (take i ks) = subst (λ j. In j (take i ks))
          (eqb-true (get_or (take i ks) there.0 0) k (there.2 0)) (in_at (take i ks) there.0 0 there.1) in
          subst (λ js. AreListsOf s js ks (held c.if-not-contains.all.items)) next
          (lists_known s (take i ks) ks k (held c.if-not-contains.all.items)
          (subst (λ all. AreListsOf s (take i ks) ks (held all)) (sym (ap (λ a. a.items) w.all-is))
          c.loop-i.invariant) known)
          )
    ]
