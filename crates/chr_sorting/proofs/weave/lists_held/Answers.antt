use Rattle.std.proofs.Common.{◌≡◌, ◌∷◌, ◌++◌, [], sym, ap, ◌∙◌, take, map, ◌+◌}
use Rattle.std.proofs.lemmas.List.{take_more}
use Rattle.chr_sorting.specs.working.Weaving.{held}
use Rattle.chr_sorting.proofs.Weaving.{held_here, held_elsewhere}
use Rattle.chr_sorting.proofs.weave.lists_held.Goals as goal
use Rattle.chr_sorting.proofs.weave.lists_held.Goals.{then-one-sort, else-one-sort}

pub loop-one-preserved : goal.loop-one-preserved
loop-one-preserved c =
    let all = c.args.all.now in
    let h = c.one-item.result in
    let i = c.loop-one.one-index in
    let more : held (take (i + 1) all) c.args.sort ≡ held (take i all ++ h ∷ []) c.args.sort =
    ap (λ hs. held hs c.args.sort) (take_more all i h c.loop-one-test.true
    ∙ ap (λ x. take i all ++ x ∷ []) (sym c.one-item.is)) in
    elim c.if-one-sort.branch [
      | then-one-sort w ↦
          ap (map (λ l. l.items)) (ap (λ f. f.now) w.found-is ∙ w.deref-found.ensures.value)
          ∙ sym (held_here (take i all) h c.args.sort w.if-one-sort.true) ∙ sym more
      | else-one-sort w ↦
          ap (λ f. map (λ l. l.items) f.now) w.found-is ∙ c.loop-one.invariant
          ∙ sym (held_elsewhere (take i all) h c.args.sort w.if-one-sort.false) ∙ sym more
    ]
