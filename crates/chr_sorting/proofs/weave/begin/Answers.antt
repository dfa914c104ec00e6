use Rattle.std.proofs.Common.{rules, ◌≡◌, map, refl, ap, ◌∙◌}
use mir.Val.{SFits, to_z, of_z}
use mir.Syntax.{w64}
use Rattle.std.proofs.lemmas.Int.{to_z-of_z}
use Rattle.chr_sorting.specs.working.Weaving.{tails, held}
use Rattle.chr_sorting.proofs.Weaving.{held_begun}
use Rattle.chr_sorting.proofs.weave.begin.Goals as goal

pub returns-clause-begun : goal.returns-clause-begun
returns-clause-begun c =
    let hs = c.args.all.now.items in
    let k = c.args.sort in
    let z = c.args.value in
    let fits : SFits w64 z = search (rules, c.ranges.value.sfits) in
    let told : map (λ l. l.items) c.in_ok-tails.tails.items ≡ tails (to_z w64 (of_z w64 z))
    (map (λ l. l.items) c.lists_held.result.now) = c.in_ok-tails.ensures in
    let listed : map (λ l. l.items) c.lists_held.result.now ≡ held hs k = c.lists_held.ensures
    ∙ ap (λ h. held h k) c.deref.ensures.value in
    let one : map (λ l. l.items) c.in_ok-tails.tails.items ≡ tails z (held hs k) =
    told ∙ (λ i. tails (to_z-of_z w64 z fits i) (listed i)) in
    ap held c.in_ok-push.ensures.items ∙ held_begun hs (record { sort = k; lists = c.in_ok-tails.tails }) k z refl one
