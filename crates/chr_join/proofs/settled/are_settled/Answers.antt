use Rattle.std.proofs.Common.{drop, subst, take}
use Rattle.std.specs.List.{All}
use Rattle.std.proofs.lemmas.Bool.{OnTrue_at, OnTrue_from}
use Rattle.std.proofs.lemmas.List.{take-append-drop}
use Rattle.std.proofs.lemmas.List.Elements.{All-append}
use Rattle.chr_weights.specs.WeighedPrograms.{rules_in}
use Rattle.chr_join.specs.working.Portions.{IsSettled}
use Rattle.chr_join.proofs.settled.are_settled.Goals as goal

pub returns-then-few_settled : goal.returns-then-few_settled
returns-then-few_settled g c =
    let S = IsSettled (rules_in c.args.weighed.now) in
    let n = c.min.result in
    let os = c.args.overlaps.now in
    OnTrue_from c.many_settled.result (All S os) (λ e.
    let first = subst (All S) c.split_at.ensures.front (OnTrue_at c.if-few_settled.true c.few_settled.ensures) in
    let rest = subst (All S) c.split_at.ensures.back (OnTrue_at e c.many_settled.ensures) in
    subst (All S) (take-append-drop n os) (All-append S (take n os) (drop n os) first rest))
