use Rattle.std.proofs.Common.{◌∷◌, [], get_or, sym, subst, take}
use Rattle.std.proofs.lemmas.Bool.{OnTrue_at}
use Rattle.std.proofs.lemmas.List.{take_all, take_more}
use Rattle.std.proofs.lemmas.List.Elements.{All-append, All-cons, All-nil}
use Rattle.std.specs.List.{All}
use Rattle.chr_weights.specs.WeighedPrograms.{rules_in}
use Rattle.chr_overlaps.specs.OverlapLists.{IsOverlapOf}
use Rattle.chr_join.specs.working.Portions.{IsSettled}
use Rattle.chr_join.proofs.settled.few_settled.Goals as goal

pub is_settled-requires-clause-overlap : goal.is_settled-requires-clause-overlap
is_settled-requires-clause-overlap c =
    subst (IsOverlapOf (rules_in c.args.weighed.now)) (sym c.overlap-item.is)
    (c.requires.overlaps c.loop-overlap.overlap-index c.overlap-item.result c.loop-overlap-test.true)

pub loop-overlap-preserved : goal.loop-overlap-preserved
loop-overlap-preserved c =
    let J = IsSettled (rules_in c.args.weighed.now) in
    let os = c.args.overlaps.now in
    let i = c.loop-overlap.overlap-index in
    let o = c.overlap-item.result in
    let here = subst J c.overlap-item.is (OnTrue_at c.if-not-is_settled.false c.is_settled.ensures) in
    subst (All J) (sym (take_more os i o c.loop-overlap-test.true))
    (All-append J (take i os) (get_or os i o ∷ []) c.loop-overlap.invariant
    (All-cons J (get_or os i o) [] here (All-nil J)))

pub returns : goal.returns
returns c = subst (All (IsSettled (rules_in c.args.weighed.now)))
    (take_all c.loop-overlap.overlap-index c.args.overlaps.now c.loop-overlap-test.false) c.loop-overlap.invariant
