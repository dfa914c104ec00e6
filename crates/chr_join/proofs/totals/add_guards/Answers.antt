use Rattle.std.proofs.Common.{◌∷◌, [], ℕ, sym, subst}
use Rattle.std.proofs.lemmas.Bool.{OnTrue_at}
use Rattle.std.proofs.lemmas.List.Elements.{All-append, All-cons, All-nil}
use Rattle.std.specs.List.{All}
use Rattle.chr_types.specs.OrderTypes.{MoreTypesThan}
use Rattle.chr_overlaps.specs.declared.cases.TheConstants.{MAX_TYPES}
use Rattle.chr_join.specs.working.Counting.{HasFewTypes}
use Rattle.chr_join.proofs.totals.add_guards.Goals as goal

pub returns-clause-guards : goal.returns-clause-guards
returns-clause-guards c =
    let few = HasFewTypes c.args.constants.now in
    let here : few c.args.unified = subst (λ (n : ℕ). ¬ MoreTypesThan MAX_TYPES n c.args.constants.now)
    c.free_classes.ensures (OnTrue_at c.if-not-branch.false c.in_ok-are_few.ensures.few) in
    subst (All few) (sym c.in_ok-push.ensures.items) (All-append few c.args.guards.now.items
    (c.args.unified ∷ []) c.requires.guards (All-cons few c.args.unified [] here (All-nil few)))
