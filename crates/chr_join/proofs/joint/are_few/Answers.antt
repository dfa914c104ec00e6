use Rattle.std.proofs.Common.{ℕ, ◌∷◌, [], sym, subst, ◌∙◌}
use mathlib.Core.Bool.{true≢false}
use Rattle.std.proofs.lemmas.Bool.{eqb-true}
use Rattle.std.proofs.lemmas.List.Elements.{All-append, All-cons, All-nil}
use Rattle.chr_types.specs.OrderTypes.{MoreTypesThan}
use Rattle.chr_overlaps.specs.declared.cases.TheConstants.{MAX_TYPES}
use Rattle.chr_join.specs.working.Checking.{HaveFewTypes}
use Rattle.chr_join.proofs.joint.are_few.Goals as goal

pub returns-then-contains-clause-few : goal.returns-then-contains-clause-few
returns-then-contains-clause-few c =
    let known = subst (HaveFewTypes c.args.constants.now) (sym c.deref.ensures.value) c.requires.known in
    let at = c.if-contains.ensures.cases in
    subst (λ (n : ℕ). ¬ MoreTypesThan MAX_TYPES n c.args.constants.now) (eqb-true _ _ (at.2 0)) (known at.0 0 at.1)

abbrev IsFew : goal.In_ok-push → ℕ → Type 0
IsFew c n = ¬ MoreTypesThan MAX_TYPES n c.args.constants.now

pub returns-clause-known : goal.returns-clause-known
returns-clause-known c =
    subst (HaveFewTypes c.args.constants.now) (sym c.in_ok-push.ensures.items)
    (All-append (IsFew c) c.args.known.now.items (c.args.classes ∷ []) c.requires.known
    (All-cons (IsFew c) c.args.classes [] (λ m. true≢false
    (sym (c.in_ok-has_more_types.ensures.1 m) ∙ c.if-branch.false)) (All-nil (IsFew c))))
