use Rattle.std.proofs.Common.{◌≡◌, suc, List, ℤ, arith, subst}
use Rattle.std.proofs.lemmas.Bool.{OnTrue_at, OnTrue_from}
use Rattle.chr_types.specs.OrderTypes.{MoreTypesThan}
use Rattle.chr_types.proofs.BesideFirst.{many_beside}
use Rattle.chr_types.proofs.listing.are_many.Goals as goal

pub returns-in-Some : goal.returns-in-Some
returns-in-Some c = OnTrue_from c.has_more_lists.result _ (λ is. (λ (cs : List ℤ).
    let others = c.in-Some.others in
    let one_less = c.in-Some.ensures in
    let classes : suc others ≡ c.args.classes = omega (arith, one_less) in
    subst (λ n. MoreTypesThan c.args.limit n cs) classes
    (many_beside c.args.limit others cs (OnTrue_at is c.has_more_lists.ensures))))
