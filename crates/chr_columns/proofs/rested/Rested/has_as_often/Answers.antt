use Rattle.std.proofs.Common.{arith}
use Rattle.std.proofs.lemmas.Bool.{leb-true, le-leb}
use Rattle.chr_columns.specs.working.Resting.{stored}
use Rattle.chr_columns.proofs.Removals.{counted_both}
use Rattle.chr_columns.proofs.rested.Rested.has_as_often.Goals as goal

pub returns-then-found-wanted : goal.returns-then-found-wanted
returns-then-found-wanted c =
    let both = counted_both (stored c.args.self.now) c.args.fresh.now c.args.atom.now in
    let found = c.count_of-found.ensures.value in
    let enough = c.if-found-wanted.true in (λ _. omega (arith, both, found, enough), λ _. le-leb _ _ enough)

pub returns-else-found-wanted : goal.returns-else-found-wanted
returns-else-found-wanted c =
    let both = counted_both (stored c.args.self.now) c.args.fresh.now c.args.atom.now in
    let found = c.count_of-found.ensures.value in
    let rest = c.count_at_rest.ensures in (
      λ h. (let enough = leb-true _ _ h in omega (arith, both, found, rest, enough)),
      λ h. le-leb _ _ (omega (arith, both, found, rest, h)),
    )
