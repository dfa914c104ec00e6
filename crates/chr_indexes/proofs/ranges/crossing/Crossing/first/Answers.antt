use Rattle.std.proofs.Common.{◌-◌, sym, ap, subst}
use Rattle.chr_indexes.specs.RangedRows.{IsCrossed}
use Rattle.chr_indexes.proofs.EntriesBelow.{found_newest, found_none}
use Rattle.chr_indexes.proofs.PairsCrossed.{crossed_both, both_crossed, found_is}
use Rattle.chr_indexes.proofs.ranges.crossing.Crossing.first.Goals as goal

pub returns-clause-crossed : goal.returns-clause-crossed
returns-clause-crossed c =
    let rows = ap (λ x. x.rows) c.self.view_is in
    let first = rw c.first_place-from.ensures.same at c.cross.ensures.first in
    found_is (λ r. IsCrossed c.args.self.now.rows c.args.hash c.args.first.now c.args.second.now r) c.checked_sub.result
    c.cross.result c.checked_sub.ensures
    (λ some. subst (λ rs. IsCrossed rs c.args.hash c.args.first.now c.args.second.now (c.cross.result - 1)) rows
    (both_crossed c.self.inside.first.rows c.self.inside.second.rows c.args.hash c.args.first.now c.args.second.now
    (c.cross.result - 1)
    (first some) (c.cross.ensures.second some)))

pub returns-clause-newest : goal.returns-clause-newest
returns-clause-newest c =
    let rows = ap (λ x. x.rows) c.self.view_is in
    let between = rw c.first_place-from.ensures.same at c.cross.ensures.none_between in
    found_newest (λ r. IsCrossed c.args.self.now.rows c.args.hash c.args.first.now c.args.second.now r)
    c.checked_sub.result c.cross.result c.checked_sub.ensures
    (λ r w. (
    let both = crossed_both c.self.inside.first.rows c.self.inside.second.rows c.args.hash c.args.first.now
    c.args.second.now r
    (subst (λ rs. IsCrossed rs c.args.hash c.args.first.now c.args.second.now r) (sym rows) w) in
    between r (c.first_place-from.ensures.none_above r both.0) both.0 both.1))

pub returns-clause-none : goal.returns-clause-none
returns-clause-none c =
    let rows = ap (λ x. x.rows) c.self.view_is in
    let between = rw c.first_place-from.ensures.same at c.cross.ensures.none_between in
    found_none (λ r. IsCrossed c.args.self.now.rows c.args.hash c.args.first.now c.args.second.now r)
    c.checked_sub.result c.cross.result c.checked_sub.ensures
    (λ r w. (
    let both = crossed_both c.self.inside.first.rows c.self.inside.second.rows c.args.hash c.args.first.now
    c.args.second.now r
    (subst (λ rs. IsCrossed rs c.args.hash c.args.first.now c.args.second.now r) (sym rows) w) in
    between r (c.first_place-from.ensures.none_above r both.0) both.0 both.1))
