use Rattle.std.proofs.Common.{[], ◌↔◌, IsTrue, length, refl, subst}
use Rattle.chr_types.specs.OrderTypes.{MoreTypesThan}
use Rattle.chr_sorting.specs.FinestSorts.{sorts_of}
use Rattle.chr_sorting.specs.working.Weaving.{held, woven}
use Rattle.chr_types.proofs.Walking.{ok_then}
use Rattle.chr_sorting.proofs.Woven.{woven_are}
use Rattle.chr_sorting.proofs.MoreCombinations.{more_there, told_more}
use Rattle.chr_sorting.proofs.OneSort.{more_combined}
use Rattle.chr_sorting.proofs.combinations.has_more_combinations.Goals as goal

pub returns-in_default-2 : goal.returns-in_default-2
returns-in_default-2 c = (
  λ _. more_there (sorts_of c.args.sorting.now) c.args.classes.now c.requires.rise c.leave_room-in_default-2.ensures
      c.args.limit (rw c.in_default-2.is at c.in_ok-lists.ensures.more),
  λ _. refl,
)

pub returns : goal.returns
returns c =
    let s = sorts_of c.args.sorting.now in
    let ks = c.args.classes.now in
    let lists = held c.in-Some-2.lists.items in
    let are = woven_are s ks lists (rw c.in-Some-2.is at c.in_ok-lists.ensures.lists) in
    ok_then c.weave.result _ _ (λ more visited. told_more s ks c.args.limit (woven ks lists []) c.weave.new.visitor more
    c.requires.rise are visited) c.weave.ensures.visited

pub returns-in-Some : goal.returns-in-Some
returns-in-Some c =
    let s = sorts_of c.args.sorting.now in
    let ks = c.args.classes.now in
    ok_then c.has_more_types.result _ _ (λ more told. more_combined s ks c.in-Some.sort c.in-Some.ensures c.args.limit
    more c.requires.rise c.leave_room.ensures
    (subst (λ cs. IsTrue more ↔ MoreTypesThan c.args.limit (length ks) cs) c.constants.ensures told))
    c.has_more_types.ensures
