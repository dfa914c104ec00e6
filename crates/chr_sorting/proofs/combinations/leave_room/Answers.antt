use Rattle.std.proofs.Common.{rules, ◌≡◌, ◌≤◌, ◌^◌, ◌+◌, get_or, take, length, sym, subst}
use Rattle.std.proofs.lemmas.List.{take_more}
use Rattle.chr_types.specs.OrderTypes.{AreValues}
use Rattle.chr_sorting.specs.FinestSorts.{sorts_of}
use Rattle.chr_sorting.specs.working.Weaving.{LeaveRoom}
use Rattle.chr_sorting.proofs.MoreCombinations.{room_more}
use Rattle.chr_sorting.proofs.combinations.leave_room.Goals as goal

pub loop-class-preserved : goal.loop-class-preserved
loop-class-preserved c =
    let s = sorts_of c.args.sorting.now in
    let ks = c.args.classes.now in
    let i = c.loop-class.class-index in
    let k = get_or ks i 0 in
    let room : length c.constants.result.now + length ks ≤ 2 ^ 62 = search rules in
    let same : c.constants.result.now ≡ s.constants k = c.constants.ensures in
    subst (LeaveRoom s (length ks)) (sym (take_more ks i 0 c.loop-class-test.true))
    (room_more s (length ks) (take i ks) k c.loop-class.invariant (subst AreValues same c.are_values.ensures)
    (subst (λ cs. length cs + length ks ≤ 2 ^ 62) same room))
