use Rattle.std.proofs.Common.{subst, drop, get_or, ◌+◌}
use Rattle.std.proofs.lemmas.List.{drop_more}
use Rattle.chr_ops.specs.working.Walks.{first_id, rest_from}
use Rattle.chr_ops.specs.working.Outside.{AddsOutside}
use Rattle.chr_ops.proofs.WalkSteps.{blank}
use Rattle.chr_ops.proofs.OutsideSteps.{IsWalked, walked_next, walked_more}
use Rattle.chr_ops.proofs.outside.ranges_outside.Goals as goal

pub push_outside-requires : goal.push_outside-requires
push_outside-requires c =
    let ranges = c.args.ranges.now in
    let i = c.loop-range.range-index in
    let parts = c.loop-range.parts.items in
    let rest = c.loop-range.rest.now in
    let walked = subst (λ rs. IsWalked parts rs rest ranges c.args.others.now)
    (drop_more ranges i blank c.loop-range-test.true) c.loop-range.invariant in
    rw (c.skip_ended-rest.ensures, c.first.ensures) (walked_next parts (get_or ranges i blank)
    (drop (i + 1) ranges) rest ranges c.args.others.now walked)

pub loop-range-preserved : goal.loop-range-preserved
loop-range-preserved c =
    let ranges = c.args.ranges.now in
    let i = c.loop-range.range-index in
    let parts = c.loop-range.parts.items in
    let rest = c.loop-range.rest.now in
    let r = get_or ranges i blank in
    let walked = subst (λ rs. IsWalked parts rs rest ranges c.args.others.now)
    (drop_more ranges i blank c.loop-range-test.true) c.loop-range.invariant in
    let adds : AddsOutside parts r (rest_from rest (first_id r)) c.push_outside.new.parts.items =
    rw (c.skip_ended-rest.ensures, c.first.ensures) at c.in_ok-push_outside.ensures in
    rw (c.skip_ended-rest.ensures, c.first.ensures) (walked_more parts r
    (drop (i + 1) ranges) rest ranges c.args.others.now walked c.push_outside.new.parts.items adds)
