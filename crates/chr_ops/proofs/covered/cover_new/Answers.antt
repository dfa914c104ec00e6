use Rattle.std.proofs.Common.{◌≡◌}
use Rattle.chr_ops.proofs.RunsCovered.{firsts_disjoint, firsts_lifted, firsts_longest, firsts_there, ids_covered}
use Rattle.chr_ops.proofs.covered.cover_new.Goals as goal
use Rattle.chr_ops.proofs.covered.cover_new.Goals.{After-drop-runs, In_default}

-- where laying failed, what there was is there again
left : (c : goal.After-drop-runs) → c.lift.new.ends ≡ c.args.ends.now
left c =
    firsts_lifted c.args.ends.now c.args.ids.now c.in_ok-runs.runs.items c.requires.longest c.in_ok-runs.ensures.ranges
    c.in_ok-runs.ensures.covers c.requires.new c.lay.new.ends c.lift.new.ends
    (rw c.deref.ensures.value at c.lay.ensures.others) (rw c.deref-in-Err.ensures.value at c.lift.ensures)

pub returns-in-Err-clause-longest : goal.returns-in-Err-clause-longest
returns-in-Err-clause-longest c = rw (left c) c.requires.longest

pub returns-in-Err-clause-err : goal.returns-in-Err-clause-err
returns-in-Err-clause-err c = left c

pub join_beside-requires : goal.join_beside-requires
join_beside-requires c =
    firsts_disjoint c.args.ends.now c.args.ids.now c.in_ok-runs.runs.items c.requires.longest
    c.in_ok-runs.ensures.ranges c.in_ok-runs.ensures.covers c.requires.new c.lay.new.ends
    (rw c.deref.ensures.value at c.in_default.ensures.ok)

pub cover_runs-requires-clause-longest : goal.cover_runs-requires-clause-longest
cover_runs-requires-clause-longest c =
    firsts_longest c.args.ends.now c.args.ids.now c.in_ok-runs.runs.items c.requires.longest
    c.in_ok-runs.ensures.ranges c.in_ok-runs.ensures.covers c.requires.new c.lay.new.ends
    (rw c.deref.ensures.value at c.in_default.ensures.ok) c.join_beside.new.ends
    (rw c.deref-2.ensures.value at c.join_beside.ensures)

pub cover_runs-requires-clause-firsts : goal.cover_runs-requires-clause-firsts
cover_runs-requires-clause-firsts c =
    rw c.deref-3.ensures.value
    (firsts_there c.args.ends.now c.args.ids.now c.in_ok-runs.runs.items c.requires.longest
    c.in_ok-runs.ensures.ranges c.in_ok-runs.ensures.covers c.requires.new c.lay.new.ends
    (rw c.deref.ensures.value at c.in_default.ensures.ok) c.join_beside.new.ends
    (rw c.deref-2.ensures.value at c.join_beside.ensures))

pub returns-clause-covers : goal.returns-clause-covers
returns-clause-covers c =
    ids_covered c.args.ends.now c.args.ids.now c.in_ok-runs.runs.items c.requires.longest
    c.in_ok-runs.ensures.ranges c.in_ok-runs.ensures.covers c.requires.new c.lay.new.ends
    (rw c.deref.ensures.value at c.in_default.ensures.ok) c.join_beside.new.ends
    (rw c.deref-2.ensures.value at c.join_beside.ensures) c.cover_runs.new.ends
    (rw c.deref-3.ensures.value at c.cover_runs.ensures.covers)
