use Rattle.std.proofs.Common.{rules, arith, ap, sym, ◌≡◌, ◌+◌, ◌-◌, ◌^◌, ◌<◌, ◌≤◌, None}
use Rattle.std.specs.FinMap as map
use Rattle.chr_ops.specs.declared.id.OpId.{OpId}
use Rattle.chr_ops.proofs.RangesGrown.{met, reached, set_there, still_there, past_number}
use Rattle.chr_ops.proofs.RangesGrown.{none_before, none_behind, none_up_to}
use Rattle.chr_ops.proofs.covered.reach_on.Goals as goal
use Rattle.chr_ops.proofs.covered.reach_on.Goals.{After-remove, After-set-2, in-Some+else-next-first, in_default}
use Rattle.chr_ops.proofs.covered.reach_on.Goals.{else-next-first-via-then-next-first+else-next-run}
use Rattle.chr_ops.proofs.covered.reach_on.Goals.{else-next-first-via-else-next-first}

pub returns-then-next-run-clause-gains : goal.returns-then-next-run-clause-gains
returns-then-next-run-clause-gains c =
    let m = c.args.ends.now in
    let k = c.args.first in
    let h = c.args.last in
    let id = c.in-Some.next in
    let d = c.requires.longest in
    let same = sym c.if-next-first.true in
    let past : h < id.number = past_number k id h c.in-Some.ensures.from same in
    let fit = d.disjoint.fits id c.in-Some.end c.in-Some.ensures.there in
    rw (c.remove.ensures, c.set.ensures)
    (met m d c.args.run k h (id.number - 1) c.requires.there c.requires.along c.requires.within.0 (omega (arith, past))
    c.if-next-run.true (omega (arith, fit))
    (λ q o l less. none_before m k h id c.in-Some.ensures.first same q o l (omega (arith, less, past)))
    id c.in-Some.end c.in-Some.ensures.there same (omega (arith, past)))

pub returns-then-next-run-clause-there : goal.returns-then-next-run-clause-there
returns-then-next-run-clause-there c =
    let k = c.args.first in
    let id = c.in-Some.next in
    let past = past_number k id c.args.last c.in-Some.ensures.from (sym c.if-next-first.true) in
    let low = (c.requires.longest.disjoint.fits k c.args.last c.requires.there).0 in
    rw (c.remove.ensures, c.set.ensures)
    (still_there c.args.ends.now k id c.in-Some.end
    (λ e. (let n : k.number ≡ id.number = ap (λ a. a.number) e in omega (arith, n, low, past))))

-- no range begins up to the number behind the run
clear : (c : goal.After-set-2) (q : OpId) → c.args.first.origin ≡ q.origin → c.args.last < q.number
    → q.number ≤ c.args.run.hi + 1 → map.get c.args.ends.now q ≡ None
clear c =
    let m = c.args.ends.now in
    let k = c.args.first in
    let h = c.args.last in
    elim c.match-first_from.branch [
      | in-Some+else-next-first w ↦
          none_up_to m k h w.in-Some.next w.in-Some.ensures.first w.in-Some.ensures.from (c.args.run.hi + 1)
          (λ same. elim w.else-next-first.branch [
            | else-next-first-via-then-next-first+else-next-run v ↦ omega (arith, v.if-next-run.false)
            | else-next-first-via-else-next-first v ↦ absurd (v.if-next-first.false (sym same))
          ])
      | in_default w ↦ λ q o l less. none_behind m k h w.in_default.ensures.none q o l
    ]

pub returns-clause-gains : goal.returns-clause-gains
returns-clause-gains c =
    let run = c.args.run in
    let short = c.requires.within.1 in
    let fit : run.hi < 2 ^ 64 = search (rules, arith) in
    rw c.set-2.ensures
    (reached c.args.ends.now c.requires.longest run c.args.first c.args.last run.hi c.requires.there c.requires.along
    c.requires.within.0 (omega (arith, short)) (omega arith) fit
    (λ q o l less. clear c q o l (omega (arith, less)))
    (λ q o next. clear c q o (omega (arith, next, short)) (omega (arith, next))))

pub returns-clause-there : goal.returns-clause-there
returns-clause-there c = rw c.set-2.ensures (set_there c.args.ends.now c.args.first c.args.run.hi)
