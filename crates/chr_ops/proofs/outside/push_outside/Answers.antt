use Rattle.std.proofs.Common.{rules, arith, ◌≡◌, ◌++◌, ◌^◌, ◌<◌, ◌≤◌, [], ◌∷◌}
use Rattle.chr_ops.specs.working.Outside.{part_before}
use Rattle.chr_ops.proofs.OutsideSteps.{front, none_front, behind_front, past_front, left_front, added_front}
use Rattle.chr_ops.proofs.outside.push_outside.Goals as goal
use Rattle.chr_ops.proofs.outside.push_outside.Goals.{in_default, in-len1-up+then-not-begins_by_end_of}

pub returns-then-left-other : goal.returns-then-left-other
returns-then-left-other c =
    let xs = c.loop-rest.rest.now in
    let left = c.loop-rest.left in
    let near : ((front xs).origin ≡ left.origin) × ((front xs).lo ≤ left.hi) =
    search (rules, c.begins_by_end_of.ensures) in
    let past : left.hi ≤ (front xs).hi = search (rules, arith) in
    rw c.in_ok-push_before.ensures
    (c.loop-rest.invariant.to_come (c.loop-rest.parts.items ++ part_before left (front xs))
    (past_front c.loop-rest.parts.items left xs c.in-len1-up.len_at_least c.loop-rest.invariant.next near.0 near.1
    past))

pub overflow_add-left : goal.overflow_add-left
overflow_add-left c =
    let last : c.args.range.hi < 2 ^ 64 = search (rules, arith) in
    let ends = c.loop-rest.invariant.ends in
    let less : (front c.loop-rest.rest.now).hi < c.loop-rest.left.hi = search (rules, arith) in
    omega (arith, last, ends, less)

pub loop-rest-preserved : goal.loop-rest-preserved
loop-rest-preserved c =
    let xs = c.loop-rest.rest.now in
    let left = c.loop-rest.left in
    let near : ((front xs).origin ≡ left.origin) × ((front xs).lo ≤ left.hi) =
    search (rules, c.begins_by_end_of.ensures) in
    let less : (front xs).hi < left.hi = search (rules, arith) in
    rw c.in_ok-push_before.ensures (record {
      next = left_front c.loop-rest.parts.items left xs c.in-len1-up.len_at_least c.loop-rest.invariant.next near.0
          near.1 less;
      ends = c.loop-rest.invariant.ends;
      to_come = λ new h. c.loop-rest.invariant.to_come new
          (added_front c.loop-rest.parts.items left xs c.in-len1-up.len_at_least c.loop-rest.invariant.next near.0
          near.1 new h);
    })

pub returns : goal.returns
returns c = elim c.if-rest-lt1.branch [
  | in_default w ↦
      let left = c.loop-rest.left in
      let pushed : c.push.new.self.items ≡ c.loop-rest.parts.items ++ left ∷ [] = search rules in
      rw pushed (c.loop-rest.invariant.to_come (c.loop-rest.parts.items ++ left ∷ [])
      (none_front c.loop-rest.parts.items left c.loop-rest.rest.now w.in_default.len_below
      c.loop-rest.invariant.next))
  | in-len1-up+then-not-begins_by_end_of w ↦
      let left = c.loop-rest.left in
      let pushed : c.push.new.self.items ≡ c.loop-rest.parts.items ++ left ∷ [] = search rules in
      rw pushed (c.loop-rest.invariant.to_come (c.loop-rest.parts.items ++ left ∷ [])
      (behind_front c.loop-rest.parts.items left c.loop-rest.rest.now w.in-len1-up.len_at_least
      c.loop-rest.invariant.next (search (rules, w.begins_by_end_of.ensures))))
]
