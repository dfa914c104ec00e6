use Rattle.std.proofs.Common.{rules, arith, ◌≡◌, ◌+◌, ◌^◌}
use Rattle.std.specs.Ordering.{eq_by_cmp}
use Rattle.chr_ops.specs.Ids.{id_cmp}
use Rattle.chr_ops.specs.working.Covering.{next_id}
use Rattle.chr_ops.proofs.RangeJoins.{joined_twice, none_past}
use Rattle.chr_ops.proofs.covered.join_around.Goals as goal

pub returns-in-Some : goal.returns-in-Some
returns-in-Some c =
    let next : c.in-Some.number ≡ c.args.id.number + 1 = search rules in
    joined_twice c.args.ends.now c.join_at.new.ends c.join_at-in-Some.new.ends (λ q. eq_by_cmp id_cmp q c.args.id)
    (λ q. eq_by_cmp id_cmp q (next_id c.args.id)) c.join_at.ensures (rw next at c.join_at-in-Some.ensures)

pub returns-in_default : goal.returns-in_default
returns-in_default c =
    let last : c.args.id.number + 1 ≡ 2 ^ 64 = search (rules, arith) in
    none_past c.args.ends.now c.join_at.new.ends c.args.id c.requires last c.join_at.ensures
