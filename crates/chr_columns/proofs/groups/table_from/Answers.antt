use Rattle.std.proofs.Common.{◌≤◌, length, arith}
use Rattle.chr_columns.proofs.Grouping.{passed_over}
use Rattle.chr_columns.proofs.groups.table_from.Goals as goal

pub loop-i-init : goal.loop-i-init
loop-i-init c =
    let start = c.min-start.result in
    let least = c.min-start.ensures in
    let within : start ≤ length c.args.groups.now = omega (arith, least) in
    passed_over c.args.groups.now c.args.symbol c.args.arity start within
    (λ j g l at. c.requires c.args.symbol.0 j g (let e = c.start_for.ensures in omega (arith, l, least, e)) at)
