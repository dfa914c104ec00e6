use Rattle.std.proofs.Common.{◌≡◌, ◌-◌, ◌++◌, length}
use Rattle.chr_ops.proofs.entries.move_all.Given as goal

abbrev pub invariant-loop : goal.invariant-loop
invariant-loop l =
    (l.bags.entries ++ l.appended.items ≡ l.fn.bags.entries ++ l.fn.appended.items)
    × (length l.appended.items ≡ l.end - l.counter)
