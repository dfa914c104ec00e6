use Rattle.std.proofs.Common.{◌≡◌, ◌++◌, take}
use Rattle.chr_ops.specs.News.{ids_of}
use Rattle.chr_ops.proofs.news.push_ids.Given as goal

abbrev pub invariant-loop-op : goal.invariant-loop-op
invariant-loop-op l = l.ids.items ≡ l.fn.ids.items ++ ids_of (take l.op-index l.ops)
