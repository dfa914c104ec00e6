use Rattle.std.proofs.Common.{◌≡◌, ◌++◌, FitsSigned, length}
use Rattle.std.specs.Int.{w64}
use Rattle.std.specs.List.{AllByRecursion}
use Rattle.chr_json.specs.working.Compact.{arguments_later, comma_text}
use Rattle.chr_json.proofs.compact.push_arguments.Given as goal

abbrev pub invariant-loop-next : goal.invariant-loop-next
invariant-loop-next l =
    (arguments_later (comma_text l.comma) l.fn.found.items ++ l.text
    ≡ arguments_later (comma_text l.comma) l.found.items ++ l.rest)
    × AllByRecursion (FitsSigned w64) l.found.items

abbrev pub decreases-loop-next : goal.decreases-loop-next
decreases-loop-next l = length l.rest
