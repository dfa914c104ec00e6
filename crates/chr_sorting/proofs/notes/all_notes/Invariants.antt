use Rattle.std.proofs.Common.{◌≡◌, take}
use Rattle.std.specs.List.{flat_map}
use Rattle.chr_sorting.specs.working.Notes.{rule_notes}
use Rattle.chr_sorting.proofs.notes.all_notes.Given as goal

abbrev pub invariant-loop-rule : goal.invariant-loop-rule
invariant-loop-rule l = l.notes.items ≡ flat_map rule_notes (take l.rule-index l.rules)
