use Rattle.std.proofs.Common.{◌≡◌, ◌++◌, drop, codes}
use Rattle.std.specs.Prelude.{string_bytes}
use Rattle.std.specs.Fmt.{decimal}
use Rattle.std.specs.List.{flat_map}
use Rattle.chr_report.proofs.verdict.push_more_entries.Given as goal

abbrev pub invariant-loop-entry : goal.invariant-loop-entry
invariant-loop-entry l =
    string_bytes l.out ++ flat_map (λ n. codes "," ++ decimal n) (drop l.entry-index l.entries)
    ≡ string_bytes l.fn.out ++ flat_map (λ n. codes "," ++ decimal n) l.entries
