use Rattle.std.proofs.Common.{◌≡◌, ◌++◌, drop}
use Rattle.std.specs.Prelude.{codes, string_bytes}
use Rattle.chr_base.specs.Programs.{declarations}
use Rattle.std.specs.List.{flat_map}
use Rattle.chr_base.specs.Texts.{atom_text}
use Rattle.chr_base.proofs.text.push_more_runs.Given as goal

abbrev pub invariant-loop-run : goal.invariant-loop-run
invariant-loop-run l =
    string_bytes l.out ++ flat_map (λ r. flat_map (λ a. codes ", " ++ atom_text (declarations l.program) a) r.now)
    (drop l.run-index l.runs)
    ≡ string_bytes l.fn.out ++ flat_map (λ r. flat_map (λ a. codes ", " ++ atom_text (declarations l.program) a) r.now)
    l.runs
