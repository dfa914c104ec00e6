use Rattle.std.proofs.Common.{◌≡◌, ◌++◌, drop}
use Rattle.std.specs.Prelude.{string_bytes, codes}
use Rattle.chr_read.specs.CanonicalTexts.{more, comparison_text}
use Rattle.chr_read.proofs.writer.push_more_comparisons.Given as goal

abbrev pub invariant-loop-comparison : goal.invariant-loop-comparison
invariant-loop-comparison l = string_bytes l.out ++ more (codes ", ") comparison_text
    (drop l.comparison-index l.comparisons) ≡ string_bytes l.fn.out ++ more (codes ", ") comparison_text l.comparisons
