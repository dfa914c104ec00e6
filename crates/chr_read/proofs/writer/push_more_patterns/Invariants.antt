use Rattle.std.proofs.Common.{◌≡◌, ◌++◌, drop}
use Rattle.std.specs.Prelude.{string_bytes, codes}
use Rattle.chr_base.specs.Programs.{declarations}
use Rattle.chr_read.specs.CanonicalTexts.{more, pattern_text}
use Rattle.chr_read.proofs.writer.push_more_patterns.Given as goal

abbrev pub invariant-loop-pattern : goal.invariant-loop-pattern
invariant-loop-pattern l = string_bytes l.out ++ more (codes ", ") (pattern_text (declarations l.program))
    (drop l.pattern-index l.patterns) ≡ string_bytes l.fn.out
    ++ more (codes ", ") (pattern_text (declarations l.program)) l.patterns
