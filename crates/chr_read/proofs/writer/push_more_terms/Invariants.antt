use Rattle.std.proofs.Common.{◌≡◌, ◌++◌, drop}
use Rattle.std.specs.Prelude.{string_bytes, codes}
use Rattle.chr_read.specs.CanonicalTexts.{more, term_text}
use Rattle.chr_read.proofs.writer.push_more_terms.Given as goal

abbrev pub invariant-loop-term : goal.invariant-loop-term
invariant-loop-term l = string_bytes l.out ++ more (codes ",") term_text (drop l.term-index l.terms)
    ≡ string_bytes l.fn.out ++ more (codes ",") term_text l.terms
