use Rattle.std.proofs.Common.{◌≡◌, ◌++◌, drop, map}
use Rattle.std.specs.Prelude.{string_bytes, codes}
use Rattle.chr_read.specs.CanonicalTexts.{more, symbol_text}
use Rattle.chr_read.specs.working.Views.{declared_view}
use Rattle.chr_read.proofs.writer.push_more_symbols.Given as goal

abbrev pub invariant-loop-declared : goal.invariant-loop-declared
invariant-loop-declared l = string_bytes l.out ++ more (codes ", ") symbol_text
    (map declared_view (drop l.declared-index l.all)) ≡ string_bytes l.fn.out ++ more (codes ", ") symbol_text
    (map declared_view l.all)
