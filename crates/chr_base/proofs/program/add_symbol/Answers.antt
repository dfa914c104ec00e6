use Rattle.std.proofs.Common.{ap, ◌∙◌, map, refl}
use Rattle.chr_base.specs.ProgramTests.{declared}
use Rattle.chr_base.specs.Weights.{default_weight}
use Rattle.chr_base.proofs.Declared.{declared_last, not_declared}
use Rattle.chr_base.proofs.program.add_symbol.Goals as goal

pub returns-clause-ok : goal.returns-clause-ok
returns-clause-ok c =
    ap (map declared) c.in_ok-insert.ensures.entries
    ∙ declared_last _ c.args.symbol default_weight (λ k. refl) c.args.symbols.now.entries
    (not_declared (map declared c.args.symbols.now.entries) c.args.symbol.name.bytes c.args.symbol.arity
    c.requires.new)
