use Rattle.std.proofs.Common.{sym, ◌∙◌, ap, arith}
use Rattle.std.specs.Prelude.{◌&&◌, nat_eq}
use Rattle.std.specs.Str.{bytes_eq}
use Rattle.std.specs.Option.{option_map}
use Rattle.chr_base.specs.Programs.{declarations, rules_of}
use Rattle.chr_base.proofs.Declared.{position-keys, not_declared_long, key_within}
use Rattle.chr_base.proofs.program.Program.symbol.Goals as goal

pub returns-in_err-symbol : goal.returns-in_err-symbol
returns-in_err-symbol c =
    ap (option_map (λ s. s.0)) c.from_residual.ensures
    ∙ sym (not_declared_long (declarations c.args.self.now) (rules_of c.args.self.now) c.args.name.now c.args.arity
    c.args.self.now.well_formed c.in_err-symbol.ensures.none)

pub returns-in_err-place : goal.returns-in_err-place
returns-in_err-place c =
    ap (option_map (λ s. s.0)) c.from_residual-in_err-place.ensures
    ∙ sym c.in_err-place.was ∙ c.get_index_of.ensures.index
    ∙ position-keys _ c.args.name.now c.args.arity (λ k i. bytes_eq (c.in_ok-symbol.ensures.name i) k.name.bytes
    && nat_eq (c.in_ok-symbol.ensures.arity i) k.arity) c.args.self.now.symbols.entries

pub overflow_cast-result : goal.overflow_cast-result
overflow_cast-result c =
    let small = key_within _ _ (rules_of c.args.self.now) c.in_ok-place.place c.args.self.now.well_formed
    (sym c.get_index_of.ensures.index ∙ c.in_ok-place.was) in
    omega (arith, small)

pub returns : goal.returns
returns c =
    sym c.in_ok-place.was ∙ c.get_index_of.ensures.index
    ∙ position-keys _ c.args.name.now c.args.arity (λ k i. bytes_eq (c.in_ok-symbol.ensures.name i) k.name.bytes
    && nat_eq (c.in_ok-symbol.ensures.arity i) k.arity) c.args.self.now.symbols.entries
