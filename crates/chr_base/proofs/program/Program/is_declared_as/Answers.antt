use Rattle.std.proofs.Common.{sym, ◌∙◌}
use Rattle.std.proofs.lemmas.Bool.{OnTrue_from}
use Rattle.std.proofs.lemmas.Slice.Eq.{bytes_eq-Decides}
use Rattle.chr_base.specs.Programs.{declarations, rules_of}
use Rattle.chr_base.specs.ProgramTests.{declared}
use Rattle.chr_base.proofs.Distinct.{place_of, declared_as}
use Rattle.chr_base.proofs.program.Program.is_declared_as.Goals as goal

pub returns-then-from-arity : goal.returns-then-from-arity
returns-then-from-arity c = OnTrue_from c.eq.result _ (λ e.
    let same = (bytes_eq-Decides _ _).0 (sym c.eq.ensures ∙ e) in
    let d = declared (c.in-Some.known.now, c.in-Some.field-0-1.now) in
    place_of c.args.name.now c.args.arity (declarations c.args.self.now) (rules_of c.args.self.now) c.args.symbol.0
    d c.args.self.now.well_formed (sym c.in-Some.ensures)
    (declared_as d c.args.name.now c.args.arity (sym c.as_str.ensures.value ∙ same)
    (sym c.from.ensures ∙ c.if-from-arity.true)))
