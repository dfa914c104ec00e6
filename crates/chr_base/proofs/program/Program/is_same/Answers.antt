use Rattle.chr_base.proofs.SamePrograms.{programs_decide, other_symbols}
use Rattle.chr_base.proofs.program.Program.is_same.Goals as goal

pub returns-then-eq : goal.returns-then-eq
returns-then-eq c =
    programs_decide c.args.self.now c.args.other.now _ _ _ _ _ _ c.as_slice.ensures.entries c.as_slice-2.ensures.entries
    c.as_slice-then-eq.ensures.value c.as_slice-then-eq-2.ensures.value
    c.eq.ensures c.if-eq.true c.eq-then-eq.ensures

pub returns-else-eq : goal.returns-else-eq
returns-else-eq c = other_symbols c.args.self.now c.args.other.now _ _ _ c.as_slice.ensures.entries
    c.as_slice-2.ensures.entries c.eq.ensures c.if-eq.false
