use Rattle.std.proofs.lemmas.Bool.{OnTrue_from, OnTrue_at}
use Rattle.chr_base.proofs.Bindings.{atom_iff, binds_iff}
use Rattle.chr_base.proofs.matching.bind_pattern.Goals as goal

pub returns-clause-bound : goal.returns-clause-bound
returns-clause-bound c = OnTrue_from c.bind_terms.result _ (λ e.
    binds_iff _ _ _ _ _ (rw (c.as_slice.ensures.value, c.as_slice-2.ensures.value) at
    (OnTrue_at e c.bind_terms.ensures.bound)) (λ w. atom_iff w c.args.pattern.now c.args.atom.now
    c.if-pattern-atom.false))
