use Rattle.std.proofs.Common.{ap, sym, subst, ◌∙◌}
use Rattle.chr_base.specs.Rules.{heads_of}
use Rattle.chr_confluence.specs.Overlaps.{equations, equations_of}
use Rattle.chr_confluence.specs.working.Solving.{identity_substitution, solve}
use Rattle.chr_confluence.specs.Unifiers.{IsMostGeneralUnifier}
use Rattle.chr_overlaps.specs.declared.classes.Classes.{Classes}
use Rattle.chr_overlaps.specs.working.Tables.{class_in}
use Rattle.chr_overlaps.proofs.Solutions.{none_solve, some_solve}
use Rattle.chr_overlaps.proofs.unify.unify.Goals as goal

pub returns-then-not-join_heads-clause-none : goal.returns-then-not-join_heads-clause-none
returns-then-not-join_heads-clause-none c =
    let from = ap (λ σ. solve σ (equations c.variables-shift.result (heads_of c.args.second.now) c.args.matching.now
    (heads_of c.args.first.now))) c.identity-classes.ensures.classes in
    let k = ap (λ n. solve identity_substitution (equations n (heads_of c.args.second.now) c.args.matching.now
    (heads_of c.args.first.now))) c.variables-shift.ensures.number in
    none_solve (equations_of c.args.first.now c.args.second.now c.args.matching.now)
    (sym (c.if-not-join_heads.ensures.classes ∙ from ∙ k))

pub returns-clause-solves : goal.returns-clause-solves
returns-clause-solves c =
    let from = ap (λ σ. solve σ (equations c.variables-shift.result (heads_of c.args.second.now) c.args.matching.now
    (heads_of c.args.first.now))) c.identity-classes.ensures.classes in
    let k = ap (λ n. solve identity_substitution (equations n (heads_of c.args.second.now) c.args.matching.now
    (heads_of c.args.first.now))) c.variables-shift.ensures.number in
    let es = equations_of c.args.first.now c.args.second.now c.args.matching.now in
    subst (λ (k : Classes). IsMostGeneralUnifier (class_in k.terms.items) es) (sym c.unified_by.ensures.classes)
    (some_solve es (class_in c.join_heads.new.classes.terms.items)
    (sym (c.if-not-join_heads.ensures.classes ∙ from ∙ k)))
