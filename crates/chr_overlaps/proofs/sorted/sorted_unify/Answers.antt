use Rattle.std.proofs.Common.{ap, sym, subst, ◌∙◌}
use Rattle.chr_confluence.specs.Unifiers.{IsMostGeneralUnifier}
use Rattle.chr_confluence.specs.working.Solving.{solve}
use Rattle.chr_confluence.specs.SortedCases.{all_equations}
use Rattle.chr_overlaps.specs.declared.classes.Classes.{Classes}
use Rattle.chr_overlaps.specs.working.Tables.{class_in}
use Rattle.chr_overlaps.proofs.Solutions.{none_solve, some_solve}
use Rattle.chr_overlaps.proofs.sorted.sorted_unify.Goals as goal

pub returns-then-not-join_all-clause-none : goal.returns-then-not-join_all-clause-none
returns-then-not-join_all-clause-none c =
    let es = all_equations c.args.first.now c.args.second.now c.args.matching.now in
    none_solve es (sym (c.if-not-join_all.ensures.classes ∙ ap (λ σ. solve σ es) c.identity-classes.ensures.classes))

pub returns-clause-solves : goal.returns-clause-solves
returns-clause-solves c =
    let es = all_equations c.args.first.now c.args.second.now c.args.matching.now in
    subst (λ (k : Classes). IsMostGeneralUnifier (class_in k.terms.items) es) (sym c.unified_by.ensures.classes)
    (some_solve es (class_in c.join_all.new.classes.terms.items)
    (sym (c.if-not-join_all.ensures.classes ∙ ap (λ σ. solve σ es) c.identity-classes.ensures.classes)))
