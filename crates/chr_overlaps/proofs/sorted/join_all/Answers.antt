use Rattle.std.proofs.Common.{◌≡◌, ◌++◌, Some, None, map, sym, ap, ◌∙◌}
use Rattle.chr_base.specs.Rules.{heads_of}
use Rattle.chr_confluence.specs.Overlaps.{equations, equations_of, variables_of}
use Rattle.chr_confluence.specs.working.Solving.{solve}
use Rattle.chr_confluence.specs.SortedCases.{guard_equations, equation_apart}
use Rattle.chr_overlaps.specs.working.Tables.{class_in}
use Rattle.chr_overlaps.proofs.GuardEquations.{not_moved}
use Rattle.chr_overlaps.proofs.Solutions.{solved_first, first_clash}
use Rattle.chr_overlaps.proofs.sorted.join_all.Goals as goal

pub returns-then-not-join_heads-clause-classes : goal.returns-then-not-join_heads-clause-classes
returns-then-not-join_heads-clause-classes c =
    let r1 = c.args.first.now in
    let r2 = c.args.second.now in
    let m = c.args.matching.now in
    let σ = class_in c.args.classes.now.terms.items in
    let heads : None ≡ solve σ (equations_of r1 r2 m) = c.if-not-join_heads.ensures.classes
    ∙ ap (λ n. solve σ (equations n (heads_of r2) m (heads_of r1))) c.requires.shift in
    let fs = guard_equations r1.guard.items in
    let gs = map (equation_apart (variables_of r1)) (guard_equations r2.guard.items) in
    sym (first_clash σ (equations_of r1 r2 m ++ fs) gs (sym (first_clash σ (equations_of r1 r2 m) fs heads)))

pub returns-then-not-join_guard-clause-classes : goal.returns-then-not-join_guard-clause-classes
returns-then-not-join_guard-clause-classes c =
    let r1 = c.args.first.now in
    let r2 = c.args.second.now in
    let m = c.args.matching.now in
    let σ = class_in c.args.classes.now.terms.items in
    let τ = class_in c.join_heads.new.classes.terms.items in
    let fs = guard_equations r1.guard.items in
    let gs = map (equation_apart (variables_of r1)) (guard_equations r2.guard.items) in
    let heads : Some τ ≡ solve σ (equations_of r1 r2 m) = c.if-not-join_heads.ensures.classes
    ∙ ap (λ n. solve σ (equations n (heads_of r2) m (heads_of r1))) c.requires.shift in
    let guard : None ≡ solve τ fs = c.if-not-join_guard.ensures.classes ∙ ap (solve τ) (not_moved fs) in
    sym (first_clash σ (equations_of r1 r2 m ++ fs) gs (guard ∙ sym (solved_first σ τ (equations_of r1 r2 m) fs heads)))

pub returns-clause-classes : goal.returns-clause-classes
returns-clause-classes c =
    let r1 = c.args.first.now in
    let r2 = c.args.second.now in
    let m = c.args.matching.now in
    let σ = class_in c.args.classes.now.terms.items in
    let τ = class_in c.join_heads.new.classes.terms.items in
    let ρ = class_in c.join_guard.new.classes.terms.items in
    let fs = guard_equations r1.guard.items in
    let gs = map (equation_apart (variables_of r1)) (guard_equations r2.guard.items) in
    let heads : Some τ ≡ solve σ (equations_of r1 r2 m) = c.if-not-join_heads.ensures.classes
    ∙ ap (λ n. solve σ (equations n (heads_of r2) m (heads_of r1))) c.requires.shift in
    let guard : Some ρ ≡ solve τ fs = c.if-not-join_guard.ensures.classes ∙ ap (solve τ) (not_moved fs) in
    c.join_guard-2.ensures.classes ∙ ap (λ n. solve ρ (map (equation_apart n) (guard_equations r2.guard.items)))
    c.requires.shift
    ∙ sym (solved_first σ ρ (equations_of r1 r2 m ++ fs) gs
    (guard ∙ sym (solved_first σ τ (equations_of r1 r2 m) fs heads)))
