use Rattle.std.proofs.Common.{length, map, ap, sym, subst, ◌≡◌, ◌<◌, ◌+◌, ◌∙◌, true, List, arith}
use Rattle.chr_base.specs.declared.term.Term.{Term}
use Rattle.chr_confluence.specs.Overlaps.{renamed_apart, variables_of}
use Rattle.chr_overlaps.specs.working.Tables.{are_below}
use Rattle.chr_overlaps.proofs.Bounds.{args_below, shifted_below}
use Rattle.chr_overlaps.proofs.unify.join_at.Goals as goal

pub join_terms-requires-clause-left : goal.join_terms-requires-clause-left
join_terms-requires-clause-left c =
    let n = length c.args.classes.now.terms.items in
    let l : variables_of c.args.first.now < n = (let t = c.requires.table in omega (arith, t)) in
    subst (λ (ts : List Term). are_below n ts ≡ true) (sym
    (c.deref.ensures.0 ∙ ap (λ p. p.args.items) c.head_at-left.ensures))
    (args_below c.args.first.now n c.args.place l)

pub join_terms-requires-clause-right : goal.join_terms-requires-clause-right
join_terms-requires-clause-right c =
    let n = length c.args.classes.now.terms.items in
    let l : c.args.shift + variables_of c.args.second.now < n =
    (let t = c.requires.table in let s = c.requires.shift in omega (arith, t, s)) in
    subst (λ (ts : List Term). are_below n (map (renamed_apart c.args.shift) ts) ≡ true)
    (sym (c.deref-2.ensures.0 ∙ ap (λ p. p.args.items) c.head_at-right.ensures))
    (shifted_below c.args.second.now c.args.shift n c.args.matched l)
