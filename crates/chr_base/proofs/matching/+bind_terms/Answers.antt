use Rattle.std.proofs.lemmas.Bool.{OnTrue_from, OnFalse_from}
use Rattle.chr_base.proofs.Bindings.{terms_bound, terms_refused}
use Rattle.chr_base.proofs.matching.+bind_terms.Goals as goal

pub returns-clause-bound : goal.returns-clause-bound
returns-clause-bound t c = OnTrue_from c.bind_terms.result _ (λ e.
    terms_bound _ _ _ c.args.terms.now c.args.arguments.now _ _ c.in-len1-up.len_at_least
    c.in-len1-up-arguments.len_at_least c.if-not-bind_term.ensures.bound (rw e at c.bind_terms.ensures.bound))

pub returns-clause-refused : goal.returns-clause-refused
returns-clause-refused t c = OnFalse_from c.bind_terms.result _ (λ e.
    terms_refused _ _ c.args.terms.now c.args.arguments.now _ _ c.in-len1-up.len_at_least
    c.in-len1-up-arguments.len_at_least c.if-not-bind_term.ensures.bound (rw e at c.bind_terms.ensures.refused))
