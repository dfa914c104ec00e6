use Rattle.std.proofs.Common.{rules}
use Rattle.std.proofs.lemmas.Bool.{OnTrue_from, OnTrue_at, OnFalse_from, OnFalse_at}
use Rattle.chr_base.proofs.Bindings.{patterns_bound, patterns_refused, first_pattern, rest_patterns}
use Rattle.chr_base.proofs.matching.+bind.Goals as goal

pub bind_pattern-requires-clause-numbered : goal.bind_pattern-requires-clause-numbered
bind_pattern-requires-clause-numbered t c = rw c.pattern-item.is
    (first_pattern _ c.args.patterns.now _ c.in-len1-up.len_at_least c.requires.numbered)

pub bind-requires : goal.bind-requires
bind-requires t c =
    let more = rest_patterns _ _ c.args.patterns.now _ _ c.in-len1-up.len_at_least c.requires.numbered
    (rw c.pattern-item.is at c.if-not-bind_pattern.ensures.bound) in
    search rules

pub returns-clause-bound : goal.returns-clause-bound
returns-clause-bound t c = OnTrue_from c.bind.result _ (λ e.
    patterns_bound _ _ _ c.args.patterns.now c.args.atoms.now _ _ c.in-len1-up.len_at_least
    c.in-len1-up-atoms.len_at_least (rw (c.pattern-item.is, c.atom-item.is) at c.if-not-bind_pattern.ensures.bound)
    (OnTrue_at e c.bind.ensures.bound))

pub returns-clause-refused : goal.returns-clause-refused
returns-clause-refused t c = OnFalse_from c.bind.result _ (λ e.
    patterns_refused _ _ c.args.patterns.now c.args.atoms.now _ _ c.in-len1-up.len_at_least
    c.in-len1-up-atoms.len_at_least (rw (c.pattern-item.is, c.atom-item.is) at c.if-not-bind_pattern.ensures.bound)
    (OnFalse_at e c.bind.ensures.refused))
