use Rattle.std.proofs.Common.{arith}
use Rattle.std.proofs.lemmas.Bool.{OnTrue_from, OnTrue_at, OnFalse_from, OnFalse_at}
use Rattle.std.proofs.lemmas.List.{length-append}
use Rattle.chr_base.proofs.Firing.{kept_numbered, removed_numbered, heads_bound, removed_refused}
use Rattle.chr_base.proofs.rule.Rule.bind.Goals as goal

pub bind-requires-clause-numbered : goal.bind-requires-clause-numbered
bind-requires-clause-numbered c = rw (c.requires.none, c.as_slice.ensures.value) (kept_numbered c.args.self.now)

pub bind-requires-2-clause-numbered : goal.bind-requires-2-clause-numbered
bind-requires-2-clause-numbered c =
    rw c.as_slice-2.ensures.value (removed_numbered c.args.self.now _ _
    (rw (c.requires.none, c.as_slice.ensures.value) at c.if-not-bind.ensures.bound))

pub returns-clause-bound : goal.returns-clause-bound
returns-clause-bound c = OnTrue_from c.bind-2.result _ (λ e.
    heads_bound c.args.self.now c.args.heads.now _ _ (let p = c.requires.places in let n =
    length-append c.args.self.now.kept.items c.args.self.now.removed.items in omega (arith, p, n))
    (rw (c.requires.none, c.as_slice.ensures.value, c.split_at.ensures.front, c.len.ensures.value) at
    c.if-not-bind.ensures.bound)
    (rw (c.as_slice-2.ensures.value, c.split_at.ensures.back, c.len.ensures.value) at
    (OnTrue_at e c.bind-2.ensures.bound)))

pub returns-clause-refused : goal.returns-clause-refused
returns-clause-refused c = OnFalse_from c.bind-2.result _ (λ e.
    removed_refused c.args.self.now c.args.heads.now _
    (let p = c.requires.places in let n = length-append c.args.self.now.kept.items c.args.self.now.removed.items in
    omega (arith, p, n))
    (rw (c.requires.none, c.as_slice.ensures.value, c.split_at.ensures.front, c.len.ensures.value) at
    c.if-not-bind.ensures.bound)
    (rw (c.as_slice-2.ensures.value, c.split_at.ensures.back, c.len.ensures.value) at
    (OnFalse_at e c.bind-2.ensures.refused)))
