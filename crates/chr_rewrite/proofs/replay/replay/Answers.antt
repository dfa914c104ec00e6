use Rattle.std.proofs.Common.{Err, ap, sym}
use Rattle.chr_base.specs.Programs.{rules_of}
use Rattle.chr_weights.specs.WeighedPrograms.{program_of}
use Rattle.chr_rewrite.proofs.DerivationLemmas.{stops_endless}
use Rattle.chr_rewrite.proofs.PoolLemmas.{pool_of_atoms}
use Rattle.chr_rewrite.proofs.replay.replay.Goals as goal

pub returns-clause-ok : goal.returns-clause-ok
returns-clause-ok c =
    let start = pool_of_atoms _ _ c.args.derivation.now.start _ c.new-pool.ensures c.atoms.ensures
    c.in_ok-insert.ensures.ok in
    rw (c.in_ok-bag.ensures, ← start, ← c.deref.ensures.value) c.in_ok-take_steps.ensures.ok

pub returns-in_err-take_steps-clause-not_there : goal.returns-in_err-take_steps-clause-not_there
returns-in_err-take_steps-clause-not_there c n e =
    let start = pool_of_atoms _ _ c.args.derivation.now.start _ c.new-pool.ensures c.atoms.ensures
    c.in_ok-insert.ensures.ok in
    let kept = rw e at c.from_residual-in_err-take_steps.ensures.1 in
    rw (← start, ← c.deref.ensures.value) (c.in_err-take_steps.ensures.not_there n (ap Err (sym kept)))

pub returns-in_err-take_steps-clause-no_end : goal.returns-in_err-take_steps-clause-no_end
returns-in_err-take_steps-clause-no_end c n e =
    stops_endless (rules_of (program_of c.args.weighed.now)) c.args.derivation.now.steps.items
    c.args.derivation.now.start n (returns-in_err-take_steps-clause-not_there c n e)
