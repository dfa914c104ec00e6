use Rattle.std.proofs.Common.{sym, subst, ◌∙◌}
use Rattle.std.specs.List.{AllZip}
use Rattle.rayon.proofs.ListFacts.{IfOk-then}
use Rattle.rayon.proofs.ToStd.{slice-AllZip}
use Rattle.chr_join.specs.working.Counting.{HasFewTypes, IsCountIfThere}
use Rattle.chr_join.proofs.counting.numbers_of.Goals as goal

pub collect-requires-clause-ready : goal.collect-requires-clause-ready
collect-requires-clause-ready g c κs within =
    let few = HasFewTypes c.args.constants.now in
    rw (c.map.ensures.base, c.map.ensures.f, c.with_min_len.ensures.base, c.par_iter.ensures)
    (λ k d lt x e. ((c.requires.rising, subst few (sym e) (c.requires.few k d lt)), λ y p. tt))

pub returns : goal.returns
returns g c =
    let is = IsCountIfThere c.args.constants.now in
    IfOk-then c.collect.result _ _ c.collect.ensures (λ v h.
    let chain = rw (c.map.ensures.base, c.map.ensures.f, c.with_min_len.ensures.base) at h.1 in
    subst (AllZip is c.args.guards.now) (sym h.2)
    (slice-AllZip chain.0 c.args.guards.now (chain.1 ∙ c.par_iter.ensures) is h.0 chain.2))
