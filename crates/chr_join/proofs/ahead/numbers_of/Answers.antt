use Rattle.std.proofs.Common.{sym, subst, ◌∙◌}
use Rattle.std.specs.List.{AllZip}
use Rattle.rayon.proofs.ListFacts.{IfOk-then}
use Rattle.rayon.proofs.ToStd.{slice-AllZip}
use Rattle.chr_weights.specs.WeighedPrograms.{rules_in}
use Rattle.chr_overlaps.specs.OverlapLists.{IsOverlapOf}
use Rattle.chr_join.specs.working.Checking.{IsNumberOf}
use Rattle.chr_join.proofs.ahead.numbers_of.Goals as goal

pub collect-requires-clause-ready : goal.collect-requires-clause-ready
collect-requires-clause-ready g c κs within =
    let of = IsOverlapOf (rules_in c.args.weighed.now) in
    rw (c.map.ensures.base, c.map.ensures.f, c.with_min_len.ensures.base, c.par_iter.ensures)
    (λ k d lt x e. ((subst of (sym e) (c.requires.overlaps k d lt), c.requires.lister), λ y p. tt))

pub returns : goal.returns
returns g c =
    let number = IsNumberOf c.args.lister.now.coverage (rules_in c.args.weighed.now) in
    IfOk-then c.collect.result _ _ c.collect.ensures (λ v h.
    let chain = rw (c.map.ensures.base, c.map.ensures.f, c.with_min_len.ensures.base) at h.1 in
    subst (AllZip number c.args.overlaps.now) (sym h.2)
    (slice-AllZip chain.0 c.args.overlaps.now (chain.1 ∙ c.par_iter.ensures) number h.0 chain.2))
