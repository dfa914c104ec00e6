use Rattle.std.proofs.Common.{sym, ap, subst, ◌∙◌}
use Rattle.std.proofs.lemmas.Bool.{OnTrue_from}
use Rattle.std.specs.List.{All}
use Rattle.rayon.proofs.ToStd.{slice-All}
use Rattle.chr_weights.specs.WeighedPrograms.{rules_in}
use Rattle.chr_overlaps.specs.OverlapLists.{IsOverlapOf}
use Rattle.chr_join.specs.working.Portions.{IsSettled}
use Rattle.chr_join.proofs.Lists.{match_true}
use Rattle.chr_join.proofs.settled.many_settled.Goals as goal

pub all-requires-clause-items : goal.all-requires-clause-items
all-requires-clause-items g c κs within k d lt x e =
    let same = ap (λ p. p.slice.now) c.with_min_len.ensures.base ∙ c.par_iter.ensures in
    let of = subst (All (IsOverlapOf (rules_in c.args.weighed.now))) (sym same) c.requires.overlaps in
    (subst (IsOverlapOf (rules_in c.args.weighed.now)) (sym e) (of k d lt), c.requires.finest, c.requires.originals)

pub returns : goal.returns
returns g c =
    let J = IsSettled (rules_in c.args.weighed.now) in
    let h = rw c.with_min_len.ensures.base at c.all.ensures in
    OnTrue_from c.all.result (All J c.args.overlaps.now)
    (λ e. slice-All h.0 c.args.overlaps.now (h.1 ∙ c.par_iter.ensures) J (match_true c.all.result _ _ e h.2))
