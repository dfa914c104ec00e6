use Rattle.std.proofs.Common.{length, sym, subst}
use Rattle.std.specs.List.{All, AllZip}
use Rattle.std.proofs.lemmas.List.Elements.{All-drop, All-take}
use Rattle.chr_weights.specs.WeighedPrograms.{rules_in}
use Rattle.chr_overlaps.specs.OverlapLists.{IsOverlapOf}
use Rattle.chr_join.specs.working.Checking.{IsNumberOf}
use Rattle.chr_join.proofs.ahead.look_ahead.Goals as goal

pub numbers_of-requires-clause-overlaps : goal.numbers_of-requires-clause-overlaps
numbers_of-requires-clause-overlaps g c κs within =
    let of = IsOverlapOf (rules_in c.args.weighed.now) in
    subst (All of) (sym c.batch_from-batch.ensures) (All-take of (length c.batch_from-batch.result.now) _
    (All-drop of c.args.places.start c.args.overlaps.now c.requires.overlaps))

pub returns : goal.returns
returns g c =
    let number = IsNumberOf c.args.lister.now.coverage (rules_in c.args.weighed.now) in (
      length c.batch_from-batch.result.now,
      subst (λ os. AllZip number os c.in_ok-numbers_of.field-0.items)
          c.batch_from-batch.ensures c.in_ok-numbers_of.ensures,
    )
