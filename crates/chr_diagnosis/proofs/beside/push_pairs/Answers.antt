use Rattle.std.proofs.Common.{sym, subst}
use Rattle.std.specs.List.{All}
use Rattle.std.proofs.lemmas.List.Elements.{All-push}
use Rattle.chr_weights.specs.WeighedPrograms.{rules_in}
use Rattle.chr_diagnosis.specs.Beside.{IsPairOf}
use Rattle.chr_diagnosis.proofs.beside.push_pairs.Goals as goal

pub loop-second-preserved : goal.loop-second-preserved
loop-second-preserved c =
    let of = IsPairOf (rules_in c.args.weighed.now) c.args.symbol in
    subst (All of) (sym c.in_ok-push.ensures.items)
    (All-push of c.loop-second.pairs.items c.in_ok-pair.pair c.loop-second.invariant c.in_ok-pair.ensures)
