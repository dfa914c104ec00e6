use Rattle.std.proofs.Common.{subst}
use Rattle.std.proofs.lemmas.Bool.{OnTrue_from}
use Rattle.chr_join.specs.working.Ends.{EndsIn}
use Rattle.chr_join.proofs.ends.Ends.have_one_end.Goals as goal

pub returns : goal.returns
returns c rules known =
    OnTrue_from c.is_same.result _ (λ e. (
      c.in-Some-known.right_end.now,
      subst (EndsIn rules c.args.left.now) (c.is_same.ensures.0 e) (c.in-Some.ensures rules known),
      c.in-Some-known.ensures rules known,
    ))
