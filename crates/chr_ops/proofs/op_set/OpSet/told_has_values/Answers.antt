use Rattle.std.proofs.Common.{subst}
use Rattle.chr_base.specs.Values.{HasValues}
use Rattle.chr_ops.specs.Operations.{told_store}
use Rattle.chr_ops.proofs.ToldValues.{told_has_values}
use Rattle.chr_ops.proofs.op_set.OpSet.told_has_values.Goals as goal

pub returns : goal.returns
returns c =
    subst (λ m. HasValues (told_store m)) c.self.view_is (told_has_values c.self.inside.held c.self.invariant.sized)
