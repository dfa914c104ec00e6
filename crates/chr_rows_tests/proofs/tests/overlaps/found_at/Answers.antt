use Rattle.std.proofs.Common.{subst, sym, ◌∙◌, arith}
use Rattle.chr_types.specs.OrderTypes.{In}
use Rattle.chr_types.proofs.Members.{in_at}
use Rattle.chr_rows_tests.proofs.tests.overlaps.found_at.Goals as goal

pub returns : goal.returns
returns g c =
    c.in_ok-found.ensures.overlaps.each c.copy.result
    (subst (λ o. In o c.in_ok-found.found.items) (sym (c.copy.ensures ∙ c.index.ensures))
    (in_at c.in_ok-found.found.items c.args.place c.index.result.now (omega arith)))
