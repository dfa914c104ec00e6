use Rattle.std.proofs.Common.{◌∙◌}
use Rattle.chr_base.specs.Rules.{guard_holds}
use Rattle.chr_confluence.specs.Representatives.{assignment}
use Rattle.chr_overlaps.proofs.unify.Unified.guards_hold.Goals as goal

pub returns : goal.returns
returns c = c.all_hold.ensures ∙ (λ i. guard_holds (assignment (c.deref.ensures.0 i) c.args.values.now)
    (c.deref-2.ensures.0 i))
