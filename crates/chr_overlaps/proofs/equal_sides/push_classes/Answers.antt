use Rattle.std.proofs.Common.{sym, subst}
use Rattle.chr_base.specs.declared.term.Pattern.{Pattern}
use Rattle.chr_types.specs.OrderTypes.{In}
use Rattle.chr_types.proofs.Members.{in_at}
use Rattle.chr_overlaps.proofs.equal_sides.push_classes.Goals as goal

pub class_pattern-requires : goal.class_pattern-requires
class_pattern-requires c =
    let p = c.pattern-item.result in
    c.requires.below p (subst (λ (q : Pattern). In q c.args.patterns.now) (sym c.pattern-item.is)
    (in_at c.args.patterns.now c.loop-pattern.pattern-index p c.loop-pattern-test.true))
