use Rattle.std.proofs.Common.{length, map, subst, ◌≡◌, true, sym}
use Rattle.chr_base.specs.declared.term.Pattern.{Pattern}
use Rattle.chr_confluence.specs.Overlaps.{renamed_apart}
use Rattle.chr_overlaps.specs.working.Tables.{are_below}
use Rattle.chr_overlaps.proofs.Bounds.{shifted_below}
use Rattle.chr_overlaps.proofs.unify.class_heads.Goals as goal

pub class_pattern-requires : goal.class_pattern-requires
class_pattern-requires c =
    let n = length c.args.classes.now.terms.items in
    subst (λ (p : Pattern). are_below n (map (renamed_apart c.args.shift) p.args.items) ≡ true) (sym c.head_at.ensures)
    (shifted_below c.args.rule.now c.args.shift n c.loop-place.place c.requires)
