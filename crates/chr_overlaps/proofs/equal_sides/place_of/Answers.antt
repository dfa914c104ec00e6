use Rattle.std.proofs.Common.{refl, sym, ap, ◌∙◌, Some}
use Rattle.std.proofs.lemmas.Option.{slice_get_read}
use Rattle.chr_base.proofs.SameRules.{pattern_decides}
use Rattle.chr_overlaps.proofs.equal_sides.place_of.Goals as goal

pub returns-then-eq : goal.returns-then-eq
returns-then-eq c =
    let p = c.index-patterns-place.result in
    slice_get_read c.args.patterns.now _ c.loop-place.place p refl c.loop-place-test.true c.index-patterns-place.is
    ∙ ap Some ((pattern_decides p c.args.pattern.now).0 (sym c.eq.ensures ∙ c.if-eq.true))
