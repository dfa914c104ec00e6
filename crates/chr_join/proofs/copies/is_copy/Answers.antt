use Rattle.std.proofs.Common.{◌-◌, get_or, arith}
use Rattle.std.proofs.lemmas.Bool.{OnTrue_from}
use Rattle.std.proofs.lemmas.Option.{slice_get-get_or, slice_get_within}
use Rattle.chr_weights.specs.WeighedPrograms.{rules_in}
use Rattle.chr_join.specs.working.Portions.{IsCopy}
use Rattle.chr_join.proofs.CopiedRules.{first_copied, second_among}
use Rattle.chr_join.proofs.Lists.{match_true}
use Rattle.chr_join.proofs.copies.is_copy.Goals as goal

pub returns-then-originals-first : goal.returns-then-originals-first
returns-then-originals-first c =
    let rules = rules_in c.args.weighed.now in
    let ks = c.args.originals.now in
    let o = c.args.overlap.now in
    let h = c.requires.overlap in
    let one = h.2.0 in
    let there = slice_get_within rules h.0 h.2.2.rule1 h.2.2.first in
    let number = c.requires.originals.number in
    OnTrue_from _ (IsCopy rules o) (λ _. first_copied rules ks o (get_or ks (o.first - 1) 0) c.requires.originals h
    (slice_get-get_or ks (o.first - 1) 0 (omega (arith, one, there, number))) c.if-originals-first.true)

pub returns-else-originals-first : goal.returns-else-originals-first
returns-else-originals-first c =
    let rules = rules_in c.args.weighed.now in
    let ks = c.args.originals.now in
    let o = c.args.overlap.now in
    let h = c.requires.overlap in
    OnTrue_from c.contains.result (IsCopy rules o) (λ e.
    (let at = match_true c.contains.result _ _ e c.contains.ensures.cases in
    second_among rules ks o at.0 c.requires.originals h at.1 at.2))
