use Rattle.std.proofs.Common.{◌≡◌, ◌-◌, ◌<◌, Some, List, length, refl, ap, subst, ◌∙◌, arith}
use Rattle.std.specs.Prelude.{slice_get}
use Rattle.std.proofs.lemmas.Option.{slice_get_read}
use Rattle.chr_base.specs.declared.rule.Rule.{Rule}
use Rattle.chr_base.specs.Programs.{rules_of}
use Rattle.chr_weights.specs.WeighedPrograms.{program_of}
use Rattle.chr_overlaps.proofs.cases.rule_of.Goals as goal

pub returns : goal.returns
returns c =
    let rules = c.rules.result.now in
    let e : rules ≡ rules_of (program_of c.args.weighed.now) = c.rules.ensures ∙ ap rules_of c.program.ensures in
    let l : c.args.number - 1 < length rules = (let n = ap length e in let s = c.requires.some in let w =
    c.requires.within in omega (arith, n, s, w)) in
    subst (λ (rs : List Rule). slice_get rs (c.args.number - 1) ≡ Some c.index-rules-number.result) e
    (slice_get_read rules (length rules) (c.args.number - 1) c.index-rules-number.result refl l c.index-rules-number.is)
