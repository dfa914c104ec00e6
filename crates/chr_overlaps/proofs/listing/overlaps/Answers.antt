use Rattle.std.proofs.Common.{◌≡◌, ◌-◌, length, ap, ◌∙◌, arith}
use Rattle.std.proofs.lemmas.Result.{IfOk-weaker}
use Rattle.chr_base.specs.Programs.{rules_of}
use Rattle.chr_weights.specs.WeighedPrograms.{program_of}
use Rattle.chr_overlaps.proofs.Between.{of_all}
use Rattle.chr_overlaps.proofs.Few.{few_rules}
use Rattle.chr_overlaps.proofs.listing.overlaps.Goals as goal

same_number : (c : goal.After-overlaps_of) → length c.rules-rules.result.now
    ≡ length (rules_of (program_of c.args.weighed.now))
same_number c = ap length (c.rules-rules.ensures ∙ ap rules_of c.program.ensures)

pub returns-clause-overlaps : goal.returns-clause-overlaps
returns-clause-overlaps c =
    let rules = rules_of (program_of c.args.weighed.now) in
    let same = same_number c in
    IfOk-weaker c.overlaps_of.result _ _ (λ os are. of_all rules (length c.rules-rules.result.now) os.items
    (omega (arith, same)) are) c.overlaps_of.ensures.overlaps

pub returns-clause-few : goal.returns-clause-few
returns-clause-few c =
    let same = same_number c in
    let most = few_rules (program_of c.args.weighed.now) in
    IfOk-weaker c.overlaps_of.result _ _ (λ os few. omega (arith, same, most, few)) c.overlaps_of.ensures.few
