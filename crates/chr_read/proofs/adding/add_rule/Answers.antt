use Rattle.std.proofs.Common.{◌≡◌, ◌<◌, List, length, map, false, nat_le, arith}
use Rattle.std.proofs.lemmas.Bool.Decides.{nat_tests}
use Rattle.std.proofs.lemmas.List.{length-map}
use Rattle.chr_base.specs.declared.limits.TheConstants.{MAX_RULES}
use Rattle.chr_base.specs.declared.rule.Rule.{Rule}
use Rattle.chr_base.specs.Sameness.{parts_of}
use Rattle.chr_base.specs.Programs.{declarations, rules_of}
use Rattle.chr_syntax.specs.Views.{rule_view}
use Rattle.chr_read.specs.working.Views.{progress_of}
use Rattle.chr_read.proofs.FaultLess.{rule_faultless}
use Rattle.chr_read.proofs.Resolved.{resolved_fits}
use Rattle.chr_read.proofs.adding.add_rule.Goals as goal

pub push_rule-requires-clause-declared : goal.push_rule-requires-clause-declared
push_rule-requires-clause-declared c =
    let ds = declarations c.args.reader.now.program in
    let r = rule_view c.args.raw.now in
    resolved_fits ds r c.in_ok-rule.rule c.in_ok-rule.ensures
    (rule_faultless (progress_of c.args.reader.now) r c.requires.none).0

pub push_rule-requires-clause-room : goal.push_rule-requires-clause-room
push_rule-requires-clause-room c =
    let rs = rules_of c.args.reader.now.program in
    let few = (rule_faultless (progress_of c.args.reader.now) (rule_view c.args.raw.now) c.requires.none).1 in
    room rs few
  where
    room : (rs : List Rule) → nat_le MAX_RULES (length (map parts_of rs)) ≡ false → length rs < MAX_RULES
    room rs h = let l = length-map rs parts_of in grind (arith, nat_tests)

pub resolved-requires-clause-over : goal.resolved-requires-clause-over
resolved-requires-clause-over c = (rule_faultless (progress_of c.args.reader.now)
    (rule_view c.args.raw.now) c.requires.none).2

pub resolved-requires-clause-unbound : goal.resolved-requires-clause-unbound
resolved-requires-clause-unbound c = (rule_faultless (progress_of c.args.reader.now)
    (rule_view c.args.raw.now) c.requires.none).3
