use Rattle.std.proofs.Common.{◌≡◌, ◌++◌, drop, map}
use Rattle.std.specs.Prelude.{string_bytes}
use Rattle.chr_base.specs.Programs.{declarations}
use Rattle.chr_read.specs.CanonicalTexts.{ended_clauses, rule_clause}
use Rattle.chr_read.proofs.writer.push_rules.Given as goal

abbrev pub invariant-loop-rule : goal.invariant-loop-rule
invariant-loop-rule l = string_bytes l.out ++ ended_clauses
    (map (rule_clause (declarations l.program)) (drop l.rule-index l.rules)) ≡ string_bytes l.fn.out
    ++ ended_clauses (map (rule_clause (declarations l.program)) l.rules)
