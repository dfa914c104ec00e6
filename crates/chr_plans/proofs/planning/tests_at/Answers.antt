use Rattle.chr_plans.proofs.Distinct.{places_before}
use Rattle.chr_plans.proofs.planning.tests_at.Goals as goal

pub push_tests-requires-clause-before : goal.push_tests-requires-clause-before
push_tests-requires-clause-before c = places_before c.args.rule.now c.saturating_sub.result c.args.known.now c.requires
