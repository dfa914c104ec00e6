use Rattle.std.specs.Prelude.{◌≡◌}
use Rattle.chr_answers.specs.Services.{held, IsBetweenLines}
use Rattle.chr_report.proofs.between.rest_all.Given as goal

abbrev pub invariant-loop-replica : goal.invariant-loop-replica
invariant-loop-replica g l = record {
  ready : IsBetweenLines l.service;
  program : l.service.world.accepted ≡ l.fn.service.world.accepted;
  operations : held l.service ≡ held l.fn.service;
}
