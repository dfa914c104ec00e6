use Rattle.std.proofs.Common.{[], ◌∷◌, refl, rules, arith}
use Rattle.chr_run_tests.proofs.Bytes.{one_at}
use Rattle.chr_run_tests.proofs.tests.dots.DotsMachineVecU8.answer.Goals as goal

pub returns-clause-ok : goal.returns-clause-ok
returns-clause-ok c =
    let one = one_at c.args.at c.args._batch.now.items c.requires.some in
    record {
      part = one.0 ∷ [];
      are = one.1;
      text = 46 ∷ [];
      answers = refl;
      grows = search rules;
      some = omega arith;
      within = omega (arith, c.requires.some);
    }
