use Rattle.std.proofs.Common.{[], ◌∷◌, arith}
use Rattle.chr_run_tests.proofs.Bytes.{one_at}
use Rattle.chr_run_tests.proofs.tests.lengths.LengthsMachineVecU8.answer.Goals as goal

pub returns-clause-ok : goal.returns-clause-ok
returns-clause-ok c =
    let one = one_at c.args.at c.args.batch.now.items c.requires.some in
    record {
      part = one.0 ∷ [];
      are = one.1;
      text = c.in_ok-take.ensures.0;
      answers = tt;
      grows = c.in_ok-take.ensures.1;
      some = omega arith;
      within = omega (arith, c.requires.some);
    }
