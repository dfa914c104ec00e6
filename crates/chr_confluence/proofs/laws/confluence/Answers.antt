use Rattle.chr_base.specs.Values.{is_value, args_in}
use Rattle.chr_confluence.specs.Cases.{side, case_store}
use Rattle.chr_confluence.proofs.Refuting.{not_confluent}
use Rattle.chr_confluence.proofs.PeaksJoin.{peaks_join}
use Rattle.chr_confluence.proofs.CaseSteps.{left_step, right_step}
use Rattle.chr_confluence.proofs.Confluent.{confluent}
use Rattle.chr_confluence.proofs.ValuesStay.{values_stay}
use Rattle.chr_confluence.proofs.laws.confluence.Goals as goal

pub returns-clause-stay : goal.returns-clause-stay
returns-clause-stay c = λ rules. values_stay rules

pub returns-clause-local : goal.returns-clause-local
returns-clause-local c = λ rules w lower peaks. confluent rules w lower peaks

pub returns-clause-peaks : goal.returns-clause-peaks
returns-clause-peaks c = λ rules cases. peaks_join (args_in is_value) rules cases

pub returns-clause-confluent : goal.returns-clause-confluent
returns-clause-confluent c = λ rules w lower cases. confluent rules w lower (peaks_join (args_in is_value) rules cases)

pub returns-clause-refuted : goal.returns-clause-refuted
returns-clause-refuted c = λ rules s t u a b values h g x y differ. not_confluent rules s t u a b values h g x y differ

pub returns-clause-failing : goal.returns-clause-failing
returns-clause-failing c = λ rules i j r1 r2 m v1 v2 a b at1 at2 case values x y differ.
    (let s = case_store r1 r2 m v1 v2 in
    not_confluent rules s (side r1 v1 s) (side r2 v2 s) a b values (i, r1, v1, at1, left_step r1 r2 m v1 v2 case)
    (j, r2, v2, at2, right_step r1 r2 m v1 v2 case) x y differ)
