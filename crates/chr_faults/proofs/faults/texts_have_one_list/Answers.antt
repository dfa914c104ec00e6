use Rattle.chr_faults.proofs.OneList.{some, one}
use Rattle.chr_faults.proofs.faults.texts_have_one_list.Goals as goal

pub returns-clause-some : goal.returns-clause-some
returns-clause-some c = some

pub returns-clause-one : goal.returns-clause-one
returns-clause-one c = one
