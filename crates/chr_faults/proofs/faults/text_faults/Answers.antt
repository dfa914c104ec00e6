use Rattle.chr_faults.proofs.Rising.{in_order}
use Rattle.chr_faults.proofs.faults.text_faults.Goals as goal

pub returns-clause-order : goal.returns-clause-order
returns-clause-order c = in_order c.args.text.now c.in_ok-bad.bad.items c.in_ok-bad.ensures
