use Rattle.chr_faults.proofs.Firsts.{refused_faults}
use Rattle.chr_faults.proofs.fault_text.explain_text.Goals as goal

pub returns-clause-refused : goal.returns-clause-refused
returns-clause-refused c =
    refused_faults c.args.text.now c.in_ok-faults.faults c.in_ok-faults.ensures.first c.if-are_none.ensures.some
