use Rattle.chr_base.specs.Stores.{size}
use Rattle.chr_weights.specs.WeighedPrograms.{rules_in}
use Rattle.chr_diagnosis.proofs.SmallerCases.{of_some}
use Rattle.chr_diagnosis.proofs.smallest.smallest_in.Goals as goal

pub returns-in-Ok : goal.returns-in-Ok
returns-in-Ok c =
    of_some (rules_in c.args.weighed.now) c.args.overlap.now (size c.args.store.now) c.smallest_among.result c.requires
    c.smallest_among.ensures
