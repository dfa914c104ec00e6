use Rattle.chr_records.proofs.Changes.{one_change}
use Rattle.chr_records.proofs.laws.changes_are_told.Goals as goal

pub returns : goal.returns
returns c = one_change
