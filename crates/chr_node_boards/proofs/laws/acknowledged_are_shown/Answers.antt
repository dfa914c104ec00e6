use Rattle.chr_base.specs.Programs.{declarations}
use Rattle.chr_node_records.specs.Texts.{operations_in}
use Rattle.chr_node_boards.proofs.laws.acknowledged_are_shown.Goals as goal

pub returns : goal.returns
returns c = λ p runs r file files store copies there left shows.
    let f = operations_in (declarations p) in
    let law = c.feeds_keep_what_was_told.ensures in
    record {
      operations = shows.operations;
      has_acknowledged = λ o answered.
          law.acknowledged f r file files shows.operations o left there shows.held answered;
      has_told = λ o held. law.no_other f runs files shows.operations o copies shows.held held;
      normal = shows.normal;
    }
