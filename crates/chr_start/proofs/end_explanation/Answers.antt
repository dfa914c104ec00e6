use Rattle.std.specs.Process.{exit_status}
use Rattle.chr_start.proofs.Ended.{ends_by}
use Rattle.chr_start.proofs.end_explanation.Goals as goal

pub returns : goal.returns
returns g c =
    let told = c.explain_input.ensures in
    record {
      outcome = c.explain_input.result;
      ends = ends_by _ (exit_status c.exit_code.result) c.explain_input.result c.exit_code.ensures told.whole
          told.device told.memory;
      ok = told.ok;
      last = record { unread = told.unread; unanswered = told.unanswered };
    }
