use Rattle.std.specs.Process.{exit_status}
use Rattle.chr_start.proofs.Ended.{ends_by}
use Rattle.chr_start.proofs.end_run.Goals as goal

pub returns : goal.returns
returns g c =
    let ran = c.run.ensures in
    record {
      outcome = c.run.result;
      ends = ends_by _ (exit_status c.exit_code.result) c.run.result c.exit_code.ensures ran.whole ran.device
          ran.memory;
      ok = ran.ok;
      err = ran.err;
      last = λ _. record { unread = ran.unread; unanswered = ran.unanswered };
    }
