use Rattle.std.proofs.Common.{refl}
use Rattle.std.specs.Process.{exit_status}
use Rattle.chr_report.specs.Asked.{wanted_by}
use Rattle.chr_report.specs.Wires.{reader_of, writer_of}
use Rattle.chr_start.proofs.Served.{err_served, ok_served}
use Rattle.chr_start.proofs.end_service.Goals as goal

pub returns : goal.returns
returns g c =
    let served = c.serve.ensures in
    let bytes = g.R.Read.remaining (reader_of c.args.streams.now) in
    let old = g.W.Write.contents (writer_of c.args.streams.now) in
    let new = g.W.Write.contents (writer_of c.serve.new.wire) in
    record {
      outcome = c.serve.result;
      ends = record {
        status_is = c.exit_code.ensures;
        whole = served.whole;
        device = served.device;
        memory = served.memory;
      };
      ok = ok_served bytes old new (wanted_by c.args.settings) c.serve.result served.ok;
      err = err_served bytes old new (wanted_by c.args.settings) c.serve.result served.err;
      last = λ other. absurd (other refl);
    }
