-- What is served is the output of a run.
use Rattle.std.proofs.Common.{ℕ, List, Option, Result, Ok, Err, inl, inr}
use Rattle.std.specs.Prelude.{IfOk, OnErr}
use Rattle.chr_device.specs.declared.fault.RunFault.{RunFault}
use Rattle.chr_device.specs.declared.words.Verb.TheVariants.{Run, Serve}
use Rattle.chr_report.specs.declared.running.Status.{Status}
use Rattle.chr_report.specs.declared.wanted.Wanted.{Wanted}
use Rattle.chr_report.specs.Written.{Writes, WritesBeginning, WritesOutput}

as_served : (bytes : Option (List ℕ)) (wanted : Wanted) (status : Status) (P : List ℕ → Type 0)
    → Writes bytes Run wanted status P → Writes bytes Serve wanted status P
as_served bytes wanted status P w = record {
  input = w.input;
  is_read = w.is_read;
  out = w.out;
  is_output = w.is_output;
  is_written = w.is_written;
}

output_served : (bytes old new : Option (List ℕ)) (wanted : Wanted) (status : Status)
    → WritesOutput bytes old new Run wanted status → WritesOutput bytes old new Serve wanted status
output_served bytes old new wanted status w = as_served bytes wanted status _ w

beginning_served : (bytes old new : Option (List ℕ)) (wanted : Wanted) → WritesBeginning bytes old new Run wanted
    → WritesBeginning bytes old new Serve wanted
beginning_served bytes old new wanted (inl none) = inl none
beginning_served bytes old new wanted (inr w) = inr (w.0, as_served bytes wanted w.0 _ w.1)

pub ok_served : (bytes old new : Option (List ℕ)) (wanted : Wanted) (r : Result Status RunFault)
    → IfOk r (WritesOutput bytes old new Run wanted) → IfOk r (WritesOutput bytes old new Serve wanted)
ok_served bytes old new wanted (Ok status) w = output_served bytes old new wanted status w
ok_served bytes old new wanted (Err e) w = tt

pub err_served : (bytes old new : Option (List ℕ)) (wanted : Wanted) (r : Result Status RunFault)
    → OnErr r (WritesBeginning bytes old new Run wanted) → OnErr r (WritesBeginning bytes old new Serve wanted)
err_served bytes old new wanted (Ok status) w = tt
err_served bytes old new wanted (Err e) w = beginning_served bytes old new wanted w
