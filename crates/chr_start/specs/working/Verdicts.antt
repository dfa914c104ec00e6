-- The status of a verdict.
use Rattle.chr_diagnosis.specs.declared.diagnosis.Verdict.{Verdict}
use Rattle.chr_diagnosis.specs.declared.diagnosis.Verdict.TheVariants as verdict
use Rattle.chr_report.specs.declared.running.Status.{Status}
use Rattle.chr_report.specs.declared.running.Status.TheVariants.{Accepted, Refused}

abbrev pub as_status : Verdict → Status
as_status verdict.Accepted = Accepted
as_status verdict.Refused = Refused
