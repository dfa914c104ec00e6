-- What is asked of a verdict and of the answers.
use Rattle.std.specs.Prelude.{ℕ, Bool, if◌then◌else◌}
use Rattle.chr_join.specs.declared.coverage.Coverage.{Coverage}
use Rattle.chr_join.specs.declared.coverage.Coverage.TheVariants.{Joint, Sorted}
use Rattle.chr_device.specs.declared.words.Settings.{Settings}
use Rattle.chr_report.specs.declared.wanted.Wanted.{Wanted}

-- sorted cases if they are asked for, or else joint ones
abbrev pub coverage_for : Bool → Coverage
coverage_for wide = if wide then Sorted else Joint

abbrev pub wanted_by : Settings → Wanted
wanted_by s = record { coverage = coverage_for s.wide; replicas = s.replicas }

-- n replicas of a program that is judged by these cases
abbrev pub replicas_by : Coverage → ℕ → Wanted
replicas_by coverage n = record { coverage = coverage; replicas = n }
