-- Texts without faults.
use Rattle.std.specs.Prelude.{◌≡◌, []}
use Rattle.chr_faults.specs.declared.faults.TextFaults.{TextFaults}
use Rattle.chr_faults.specs.declared.faults.TextFaults.TheVariants.{TooLong, Clauses}

-- there are no bad clauses
abbrev pub AreNone : TextFaults → Type 0
AreNone TooLong = ⊥
AreNone (Clauses bad) = bad.items ≡ []
