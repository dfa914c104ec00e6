-- What comes of a part, as a number.
use Rattle.std.specs.Prelude.{ℕ}
use Rattle.std.proofs.Common.{refl}
use Rattle.std.specs.Coded.{Coded, code_by, coded×, coded_ℕ}
use Rattle.chr_base.specs.working.Codes.{code, coded_atom}
use Rattle.chr_base.specs.Stores.{Store}
use Rattle.chr_weights.specs.declared.weighed.Weighed.{Weighed}
use Rattle.chr_weights.specs.contracts.weighed.Weighed.{the_row}
use Rattle.chr_join.specs.Parts.{Finished}

abbrev pub coded_finished : Coded Finished
coded_finished =
    code_by (Weighed × (ℕ × (Store × Store)))
    (coded× the_row.coded (coded× coded_ℕ (coded× (code coded_atom) (code coded_atom))))
    (λ d. (d.weighed, (d.number, (d.part, d.result))))
    (λ p. record { weighed = p.0; number = p.1.0; part = p.1.1.0; result = p.1.1.1 }) (λ _. refl)
