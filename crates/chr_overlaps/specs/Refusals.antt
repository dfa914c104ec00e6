-- What a refusal tells.
use Rattle.std.specs.Prelude.{ℕ, ⊤}
use Rattle.chr_overlaps.specs.declared.fault.CaseFault.{CaseFault}
use Rattle.chr_overlaps.specs.declared.fault.CaseFault.TheVariants.{TooManyTypes, Memory}

-- the fact of the number of classes, where there are too many order types; of memory nothing is told
abbrev pub IfTooManyTypes : CaseFault → (ℕ → Type 0) → Type 0
IfTooManyTypes (TooManyTypes n) P = P n
IfTooManyTypes Memory P = ⊤
