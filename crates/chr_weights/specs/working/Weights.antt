-- Any two proofs that a program lowers are equal.
use Rattle.std.specs.Prelude.{◌⊎◌}
use Rattle.std.proofs.Common.{arith, inl, inr}
use Rattle.std.proofs.Math.Bridge.{le_prop}
use Rattle.std.proofs.Math.Nat.{ℕ_set}
use Rattle.chr_base.specs.declared.program.Program.{Program}
use Rattle.chr_base.specs.declared.weight.Weight.{Weight}
use Rattle.chr_base.specs.Weights.{IsLighter}
use Rattle.chr_weights.specs.Weights.{ProgramLowers}

lighter_prop : (v w : Weight) → IsProp (IsLighter v w)
lighter_prop v w (inl x) (inl y) = λ k. inl (le_prop x y k)
lighter_prop v w (inl x) (inr y) = absurd (let e = y.0 in omega (arith, x, e))
lighter_prop v w (inr x) (inl y) = absurd (let e = x.0 in omega (arith, y, e))
lighter_prop v w (inr x) (inr y) = λ k. inr (ℕ_set _ _ x.0 y.0 k, le_prop x.1 y.1 k)

pub ProgramLowers-prop : (p : Program) → IsProp (ProgramLowers p)
ProgramLowers-prop p x y = λ k i r e v. lighter_prop _ _ (x i r e v) (y i r e v) k
