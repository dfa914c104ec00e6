-- Numbers from 0 that are no constants, found one after the other.
use Rattle.std.specs.Prelude.{ℕ, ℤ, pos, ◌+◌, ◌≤◌, ◌≤ℤ◌, ◌<ℤ◌, ◌⊎◌, List, length, take}
use Rattle.chr_types.specs.OrderTypes.{In, Rises}

-- us are the numbers from 0 and below b that are no constants, and the first `passed` constants are below b
pub record AreNumbersBelow (cs : List ℤ) (passed : ℕ) (us : List ℤ) (b : ℤ) : Type 0 where
  pub from : pos 0 ≤ℤ b
  pub few : b ≤ℤ pos (passed + length us)
  pub there : passed ≤ length cs
  pub before : (c : ℤ) → In c (take passed cs) → c <ℤ b
  pub rise : Rises us
  pub new : (z : ℤ) → In z us → (pos 0 ≤ℤ z) × (z <ℤ b) × (¬ In z cs)
  pub all : (x : ℤ) → pos 0 ≤ℤ x → x <ℤ b → In x us ⊎ In x cs
