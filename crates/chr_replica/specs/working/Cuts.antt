-- A list of atoms on its way into parts.
use Rattle.std.specs.Prelude.{◌≡◌, ℕ, ◌+◌, ◌-◌, ◌*◌, ◌≤◌, List, length, All}
use Rattle.chr_base.specs.declared.atom.Atom.{Atom}
use Rattle.chr_base.specs.FinBag.{◌⊕◌}
use Rattle.chr_base.specs.Stores.{Store, store_of, size, stores_sum}

-- the part has `least` atoms or one more
abbrev pub IsNear : ℕ → Store → Type 0
IsNear least part = (least ≤ size part) × (size part ≤ least + 1)

-- Of n parts k are cut off the atoms. The first `over` parts have one atom more than the least number.
pub record AreCut (least over n k : ℕ) (atoms rest : List Atom) (parts : List Store) : Type 0 where
  pub count : length parts ≡ k
  pub left : length rest ≡ (n - k) * least + (over - k)
  pub sum : stores_sum parts ⊕ store_of rest ≡ store_of atoms
  pub even : All (IsNear least) parts
