-- Values, which are the numbers of 64 bits with a sign, and the stores of them.
use Rattle.std.specs.Prelude.{◌≡◌, ℤ, pos, neg_ℤ, ◌^◌, ◌-◌, ◌<◌, Bool, true, ◌&&◌, int_le}
use Rattle.std.specs.List.{list_all}
use Rattle.chr_base.specs.declared.atom.Atom.{Atom}
use Rattle.chr_base.specs.Stores.{Store, count}

-- the number is a value
abbrev pub is_value : ℤ → Bool
is_value x = int_le (neg_ℤ (pos (2 ^ 63))) x && int_le x (pos (2 ^ 63 - 1))

-- each argument of the atom is in the set d
abbrev pub args_in : (ℤ → Bool) → Atom → Bool
args_in d a = list_all d a.args.items

-- each atom of the store passes the test p
abbrev pub Each : (Atom → Bool) → Store → Type 0
Each p s = (q : Atom) → 0 < count s q → p q ≡ true

-- each argument in the store is a 64-bit value
abbrev pub HasValues : Store → Type 0
HasValues s = Each (args_in is_value) s
