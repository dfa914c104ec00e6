-- Values that hold lists, made of the lists.
use Rattle.std.specs.Prelude.{◌^◌, ◌<◌, List, length}
use Rattle.std.proofs.Common.{arith, refl, Vec, Global}
use denote.RawPtr.{null_ptr}

-- the vector of a list that is short enough
abbrev pub vec_of : {A : Type 0} (xs : List A) → length xs < 2 ^ 63 → Vec A Global
vec_of xs short = record {
  ptr = null_ptr;
  len = length xs;
  cap = length xs;
  alloc = record { memory = record { seal = tt } };
  items = xs;
  ok = (refl, omega arith);
  small = short;
}
