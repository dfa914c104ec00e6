-- Numbers of a text: arities, arguments, weights, and the numbers of faults.
use Rattle.std.specs.Prelude.{ℕ, ◌+◌, ◌-◌, ◌^◌, ℤ, pos, neg_ℤ, List, [], ◌∷◌, length, drop, Bool, true, false, ◌&&◌}
use Rattle.std.specs.Prelude.{◌||◌, ◌==◌, nat_le, nat_lt, if◌then◌else◌, Option, Some, None, is_none, option_and_then}
use Rattle.std.specs.List.{list_all, prefix_len}
use Rattle.std.specs.Str.Parse.{digits_value, starts_with_minus}
use Rattle.chr_base.specs.declared.limits.TheConstants.{MAX_ARITY}
use Rattle.chr_base.specs.declared.weight.Weight.{Weight}
use Rattle.chr_base.specs.Names.{is_digit}
use Rattle.chr_base.specs.Weights.{is_weight}
use Rattle.chr_read.specs.declared.fault.Fault.{Fault}
use Rattle.chr_read.specs.declared.fault.Fault.TheVariants as fault

abbrev pub number_of_fault : Fault → ℕ
number_of_fault fault.BadByte = 1
number_of_fault fault.Syntax = 3
number_of_fault fault.Propagation = 4
number_of_fault fault.Undeclared = 5
number_of_fault fault.DeclaredTwice = 6
number_of_fault fault.Limit = 7
number_of_fault fault.Unbound = 8
number_of_fault fault.NumberRange = 9
number_of_fault fault.WeightFault = 10
number_of_fault fault.Unended = 11

-- ---- arities

-- digits without leading zeros
abbrev pub without_zeros : List ℕ → List ℕ
without_zeros digits = drop (prefix_len (λ b. b == 48) digits) digits

-- the value of digits without leading zeros, where it is at most MAX_ARITY
abbrev pub small : List ℕ → Option ℕ
small [] = Some 0
small (b ∷ []) = if nat_le 49 b && nat_le b (48 + MAX_ARITY) then Some (b - 48) else None
small (b ∷ c ∷ bs) = None

-- the number of arguments that digits name, where it is at most MAX_ARITY
abbrev pub arity_of : List ℕ → Option ℕ
arity_of digits = small (without_zeros digits)

-- ---- values

-- one digit or more
abbrev pub is_numeral : List ℕ → Bool
is_numeral ds = nat_lt 0 (length ds) && list_all is_digit ds

-- what stands after a minus, or all where there is none
abbrev pub unsigned : List ℕ → List ℕ
unsigned w = if starts_with_minus w then drop 1 w else w

-- the value of n, negative or not, where 64 bits hold it
abbrev pub signed : Bool → ℕ → Option ℤ
signed true n = if nat_le n (2 ^ 63) then Some (neg_ℤ (pos n)) else None
signed false n = if nat_lt n (2 ^ 63) then Some (pos n) else None

-- the value of digits with an optional minus, where 64 bits hold it
abbrev pub number_of : List ℕ → Option ℤ
number_of w = if is_numeral (unsigned w) then signed (starts_with_minus w) (digits_value 10 (unsigned w)) else None

-- ---- weights

-- the value of the second number of a weight: 0 where it is not written
abbrev pub second_number_of : Option (List ℕ) → Option ℤ
second_number_of None = Some (pos 0)
second_number_of (Some w) = number_of w

-- one of the numbers of a weight is one that 64 bits do not hold
abbrev pub weight_outside : List ℕ → Option (List ℕ) → Bool
weight_outside first second = is_none (number_of first) || is_none (second_number_of second)

-- the weight itself, where it is one that a symbol may have
abbrev pub checked_weight : Weight → Option Weight
checked_weight w = if is_weight w then Some w else None

-- two values as a weight, where it is one that a symbol may have
abbrev pub as_weight : ℤ → ℤ → Option Weight
as_weight (pos first) (pos second) = checked_weight record { first = first; second = second }
as_weight _ _ = None

-- the weight that one number names or two, where it is one that a symbol may have
abbrev pub weight_named_by : List ℕ → Option (List ℕ) → Option Weight
weight_named_by first second =
    option_and_then (λ v. option_and_then (as_weight v) (second_number_of second)) (number_of first)
