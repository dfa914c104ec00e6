-- Which atoms of a store are wanted.
use Rattle.std.specs.Prelude.{ℤ, Bool, true, false, ◌&&◌, List, [], ◌∷◌, Option, Some, None, nat_eq, filter}
use Rattle.std.specs.Ordering.{int_eq}
use Rattle.chr_base.specs.declared.atom.Atom.{Atom}
use Rattle.chr_base.specs.FinBag.{items}
use Rattle.chr_base.specs.Stores.{Store, store_of}
use Rattle.chr_queries.specs.declared.wanted.Wanted.{Wanted}

-- the value is the given one, if one is given
abbrev pub value_fits : Option ℤ → ℤ → Bool
value_fits (Some given) value = int_eq given value
value_fits None value = true

-- there are as many values as places, and each fits
abbrev pub values_fit : List (Option ℤ) → List ℤ → Bool
values_fit [] [] = true
values_fit (place ∷ places) (value ∷ values) = value_fits place value && values_fit places values
values_fit places values = false

-- the atom has the symbol, and its arguments fit
abbrev pub is_wanted : Wanted → Atom → Bool
is_wanted w a = nat_eq w.symbol.0 a.symbol.0 && values_fit w.places.items a.args.items

-- the atoms of a store that are wanted, each as often as it stands there
abbrev pub wanted_in : Wanted → Store → Store
wanted_in w s = store_of (filter (is_wanted w) (items s))
