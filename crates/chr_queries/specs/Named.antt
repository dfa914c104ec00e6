-- The atoms of a store that have a name.
use Rattle.std.specs.Prelude.{ℕ, Bool, List, filter}
use Rattle.std.specs.Str.{bytes_eq}
use Rattle.chr_base.specs.declared.atom.Atom.{Atom}
use Rattle.chr_base.specs.FinBag.{items}
use Rattle.chr_base.specs.ProgramTests.{Declaration}
use Rattle.chr_base.specs.Stores.{Store, store_of}
use Rattle.chr_base.specs.Texts.{name_of}

-- the atom's symbol has the name, with whatever number of arguments
abbrev pub is_named : List Declaration → List ℕ → Atom → Bool
is_named ds name a = bytes_eq (name_of ds a) name

-- the atoms of a store whose symbols have the name, each as often as it stands there
abbrev pub named_in : List Declaration → List ℕ → Store → Store
named_in ds name s = store_of (filter (is_named ds name) (items s))
