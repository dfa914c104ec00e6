-- What lines tell are 64-bit values.
use Rattle.std.proofs.Common.{◌≡◌, ◌-◌, ◌<◌, ◌^◌, leb, ℤ, pos, negsuc, true, List, [], ◌∷◌, length, position, None}
use Rattle.std.proofs.Common.{refl, arith, FitsSigned, IfSome}
use Rattle.std.proofs.lemmas.Bool.{and_from, le-leb}
use Rattle.std.proofs.lemmas.Option.{IfSome_then}
use Rattle.std.specs.Int.{w64}
use Rattle.std.specs.List.{AllByRecursion, list_all}
use Rattle.std.specs.FinMap as finite
use Rattle.chr_base.specs.declared.atom.Atom.{Atom}
use Rattle.chr_base.specs.Stores.{Store, store_of}
use Rattle.chr_base.proofs.Stores.{count_empty}
use Rattle.chr_base.specs.ProgramTests.{Declaration, declares}
use Rattle.chr_ops.specs.declared.id.OpId.{OpId}
use Rattle.chr_ops.specs.Operations.{Operation, Operations, told_store}
use Rattle.chr_ops.proofs.Told.{told_store-insert, told_store-empty}
use Rattle.chr_ops.proofs.ToldValues.{HaveValues}
use Rattle.chr_base.specs.Values.{is_value, args_in, HasValues}
use Rattle.chr_base.proofs.Each.{each_of_list, each_plus}
use Rattle.chr_json.specs.NamedAtoms.{NamedAtom}
use Rattle.chr_json.specs.Printed.{ArgumentsFit}
use Rattle.chr_json.proofs.Ranges.{OperationFits, if_map, if_each, always}
use Rattle.chr_json.specs.Deltas.{NamedOperation}
use Rattle.chr_exchange.specs.Names.{named_atom, named_atoms, declared_operation, declared_operations}

value : (z : ℤ) → FitsSigned w64 z → is_value z ≡ true
value (pos n) h = let f : n < 2 ^ 63 = h.sfits in le-leb n (2 ^ 63 - 1) (omega (arith, f))
value (negsuc n) h = let f : n < 2 ^ 63 = h.sfits in and_from (leb n (2 ^ 63 - 1)) true
    (le-leb n (2 ^ 63 - 1) (omega (arith, f))) refl

values : (zs : List ℤ) → AllByRecursion (FitsSigned w64) zs → list_all is_value zs ≡ true
values [] h = refl
values (z ∷ zs) h = and_from (is_value z) (list_all is_value zs) (value z h.0) (values zs h.1)

-- the atom of a word keeps its arguments
atom_values : (ds : List Declaration) (w : NamedAtom) → ArgumentsFit w
    → IfSome (named_atom ds w) (λ a. args_in is_value a ≡ true)
atom_values ds w h =
    if_map (λ _. Unit {0}) (λ (a : Atom). args_in is_value a ≡ true)
    (λ i. record { symbol = record { 0 = i }; args = record { items = w.args } }) (λ _ _. values w.args h)
    (position (declares w.name (length w.args)) ds) (always (position (declares w.name (length w.args)) ds))

listed : (xs : List Atom) → AllByRecursion (λ a. args_in is_value a ≡ true) xs → list_all (args_in is_value) xs ≡ true
listed [] h = refl
listed (a ∷ xs) h = and_from (args_in is_value a) (list_all (args_in is_value) xs) h.0 (listed xs h.1)

-- the atoms of words are a store of values
pub atoms_values : (ds : List Declaration) (ws : List NamedAtom) → AllByRecursion ArgumentsFit ws
    → IfSome (named_atoms ds ws) (λ xs. HasValues (store_of xs))
atoms_values ds ws h =
    IfSome_then (named_atoms ds ws) (if_each ArgumentsFit (λ a. args_in is_value a ≡ true) (named_atom ds)
    (atom_values ds) ws h) (λ xs p. each_of_list (args_in is_value) xs (listed xs p))

operation_values : (ds : List Declaration) (o : NamedOperation) → OperationFits o → IfSome (declared_operation ds o)
    (λ p. HasValues p.1)
operation_values ds o h =
    if_map (λ xs. HasValues (store_of xs)) (λ (p : Operation). HasValues p.1) (λ xs. (o.id, store_of xs)) (λ xs v. v)
    (named_atoms ds o.atoms) (atoms_values ds o.atoms h)

-- the operations of words have stores of values
pub operations_values : (ds : List Declaration) (os : List NamedOperation) → AllByRecursion OperationFits os
    → IfSome (declared_operations ds os) HaveValues
operations_values ds os h = if_each OperationFits (λ (p : Operation). HasValues p.1) (declared_operation ds)
    (operation_values ds) os h

-- a set has values after an operation with values was told
pub told_values : (old : Operations) (k : OpId) (s : Store) → finite.get old k ≡ None → HasValues (told_store old)
    → HasValues s → HasValues (told_store (finite.insert old k s))
told_values old k s new h g = rw (told_store-insert old k s new) (each_plus (args_in is_value) (told_store old) s h g)

-- a set of no operations has values
pub nothing_told : HasValues (told_store finite.empty)
nothing_told = rw told_store-empty (λ q g. (let e = count_empty q in absurd (omega (arith, e, g))))
