-- The operation of spelt atoms has their number.
use Rattle.std.proofs.Common.{◌≡◌, Bool, true, false, List, length, sym, ap, ◌∙◌, arith}
use Rattle.std.specs.Prelude.{Option, Some, None, IsSome, IfSome, option_map}
use Rattle.chr_base.specs.declared.atom.Atom.{Atom}
use Rattle.chr_base.specs.ProgramTests.{Declaration}
use Rattle.chr_base.specs.Stores.{Store, store_of}
use Rattle.chr_base.proofs.Traversals.{length-each}
use Rattle.chr_base.proofs.Stores.{size_store_of}
use Rattle.chr_json.specs.NamedAtoms.{NamedAtom, IsOperationLength}
use Rattle.chr_json.specs.Deltas.{NamedOperation}
use Rattle.chr_ops.specs.Operations.{Operation, HasOperationSize}
use Rattle.chr_exchange.specs.Names.{named_atom, named_atoms, declared_operation}

-- operations of 1 to 64 spelt atoms have the size of an operation
spelt_size : (ds : List Declaration) (ws : List NamedAtom) (xs : List Atom) → Some xs ≡ named_atoms ds ws
    → IsOperationLength (length ws) → HasOperationSize (store_of xs)
spelt_size ds ws xs e h =
    let n = length-each (named_atom ds) ws xs (sym e) in
    let s = size_store_of xs in
    (omega (arith, n, s, h), omega (arith, n, s, h))

some_of : (got : Option Operation) (o : Operation) → IsSome got → IfSome got (λ p. p ≡ o) → got ≡ Some o
some_of None o there is = absurd (let f : ◌≡◌ {A = Bool} false true = there in cc)
some_of (Some p) o there is = ap Some is

-- what is made of the bag of the spelt atoms is the operation that is spelt
pub made_of : (ds : List Declaration) (o : NamedOperation) (xs : List Atom) (b : Store) (got : Option Operation)
    → Some xs ≡ named_atoms ds o.atoms → IsOperationLength (length o.atoms) → b ≡ store_of xs
    → (HasOperationSize b → IsSome got) → IfSome got (λ p. p ≡ (o.id, b)) → got ≡ declared_operation ds o
made_of ds o xs b got named len e there is =
    some_of got (o.id, b) (there (rw e (spelt_size ds o.atoms xs named len))) is
    ∙ ap (λ s. Some (o.id, s)) e ∙ ap (option_map (λ atoms. (o.id, store_of atoms))) named
