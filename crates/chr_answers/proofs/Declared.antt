-- Operations that are spelt with declared names have declared atoms.
use Rattle.std.proofs.Common.{◌≡◌, ℕ, true, List, [], ◌∷◌, length, All, refl, sym, ap, ◌∙◌, subst, arith, nat_eq}
use Rattle.std.proofs.Common.{get_or}
use Rattle.std.specs.Prelude.{Option, Some, None, IfSome, position, slice_get}
use Rattle.std.specs.List.{AllByRecursion, list_all}
use Rattle.std.specs.Option.{option_map}
use Rattle.std.proofs.lemmas.Bool.{and_from, and_parts}
use Rattle.std.proofs.lemmas.Bool.Decides.{nat_tests}
use Rattle.std.proofs.lemmas.Option.{none-some, slice_get-get_or}
use Rattle.std.proofs.lemmas.List.Quantifiers.{position-Some}
use Rattle.std.proofs.lemmas.List.Elements.{All-from_recursion}
use Rattle.chr_base.specs.declared.atom.Atom.{Atom}
use Rattle.chr_base.specs.declared.program.Program.{Program}
use Rattle.chr_base.specs.ProgramTests.{Declaration, declares, takes}
use Rattle.chr_base.specs.Programs.{declarations, declares_atom}
use Rattle.chr_base.specs.Stores.{store_of}
use Rattle.chr_base.proofs.Each.{each_of_list}
use Rattle.chr_ops.specs.Operations.{Operation, Operations}
use Rattle.chr_json.specs.NamedAtoms.{NamedAtom}
use Rattle.chr_json.specs.Deltas.{NamedOperation}
use Rattle.chr_json.proofs.Ranges.{if_map, if_each}
use Rattle.chr_exchange.specs.Names.{named_atom, named_atoms, declared_operation, declared_operations}
use Rattle.chr_replica.specs.Replicas.{IsDeclared}
use Rattle.chr_answers.specs.Answers.{AnswersAt, AnswersTell, AnswersMerge, AnswersAtoms, AnswersOperations}

eq_back : (a b : ℕ) → nat_eq a b ≡ true → nat_eq b a ≡ true
eq_back a b h = grind (arith, nat_tests)

-- what is declared under a name takes that many arguments
takes_them : (ds : List Declaration) (name : List ℕ) (n i : ℕ) → position (declares name n) ds ≡ Some i
    → takes (slice_get ds i) n ≡ true
takes_them [] name n i e = absurd (none-some i e)
takes_them (d ∷ ds) name n i e =
    let h = position-Some (declares name n) (d ∷ ds) i d e in
    ap (λ o. takes o n) (slice_get-get_or (d ∷ ds) i d h.0) ∙ eq_back n (get_or (d ∷ ds) i d).arity
    (and_parts _ _ h.1).1

-- a spelt atom
atom_declared : (ds : List Declaration) (w : NamedAtom) → IfSome (named_atom ds w) (λ a. declares_atom ds a ≡ true)
atom_declared ds w = by (position (declares w.name (length w.args)) ds) refl
  where
    by : (o : Option ℕ) → position (declares w.name (length w.args)) ds ≡ o
        → IfSome (option_map (λ i. record { symbol = record { 0 = i }; args = record { items = w.args } }) o)
        (λ (a : Atom). declares_atom ds a ≡ true)
    by None e = tt
    by (Some i) e = takes_them ds w.name (length w.args) i e

listed : (ds : List Declaration) (xs : List Atom) → AllByRecursion (λ a. declares_atom ds a ≡ true) xs
    → list_all (declares_atom ds) xs ≡ true
listed ds [] h = refl
listed ds (a ∷ xs) h = and_from (declares_atom ds a) (list_all (declares_atom ds) xs) h.0 (listed ds xs h.1)

everywhere : {A : Type 0} (xs : List A) → AllByRecursion (λ _. Unit {0}) xs
everywhere [] = tt
everywhere (x ∷ xs) = (tt, everywhere xs)

operation_declared : (p : Program) (o : NamedOperation) → IfSome (declared_operation (declarations p) o) (IsDeclared p)
operation_declared p o =
    if_map (λ xs. AllByRecursion (λ a. declares_atom (declarations p) a ≡ true) xs) (IsDeclared p)
    (λ atoms. (o.id, store_of atoms))
    (λ xs h. each_of_list (declares_atom (declarations p)) xs (listed (declarations p) xs h))
    (named_atoms (declarations p) o.atoms)
    (if_each (λ _. Unit {0}) (λ a. declares_atom (declarations p) a ≡ true) (named_atom (declarations p))
    (λ w _. atom_declared (declarations p) w) o.atoms (everywhere o.atoms))

some_has : {A : Type 0} (P : A → Type 0) (o : Option A) (x : A) → IfSome o P → Some x ≡ o → P x
some_has P o x h e = let k : IfSome (Some x) P = subst (λ y. IfSome y P) (sym e) h in k

-- a spelt operation
pub spelt_declared : (p : Program) (o : NamedOperation) (op : Operation) → Some op
    ≡ declared_operation (declarations p) o → IsDeclared p op
spelt_declared p o op e = some_has (IsDeclared p) _ op (operation_declared p o) e

-- spelt operations
pub all_spelt_declared : (p : Program) (os : List NamedOperation) (ops : List Operation) → Some ops
    ≡ declared_operations (declarations p) os → All (IsDeclared p) ops
all_spelt_declared p os ops e =
    All-from_recursion (IsDeclared p) ops
    (some_has (AllByRecursion (IsDeclared p)) _ ops (if_each (λ _. Unit {0}) (IsDeclared p)
    (declared_operation (declarations p)) (λ o _. operation_declared p o) os (everywhere os)) e)

-- ---- answers to spelt operations

pub tell_known : (ds : List Declaration) (old new : List Operations) (r : ℕ) (o : NamedOperation) (op : Operation)
    (text : List ℕ) → Some op ≡ declared_operation ds o
    → AnswersAt old r (AnswersTell op) text new → AnswersAtoms old r o.id (named_atoms ds o.atoms) text new
tell_known ds old new r o op text e h = by (named_atoms ds o.atoms) e
  where
    by : (got : Option (List Atom)) → Some op ≡ option_map (λ atoms. (o.id, store_of atoms)) got
        → AnswersAtoms old r o.id got text new
    by None e = absurd (none-some op (sym e))
    by (Some atoms) e = let same : op ≡ (o.id, store_of atoms) = cc in
        subst (λ q. AnswersAt old r (AnswersTell q) text new) same h

pub merge_known : (ds : List Declaration) (old new : List Operations) (r : ℕ) (os : List NamedOperation)
    (ops : List Operation) (text : List ℕ) → Some ops ≡ declared_operations ds os
    → AnswersAt old r (AnswersMerge ops) text new → AnswersOperations old r (declared_operations ds os) text new
merge_known ds old new r os ops text e h = subst (λ o. AnswersOperations old r o text new) e h
