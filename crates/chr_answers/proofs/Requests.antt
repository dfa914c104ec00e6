-- What a line asks for, by the operations that it spells.
use Rattle.std.proofs.Common.{◌≡◌, ℕ, List, [], ◌∷◌, ◌++◌, All, Vec, Global, subst}
use Rattle.std.specs.List.{AllZip}
use Rattle.std.specs.Option.{option_to_list}
use Rattle.std.proofs.lemmas.List.Elements.{All-cons, All-head, All-nil, All-tail}
use Rattle.std.specs.Prelude.{Option, Some, None, IfSome, Ok, option_map}
use Rattle.std.proofs.lemmas.Option.{none-some}
use Rattle.chr_base.specs.declared.atom.Atom.{Atom}
use Rattle.chr_base.specs.declared.program.Program.{Program}
use Rattle.chr_base.specs.Programs.{declarations}
use Rattle.chr_base.specs.Stores.{store_of}
use Rattle.chr_ops.specs.Operations.{Operation, Operations}
use Rattle.chr_json.specs.Commands.{merge, tell}
use Rattle.chr_json.specs.Deltas.{NamedOperation}
use Rattle.chr_exchange.specs.Names.{named_atoms, declared_operation, declared_operations}
use Rattle.chr_answers.specs.Answers.{AnswersAtoms, AnswersOperations, AnswersRefusal}
use Rattle.chr_answers.specs.declared.reply.Refusal.TheVariants as refusal
use Rattle.chr_answers.specs.declared.request.Request.TheVariants as request
use Rattle.chr_answers.specs.Requests.{Asks}
use Rattle.chr_answers.proofs.Declared.{tell_known, merge_known, spelt_declared, all_spelt_declared}

-- an operation that is spelt with declared names
pub asks_tell : (p : Program) (r : ℕ) (o : NamedOperation) (op : Operation) → Some op
    ≡ declared_operation (declarations p) o
    → Asks p (Ok (tell r o.id.origin o.id.number o.atoms)) (request.Tell r op)
asks_tell p r o op known = record {
  fits = spelt_declared p o op known;
  answers = λ rules old text new h. tell_known (declarations p) old new r o op text known h;
}

-- one with another name
pub refuses_tell : (p : Program) (r : ℕ) (o : NamedOperation) → None ≡ declared_operation (declarations p) o
    → Asks p (Ok (tell r o.id.origin o.id.number o.atoms)) (request.Refused refusal.UnknownSymbol)
refuses_tell p r o unknown = record {
  fits = tt;
  answers = λ rules old text new h. by old text new h (named_atoms (declarations p) o.atoms) unknown;
}
  where
    by : (old : List Operations) (text : List ℕ) (new : List Operations)
        → AnswersRefusal refusal.UnknownSymbol old text new
        → (got : Option (List Atom)) → ◌≡◌ {A = Option Operation} None
        (option_map (λ atoms. (o.id, store_of atoms)) got) → AnswersAtoms old r o.id got text new
    by old text new h None e = h
    by old text new h (Some atoms) e = absurd (none-some _ e)

-- operations that are spelt with declared names
pub asks_merge : (p : Program) (r : ℕ) (os : List NamedOperation) (ops : Vec Operation Global) → Some ops.items
    ≡ declared_operations (declarations p) os
    → Asks p (Ok (merge r os)) (request.Merge r ops)
asks_merge p r os ops known = record {
  fits = all_spelt_declared p os ops.items known;
  answers = λ rules old text new h. merge_known (declarations p) old new r os ops.items text known h;
}

-- some of them with another name
pub refuses_merge : (p : Program) (r : ℕ) (os : List NamedOperation) → None ≡ declared_operations (declarations p) os
    → Asks p (Ok (merge r os)) (request.Refused refusal.UnknownSymbol)
refuses_merge p r os unknown = record {
  fits = tt;
  answers = λ rules old text new h. subst (λ o. AnswersOperations old r o text new) unknown h;
}

-- what holds of each second of two lists side by side
pub second_of_each : {A B : Type 0} (P : B → Type 0) (xs : List A) (ys : List B) → AllZip (λ x y. P y) xs ys → All P ys
second_of_each P [] [] h = All-nil P
second_of_each P [] (y ∷ ys) h = absurd h
second_of_each P (x ∷ xs) [] h = absurd h
second_of_each P (x ∷ xs) (y ∷ ys) h = All-cons P y ys h.0 (second_of_each P xs ys h.1)

-- what is taken from a list, and what stays
pub taken : {A : Type 0} (P : A → Type 0) (o : Option A) (all rest : List A) → all ≡ option_to_list o ++ rest
    → All P all → IfSome o P × All P rest
taken P None all rest split are = (tt, subst (All P) split are)
taken P (Some x) all rest split are =
    let both = subst (All P) split are in
    (All-head P x rest both, All-tail P x rest both)
