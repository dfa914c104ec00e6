-- Texts of records, and what they are read as.
use Rattle.std.specs.Prelude.{◌≡◌, ◌≢◌, ℕ, List, [], ◌∷◌, ◌++◌, length, Bool, true, false, cond, Result}
use Rattle.std.proofs.Common.{refl, sym, ap, subst, ◌∙◌, arith}
use Rattle.std.specs.Bool.{Decides}
use Rattle.std.specs.Str.{bytes_eq}
use Rattle.std.specs.List.{AllByRecursion, IsDistinct}
use Rattle.std.proofs.lemmas.Slice.Eq.{bytes_eq-Decides}
use Rattle.std.specs.FinMap as map
use Rattle.std.specs.FinMap.Entries.{put}
use Rattle.chr_base.specs.declared.program.Program.{Program}
use Rattle.chr_base.specs.ProgramTests.{Declaration}
use Rattle.chr_base.specs.Programs.{declarations}
use Rattle.chr_base.specs.Stores.{Store}
use Rattle.chr_ops.specs.Ids.{id_cmp}
use Rattle.chr_ops.proofs.IdOrder.{id_total}
use Rattle.chr_ops.specs.Operations.{Operation, Operations, operations_of}
use Rattle.chr_records.specs.Records.{record_bytes, records_of, IsText, IsWhole}
use Rattle.chr_records.specs.Checksums.{text_of}
use Rattle.chr_records.proofs.Scans.{whole_more}
use Rattle.chr_records.proofs.Sealed.{sealed}
use Rattle.chr_exchange.specs.declared.fault.MessageFault.{MessageFault}
use Rattle.chr_exchange.specs.declared.fault.MessageFault.TheVariants as fault
use Rattle.chr_exchange.specs.Meant.{delta_in, Fails}
use Rattle.chr_exchange.specs.ReadBack.{IsDeclaredOperation, DeltaTextsAreRead}
use Rattle.chr_exchange.specs.Texts.{delta_text, HaveDifferentIds}
use Rattle.chr_node_records.specs.Texts.{or_none, behind_checksum, operations_in, operation_message, operation_text}

no : (b : Bool) (P : Type 0) → Decides b P → ¬ P → b ≡ false
no true P decides not = absurd (not (decides.0 refl))
no false P decides not = refl

-- behind the checksum stands the message
behind : (message : List ℕ) → behind_checksum (text_of message) ≡ message
behind message = refl

-- a text is its message's, if it is any's
sealed_text : (text message : List ℕ) → text ≡ text_of message → text ≡ text_of (behind_checksum text)
sealed_text text message is =
    is ∙ ap text_of (sym (behind message)) ∙ ap (λ t. text_of (behind_checksum t)) (sym is)

pub read : (ds : List Declaration) (text message : List ℕ) → text ≡ text_of message
    → operations_in ds text ≡ or_none (delta_in ds message)
unfolding operations_in
read ds text message is =
    let sealed = text_of (behind_checksum text) in
    let same : bytes_eq text sealed ≡ true =
    (bytes_eq-Decides text sealed).1 (sealed_text text message is) in
    ap (λ b. cond b (or_none (delta_in ds (behind_checksum text))) []) same
    ∙ ap (λ t. or_none (delta_in ds t)) (ap behind_checksum is ∙ behind message)

pub no_message : (ds : List Declaration) (text : List ℕ) → ((m : List ℕ) → text ≢ text_of m)
    → operations_in ds text ≡ []
unfolding operations_in
no_message ds text other =
    let sealed = text_of (behind_checksum text) in
    ap (λ b. cond b (or_none (delta_in ds (behind_checksum text))) [])
    (no (bytes_eq text sealed) (text ≡ sealed) (bytes_eq-Decides text sealed) (other (behind_checksum text)))

-- a refusal for another cause than memory is the message's own
pub refused : (e : MessageFault) (meant : Result (List Operation) MessageFault) → Fails e meant → e ≢ fault.Memory
    → or_none meant ≡ []
refused fault.BadJson meant fails other = ap or_none fails
refused fault.Shape meant fails other = ap or_none fails
refused fault.UnknownSymbol meant fails other = ap or_none fails
refused fault.Memory meant fails other = absurd (other refl)

no_entries : (es : List Operation) → length es ≡ 0 → es ≡ []
no_entries [] is = refl
no_entries (e ∷ es) is = absurd (omega arith)

one_entry : (o : Operation) → map.entries (operations_of (o ∷ [])) ≡ o ∷ []
one_entry o =
    let empty : Operations = map.empty in
    let none = no_entries (map.entries empty) (sym (map.len-entries empty) ∙ map.len-empty id_cmp Store) in
    map.entries-insert id_total empty o.0 o.1 ∙ ap (put id_cmp o.0 o.1) none

pub texts_are_read : DeltaTextsAreRead → (p : Program) (o : Operation) → IsDeclaredOperation (declarations p) o
    → operations_in (declarations p) (operation_text (declarations p) o) ≡ o ∷ []
unfolding operation_text
texts_are_read deltas p o declared =
    let ds = declarations p in
    let set = operations_of (o ∷ []) in
    let all : AllByRecursion (IsDeclaredOperation ds) (map.entries set) =
    subst (λ (es : List Operation). AllByRecursion (IsDeclaredOperation ds) es) (sym (one_entry o)) (declared, tt) in
    read ds (text_of (operation_message ds o)) (operation_message ds o) refl ∙ ap or_none (deltas p set all)
    ∙ one_entry o

-- what the code has pushed is the record of the operation
pub pushed : (ds : List Declaration) (o : Operation) (given : List Operation) (message none piece bytes new : List ℕ)
    → given ≡ o ∷ [] → message ≡ delta_text ds (operations_of given) → none ≡ []
    → piece ≡ none ++ record_bytes (text_of message) → new ≡ bytes ++ piece
    → new ≡ bytes ++ record_bytes (operation_text ds o)
unfolding operation_text
pushed ds o given message none piece bytes new is written empty one more =
    let same : message ≡ operation_message ds o = written ∙ ap (λ os. delta_text ds (operations_of os)) is in
    more ∙ ap (λ (l : List ℕ). bytes ++ l) (one ∙ ap (λ (l : List ℕ). l ++ record_bytes (text_of message)) empty
    ∙ ap (λ (l : List ℕ). record_bytes (text_of l)) same)

pub pushed_whole : (ds : List Declaration) (o : Operation) (given : List Operation) (message bytes new : List ℕ)
    → given ≡ o ∷ [] → message ≡ delta_text ds (operations_of given) → IsText message
    → new ≡ bytes ++ record_bytes (operation_text ds o) → IsWhole bytes
    → IsWhole new × (records_of new ≡ records_of bytes ++ operation_text ds o ∷ [])
unfolding operation_text
pushed_whole ds o given message bytes new is written text more whole =
    let same : message ≡ operation_message ds o = written ∙ ap (λ os. delta_text ds (operations_of os)) is in
    whole_more bytes (text_of (operation_message ds o)) new more whole
    (sealed (operation_message ds o) (subst IsText same text))

-- one operation has an id of its own
pub one_differs : (o : Operation) (given : List Operation) → given ≡ o ∷ [] → HaveDifferentIds given
unfolding IsDistinct
one_differs o given is =
    let one : HaveDifferentIds (o ∷ []) = (tt, tt) in
    subst (λ (os : List Operation). HaveDifferentIds os) (sym is) one
