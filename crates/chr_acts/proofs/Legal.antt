-- A legal journal, longer by an entry.
use Rattle.std.proofs.Common.{◌≡◌, ◌+◌, ℕ, List, [], ◌∷◌, ◌++◌, refl, sym, ap, ◌∙◌, subst, append_assoc}
use Rattle.std.specs.Prelude.{Result, Ok, Err, IfOk, OnErr}
use Rattle.std.proofs.lemmas.List.{append-nil}
use Rattle.chr_join.specs.AcceptedPrograms.{program_in}
use Rattle.chr_replica.specs.Boards.{Held, program_on}
use Rattle.chr_base.specs.declared.program.Program.{Program}
use Rattle.chr_replica.specs.Replicas.{Replica, first}
use Rattle.chr_acts.specs.declared.act.Act.{Act}
use Rattle.chr_acts.specs.declared.entry.Entry.{Entry}
use Rattle.chr_acts.specs.Books.{Enters}
use Rattle.chr_acts.specs.Events.{Does}
use Rattle.chr_acts.specs.Journals.{count_of, Leads, IsLegal}

leads_on : (p : Program) (before : List Entry) (s : Replica) (es : List Entry) (u : Replica) (e : Entry) (t : Replica)
    → Leads p before s es u → e.number ≡ count_of e.seat (before ++ es) + 1 → Does p u e.act e.reply t
    → Leads p before s (es ++ e ∷ []) t
leads_on p before s [] u e t is number does = (
  t,
  number ∙ ap (λ l. count_of e.seat l + 1) (append-nil before),
  subst (λ r. Does p r e.act e.reply t) is does,
  refl,
)
leads_on p before s (x ∷ xs) u e t h number does = (
  h.0,
  h.1,
  h.2,
  leads_on p (before ++ x ∷ []) h.0 xs u e t h.3
      (number ∙ ap (λ l. count_of e.seat l + 1) (sym (append_assoc before (x ∷ []) xs))) does,
)

-- a legal journal stays so with one more event, under its seat's next number
pub legal_on : (p : Program) (es : List Entry) (s : Replica) (e : Entry) (t : Replica) → IsLegal p es s → e.number
    ≡ count_of e.seat es + 1 → Does p s e.act e.reply t → IsLegal p (es ++ e ∷ []) t
legal_on p es s e t legal number does = leads_on p [] first es s e t legal number does

-- a legal journal stays so where a call is entered
pub legal_after : (p : Program) (es fs : List Entry) (s t : Replica) (chair : ℕ) (asked : Act)
    → Enters p es s chair asked fs t → IsLegal p es s → IsLegal p fs t
legal_after p es fs s t chair asked h legal =
    subst (λ l. IsLegal p l t) (sym h.after)
    (legal_on p es s h.entry t legal (subst (λ k. h.entry.number ≡ count_of k es + 1) (sym h.seat) h.number)
    (subst (λ a. Does p s a h.entry.reply t) (sym h.act) h.does))

-- a legal journal stays so where a call is entered whose entry is known
pub legal_after_entry : (p : Program) (es fs : List Entry) (s t : Replica) (chair : ℕ) (asked : Act) (e : Entry)
    → fs ≡ es ++ e ∷ [] → (e.seat ≡ chair) × (e.number ≡ count_of chair es + 1) × (e.act ≡ asked)
    → Does p s asked e.reply t → IsLegal p es s → IsLegal p fs t
legal_after_entry p es fs s t chair asked e after is does legal =
    legal_after p es fs s t chair asked record {
      entry = e;
      seat = is.0;
      number = is.1;
      act = is.2;
      does = does;
      after =
          after;
    } legal

-- a legal journal stays so where a call is entered, or nothing has come of it
pub legal_either : {E : Type 0} (b c : Held) (es fs : List Entry) (chair : ℕ) (asked : Act) (r : Result Entry E)
    → c.accepted ≡ b.accepted → IfOk r (λ e. fs ≡ es ++ e ∷ [])
    → IfOk r (λ e. (e.seat ≡ chair) × (e.number ≡ count_of chair es + 1) × (e.act ≡ asked))
    → IfOk r (λ e. Does (program_on b) b.replica asked e.reply c.replica) → OnErr r (fs ≡ es) → OnErr r (c ≡ b)
    → IsLegal (program_on b) es b.replica → IsLegal (program_on c) fs c.replica
legal_either b c es fs chair asked (Ok e) program entered is does same board legal =
    subst (λ a. IsLegal (program_in a) fs c.replica) (sym program)
    (legal_after_entry (program_on b) es fs b.replica c.replica chair asked e entered is does legal)
legal_either b c es fs chair asked (Err e) program entered is does same board legal =
    subst (λ x. IsLegal (program_on x) fs x.replica) (sym board)
    (subst (λ l. IsLegal (program_on b) l b.replica) (sym same) legal)
