-- A text of clauses, each ended by a full stop and a line feed, is read clause by clause.
use Rattle.std.proofs.Common.{◌≡◌, ℕ, ◌+◌, List, [], ◌∷◌, ◌++◌, Bool, true, false, cond, ◌==◌, Some, None, Ok, Err}
use Rattle.std.proofs.Common.{option_and_then, refl, sym, ap, ◌∙◌, append_assoc, append-nil}
use Rattle.std.specs.Prelude.{codes}
use Rattle.chr_syntax.specs.Bytes.{is_layout, is_text, pieces, percent, without_comments}
use Rattle.chr_syntax.specs.Clauses.{Form}
use Rattle.chr_syntax.specs.working.Tokens.{tokens_of}
use Rattle.chr_syntax.specs.working.Forms.{form_in, clause_of}
use Rattle.chr_syntax.specs.Grammar.{spelled, IsForm}
use Rattle.chr_syntax.specs.Texts.{HasNo}
use Rattle.chr_syntax.specs.Lexemes.{AllAre}
use Rattle.chr_syntax.proofs.Cuts.{all_append}
use Rattle.chr_syntax.proofs.FormsRead.{forms_read}
use Rattle.chr_syntax.proofs.Lexed.{found_are}
use Rattle.chr_syntax.proofs.Printing.{layout_goes}
use Rattle.chr_syntax.proofs.Texts.{plain_stay, first_piece}
use Rattle.chr_read.specs.declared.fault.Fault.TheVariants as fault
use Rattle.chr_read.specs.CanonicalTexts.{ended_clauses}
use Rattle.chr_read.specs.Meanings.{Progress}
use Rattle.chr_read.specs.working.TextsRead.{fault_in, checked, formed, clause_read, rest_read, pieces_read}
use Rattle.chr_read.specs.Reading.{with_form}
use Rattle.chr_read.proofs.ClauseByClause.{good_clause}
use Rattle.chr_read.proofs.PlainBytes.{is_plain, tokens_plain, no_percent, no_stop, all_text}

-- each of the clauses has the tokens of its form
abbrev pub AreClauses : List (List ℕ) → List Form → Type 0
AreClauses [] [] = Unit {0}
AreClauses [] (f ∷ fs) = ⊥
AreClauses (c ∷ cs) [] = ⊥
AreClauses (c ∷ cs) (f ∷ fs) = (tokens_of c ≡ Some (spelled f)) × IsForm f × AreClauses cs fs

pub clauses_append : (cs : List (List ℕ)) (fs : List Form) (ds : List (List ℕ)) (gs : List Form) → AreClauses cs fs
    → AreClauses ds gs → AreClauses (cs ++ ds) (fs ++ gs)
clauses_append [] [] ds gs h g = g
clauses_append [] (f ∷ fs) ds gs h g = absurd h
clauses_append (c ∷ cs) [] ds gs h g = absurd h
clauses_append (c ∷ cs) (f ∷ fs) ds gs h g = (h.0, h.1, clauses_append cs fs ds gs h.2 g)

-- what the clauses of these forms make, one after another
abbrev pub after : Progress → List Form → Progress
after q [] = q
after q (f ∷ fs) = after (with_form q f) fs

-- none of the forms has a fault, after what those before it made
abbrev pub AreFaultless : Progress → List Form → Type 0
AreFaultless q [] = Unit {0}
AreFaultless q (f ∷ fs) = (fault_in q f ≡ None) × AreFaultless (with_form q f) fs

pub after_append : (q : Progress) (fs gs : List Form) → after q (fs ++ gs) ≡ after (after q fs) gs
after_append q [] gs = refl
after_append q (f ∷ fs) gs = after_append (with_form q f) fs gs

pub faultless_append : (q : Progress) (fs gs : List Form) → AreFaultless q fs → AreFaultless (after q fs) gs
    → AreFaultless q (fs ++ gs)
faultless_append q [] gs h g = g
faultless_append q (f ∷ fs) gs h g = (h.0, faultless_append (with_form q f) fs gs h.1 g)

plain_clause : (c : List ℕ) (f : Form) → tokens_of c ≡ Some (spelled f) → AllAre is_plain c
plain_clause c f h = tokens_plain (spelled f) c (found_are c (spelled f) h)

-- ---- no comments

ended_plain : (cs : List (List ℕ)) (fs : List Form) → AreClauses cs fs → HasNo percent (ended_clauses cs)
ended_plain [] [] h = tt
ended_plain [] (f ∷ fs) h = absurd h
ended_plain (c ∷ cs) [] h = absurd h
ended_plain (c ∷ cs) (f ∷ fs) h =
    let P : ℕ → Type 0 = λ b. (b == percent) ≡ false in
    all_append P c (codes ".\n" ++ ended_clauses cs) (no_percent c (plain_clause c f h.0))
    (refl, (refl, ended_plain cs fs h.2))

pub no_comments : (cs : List (List ℕ)) (fs : List Form) → AreClauses cs fs → without_comments (ended_clauses cs)
    ≡ ended_clauses cs
no_comments cs fs h = ap without_comments (sym (append-nil (ended_clauses cs))) ∙ plain_stay (ended_clauses cs) []
    (ended_plain cs fs h) ∙ append-nil (ended_clauses cs)

-- ---- clauses

clause_good : (q : Progress) (bytes : List ℕ) (f : Form) → is_text bytes ≡ true → tokens_of bytes ≡ Some (spelled f)
    → IsForm f → fault_in q f ≡ None → clause_read q bytes ≡ Ok (with_form q f)
unfolding clause_read
clause_good q bytes f text tokens form none =
    ap (λ t. cond t (formed q (clause_of bytes)) (Err fault.BadByte)) text
    ∙ ap (λ o. formed q (option_and_then form_in o)) tokens ∙ ap (formed q) (forms_read f form)
    ∙ ap (checked q f) none

-- what the last full stop left
abbrev pub lead : Bool → List ℕ
lead true = 10 ∷ []
lead false = []

lead_layout : (b : Bool) → AllAre is_layout (lead b)
lead_layout true = (refl, tt)
lead_layout false = tt

lead_plain : (b : Bool) → AllAre is_plain (lead b)
lead_plain true = (refl, tt)
lead_plain false = tt

at_end : (b : Bool) (k : ℕ) (q : Progress) → pieces_read k q (pieces (lead b ++ [])) ≡ Ok q
unfolding rest_read
at_end true k q = refl
at_end false k q = refl

pub ended_read : (b : Bool) (k : ℕ) (q : Progress) (cs : List (List ℕ)) (fs : List Form) → AreClauses cs fs
    → AreFaultless q fs → pieces_read k q (pieces (lead b ++ ended_clauses cs)) ≡ Ok (after q fs)
ended_read b k q [] [] h g = at_end b k q
ended_read b k q [] (f ∷ fs) h g = absurd h
ended_read b k q (c ∷ cs) [] h g = absurd h
ended_read b k q (c ∷ cs) (f ∷ fs) h g =
    let bytes = lead b ++ c in
    let P : ℕ → Type 0 = λ x. is_plain x ≡ true in
    let plain : AllAre is_plain bytes = all_append P (lead b) c (lead_plain b) (plain_clause c f h.0) in
    let good = clause_good q bytes f (all_text bytes plain) (layout_goes (lead b) c (lead_layout b) ∙ h.0) h.1 g.0 in
    ap (λ t. pieces_read k q (pieces t)) (sym (append_assoc (lead b) c (codes ".\n" ++ ended_clauses cs)))
    ∙ ap (pieces_read k q) (first_piece bytes (codes "\n" ++ ended_clauses cs) (no_stop bytes plain))
    ∙ good_clause k q (with_form q f) bytes (codes "\n" ++ ended_clauses cs) good
    ∙ ended_read true (k + 1) (with_form q f) cs fs h.2 g.1
