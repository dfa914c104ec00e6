-- Lists of placed terms, and the terms of notes, one more at a time.
use Rattle.std.specs.Prelude.{◌≡◌, ℕ, ◌+◌, ◌<◌, ℤ, Bool, true, false, cond, nat_eq, List, [], ◌∷◌, ◌++◌, length, take}
use Rattle.std.specs.Prelude.{get_or}
use Rattle.std.proofs.Common.{refl, sym, ap, subst, ◌∙◌}
use Rattle.std.proofs.lemmas.Bool.{eqb-true, eq-eqb}
use Rattle.std.proofs.lemmas.List.{take_more, append-nil, append_assoc}
use Rattle.std.proofs.lemmas.List.Concat.{flat_map-append}
use Rattle.chr_base.specs.declared.term.Term.{Term}
use Rattle.chr_base.specs.declared.term.Term.TheVariants.{Constant}
use Rattle.chr_base.specs.declared.term.Pattern.{Pattern}
use Rattle.chr_confluence.specs.Sorts.{terms_from, sorted_terms}
use Rattle.chr_confluence.proofs.SortPlaces.{sorted-append}
use Rattle.chr_overlaps.specs.working.Gathering.{AreConstantsIn, Gathers}
use Rattle.chr_sorting.specs.declared.notes.Note.{Note}
use Rattle.chr_sorting.specs.declared.notes.Note.TheVariants.{Joined, Stands, Compared}
use Rattle.chr_sorting.specs.FinestSorts.{position_of}
use Rattle.chr_sorting.specs.working.Notes.{numbering, note_terms, terms_at}

pub pattern_placed : (ps : List Pattern) (i : ℕ) (q : Pattern) (begun now later : List (ℕ × Term)) → i < length ps
    → q ≡ get_or ps i q → now ≡ begun ++ sorted_terms numbering (take i ps) → later ≡ now
    ++ terms_from (position_of q.symbol.0) 0 q.args.items
    → later ≡ begun ++ sorted_terms numbering (take (i + 1) ps)
pattern_placed ps i q begun now later l e a b =
    let more : sorted_terms numbering (take (i + 1) ps) ≡ sorted_terms numbering (take i ps)
    ++ terms_from (position_of q.symbol.0) 0 q.args.items =
    ap (sorted_terms numbering) (take_more ps i q l ∙ ap (λ x. take i ps ++ x ∷ []) (sym e))
    ∙ sorted-append numbering (take i ps) (q ∷ []) ∙ ap (λ ts. sorted_terms numbering (take i ps) ++ ts)
    (append-nil (terms_from (position_of q.symbol.0) 0 q.args.items)) in
    b ∙ ap (λ ts. ts ++ terms_from (position_of q.symbol.0) 0 q.args.items) a
    ∙ append_assoc begun (sorted_terms numbering (take i ps)) (terms_from (position_of q.symbol.0) 0 q.args.items)
    ∙ ap (λ ts. begun ++ ts) (sym more)

-- ---- the constants of a sort

module _ (f : ℕ → ℕ) (n : ℕ) where
  next_terms : (notes : List Note) (i : ℕ) (d e : Note) → i < length notes → get_or notes i d ≡ e
      → terms_at f n (take (i + 1) notes) ≡ terms_at f n (take i notes) ++ note_terms f n e
  next_terms notes i d e l q =
      ap (terms_at f n) (take_more notes i d l ∙ ap (λ x. take i notes ++ x ∷ []) q) ∙ flat_map-append (note_terms f n)
      (take i notes) (e ∷ []) ∙ ap (λ ts. terms_at f n (take i notes) ++ ts) (append-nil (note_terms f n e))

  terms_here : (p : ℕ) (c : ℤ) → f p ≡ n → note_terms f n (Stands p c) ≡ Constant c ∷ []
  terms_here p c e = ap (λ b. cond b (Constant c ∷ []) []) (eq-eqb (f p) n e)

  terms_elsewhere : (p : ℕ) (c : ℤ) → ¬ (f p ≡ n) → note_terms f n (Stands p c) ≡ []
  terms_elsewhere p c other = by (nat_eq (f p) n) refl
    where
      by : (b : Bool) → nat_eq (f p) n ≡ b → cond b (Constant c ∷ []) [] ≡ []
      by true e = absurd (other (eqb-true (f p) n e))
      by false e = refl

  pub constant_gathered : (notes : List Note) (i : ℕ) (d : Note) (p : ℕ) (c : ℤ) (cs ds : List ℤ) → i < length notes
      → get_or notes i d ≡ Stands p c → f p ≡ n → Gathers (Constant c ∷ []) cs ds
      → AreConstantsIn (terms_at f n (take i notes)) cs
      → AreConstantsIn (terms_at f n (take (i + 1) notes)) ds
  constant_gathered notes i d p c cs ds l q e g is =
      subst (λ ts. AreConstantsIn ts ds) (ap (λ ts. terms_at f n (take i notes) ++ ts) (sym (terms_here p c e))
      ∙ sym (next_terms notes i d (Stands p c) l q)) (g (terms_at f n (take i notes)) is)

  passed : (notes : List Note) (i : ℕ) (d e : Note) (cs : List ℤ) → i < length notes → get_or notes i d ≡ e
      → note_terms f n e ≡ [] → AreConstantsIn (terms_at f n (take i notes)) cs
      → AreConstantsIn (terms_at f n (take (i + 1) notes)) cs
  passed notes i d e cs l q none is =
      subst (λ ts. AreConstantsIn ts cs) (sym (next_terms notes i d e l q
      ∙ ap (λ ts. terms_at f n (take i notes) ++ ts) none ∙ append-nil (terms_at f n (take i notes)))) is

  pub elsewhere_passed : (notes : List Note) (i : ℕ) (d : Note) (p : ℕ) (c : ℤ) (cs : List ℤ) → i < length notes
      → get_or notes i d ≡ Stands p c → ¬ (f p ≡ n) → AreConstantsIn (terms_at f n (take i notes)) cs
      → AreConstantsIn (terms_at f n (take (i + 1) notes)) cs
  elsewhere_passed notes i d p c cs l q other is = passed notes i d (Stands p c) cs l q (terms_elsewhere p c other) is

  pub other_passed : (notes : List Note) (i : ℕ) (d : Note) (cs : List ℤ) → i < length notes
      → ((p : ℕ) (c : ℤ) → get_or notes i d ≡ Stands p c → ⊥) → AreConstantsIn (terms_at f n (take i notes)) cs
      → AreConstantsIn (terms_at f n (take (i + 1) notes)) cs
  other_passed notes i d cs l other is = by (get_or notes i d) refl
    where
      by : (e : Note) → get_or notes i d ≡ e → AreConstantsIn (terms_at f n (take (i + 1) notes)) cs
      by (Joined p q) e = passed notes i d (Joined p q) cs l e refl is
      by (Compared p s) e = passed notes i d (Compared p s) cs l e refl is
      by (Stands p c) e = absurd (other p c e)
