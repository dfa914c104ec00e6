-- Head places that read alike: where one has no partners, the other has none.
use Rattle.std.proofs.Common.{◌≡◌, ℕ, zero, suc, ◌<◌, List, [], ◌∷◌, length, inl, inr, refl, sym, ap, subst, ◌∙◌}
use Rattle.std.specs.Prelude.{Some}
use Rattle.std.proofs.lemmas.Bool.{cases_eq}
use Rattle.chr_base.specs.declared.atom.Atom.{Atom}
use Rattle.chr_base.specs.declared.rule.Rule.{Rule}
use Rattle.chr_base.specs.Rules.{atom_at, heads_of}
use Rattle.chr_plans.specs.declared.rows.Seat.{Seat}
use Rattle.chr_plans.specs.Plans.{pattern_at}
use Rattle.chr_plans.specs.Rows.{Tables}
use Rattle.chr_plans.specs.Seats.{head, seat, no_seat, atom_in, IsSeated, NoPartners}
use Rattle.chr_plans.proofs.Values.{head_value}

-- the seats with another one at a place
abbrev with_seat : ℕ → Seat → List Seat → List Seat
with_seat zero x [] = x ∷ []
with_seat zero x (s ∷ ss) = x ∷ ss
with_seat (suc k) x [] = no_seat ∷ with_seat k x []
with_seat (suc k) x (s ∷ ss) = s ∷ with_seat k x ss

seat_there : (k : ℕ) (x : Seat) (ss : List Seat) → seat (with_seat k x ss) k ≡ x
seat_there zero x [] = refl
seat_there zero x (s ∷ ss) = refl
seat_there (suc k) x [] = seat_there k x []
seat_there (suc k) x (s ∷ ss) = seat_there k x ss

seat_elsewhere : (k j : ℕ) (x : Seat) (ss : List Seat) → (j ≡ k → ⊥) → seat (with_seat k x ss) j ≡ seat ss j
seat_elsewhere zero zero x ss ne = absurd (ne refl)
seat_elsewhere zero (suc j) x [] ne = refl
seat_elsewhere zero (suc j) x (s ∷ ss) ne = refl
seat_elsewhere (suc k) zero x [] ne = refl
seat_elsewhere (suc k) zero x (s ∷ ss) ne = refl
seat_elsewhere (suc k) (suc j) x [] ne = seat_elsewhere k j x [] (λ e. ne (ap suc e))
seat_elsewhere (suc k) (suc j) x (s ∷ ss) ne = seat_elsewhere k j x ss (λ e. ne (ap suc e))

module _ (r : Rule) (rows : Tables) (p q : ℕ) (within : q < length (heads_of r))
    (same : pattern_at r p ≡ pattern_at r q) (heads : List Atom) (seats : List Seat)
    (seated : IsSeated r rows p heads seats) where
  -- both places have one atom
  one_atom : head heads q ≡ head heads p
  one_atom =
      let v = seated.instance.0 in
      let e = seated.instance.1 in
      ap (λ hs. head hs q) (sym e) ∙ head_value r v q ∙ ap (atom_at v) (sym same) ∙ sym (head_value r v p)
      ∙ ap (λ hs. head hs p) e

  -- the partners with the one that sits at q put at p are partners of the atom at q
  moved : (q ≡ p → ⊥) → IsSeated r rows q heads (with_seat p (seat seats q) seats)
  moved ne = record {
    instance = seated.instance;
    there = λ k o. (elim (cases_eq k p) as (λ _. atom_in rows (seat (with_seat p (seat seats q) seats) k)
        ≡ Some (head heads k)) [
          | inl e ↦ ap (atom_in rows) (here k e) ∙ seated.there q (within, ne)
              ∙ ap Some (one_atom ∙ ap (head heads) (sym e))
          | inr d ↦ ap (atom_in rows) (seat_elsewhere p k (seat seats q) seats d) ∙ seated.there k (o.0, d)
        ]);
    apart = λ k l o t n e. (elim (cases_eq k p) as (λ _. ⊥) [
      | inl f ↦ elim (cases_eq l p) as (λ _. ⊥) [
        | inl g ↦ n (f ∙ sym g)
        | inr d ↦ seated.apart q l (within, ne) (t.0, d) (λ z. t.1 (sym z))
            (sym (here k f) ∙ e ∙ seat_elsewhere p l (seat seats q) seats d)
      ]
      | inr c ↦ elim (cases_eq l p) as (λ _. ⊥) [
        | inl g ↦ seated.apart k q (o.0, c) (within, ne) o.1
            (sym (seat_elsewhere p k (seat seats q) seats c) ∙ e ∙ here l g)
        | inr d ↦ seated.apart k l (o.0, c) (t.0, d) n
            (sym (seat_elsewhere p k (seat seats q) seats c) ∙ e ∙ seat_elsewhere p l (seat seats q) seats d)
      ]
    ]);
  }
    where
      here : (k : ℕ) → k ≡ p → seat (with_seat p (seat seats q) seats) k ≡ seat seats q
      here k e = ap (seat (with_seat p (seat seats q) seats)) e ∙ seat_there p (seat seats q) seats

-- no partners at one of two places that read alike are none at the other
pub alike : (r : Rule) (rows : Tables) (p q : ℕ) (a : Atom) → q < length (heads_of r) → pattern_at r p ≡ pattern_at r q
    → NoPartners r rows q a → NoPartners r rows p a
alike r rows p q a within same none heads seats seated is = elim (cases_eq q p) as (λ _. ⊥) [
  | inl e ↦ none heads seats (subst (λ k. IsSeated r rows k heads seats) (sym e) seated) (ap (head heads) e ∙ is)
  | inr ne ↦ none heads (with_seat p (seat seats q) seats) (moved r rows p q within same heads seats seated ne)
      (one_atom r rows p q within same heads seats seated ∙ is)
]
