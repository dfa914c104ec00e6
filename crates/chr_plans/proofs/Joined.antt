-- Stores at rest that share no value of the joining argument are at rest together.
use Rattle.std.specs.Prelude.{◌≡◌, ◌⊎◌, ℕ, zero, suc, ℤ, ◌<◌, ◌≤◌, List, [], ◌∷◌, map, get_or, Option, Some, None}
use Rattle.std.specs.Prelude.{slice_get, false, true, Bool, cond, pos, All}
use Rattle.std.proofs.Common.{refl, sym, ap, subst, ◌∙◌, arith, inl, inr}
use Rattle.std.specs.Ordering.{eq_by_cmp, is_eq}
use Rattle.std.specs.Cmp.{tied_itself}
use Rattle.std.proofs.lemmas.Bool.{cases_lt}
use Rattle.std.proofs.lemmas.List.Elements.{All-head, All-tail, All-get_or}
use Rattle.std.proofs.lemmas.Option.{slice_get_within, get_or_from_slice_get}
use Rattle.chr_base.specs.Atoms.{atom_cmp}
use Rattle.chr_base.specs.declared.atom.Atom.{Atom}
use Rattle.chr_base.specs.declared.rule.Rule.{Rule}
use Rattle.chr_base.specs.declared.term.Pattern.{Pattern}
use Rattle.chr_base.specs.declared.term.Term.{Term}
use Rattle.chr_base.specs.declared.term.Term.TheVariants.{Variable}
use Rattle.chr_base.specs.FinBag.{◌⊕◌, IsWithin, count_in}
use Rattle.chr_base.specs.Rules.{Valuation, heads_at, atoms_at, atom_at, term_value, heads_of}
use Rattle.chr_base.specs.Stores.{Store, store_of, count}
use Rattle.chr_base.proofs.Atoms.{atom_total, same_is}
use Rattle.chr_base.proofs.FinBags.{count-of_list}
use Rattle.chr_base.proofs.Stores.{count_plus}
use Rattle.chr_plans.specs.Joined.{column_in, value_in, HasThere, IsJoined, AreApart}
use Rattle.chr_plans.specs.Laws.{ApartRest}
use Rattle.chr_plans.proofs.ActiveAtoms.{no_instance}

-- the value of the variable stands where it stands
value_there : (v : Valuation) (x : ℕ) (ts : List Term) (n : ℕ) → slice_get ts n ≡ Some (Variable x)
    → get_or (map (term_value v) ts) n (pos 0) ≡ v x
value_there v x [] n e = absurd (let f : ◌≡◌ {A = Option Term} None (Some (Variable x)) = e in cc)
value_there v x (t ∷ ts) zero e = let f : t ≡ Variable x =
    (let g : ◌≡◌ {A = Option Term} (Some t) (Some (Variable x)) = e in cc) in ap (term_value v) f
value_there v x (t ∷ ts) (suc n) e = value_there v x ts n e

-- each of these atoms has the value of the variable in the joining argument
pub shared_value : (columns : List ℕ) (v : Valuation) (x : ℕ) (ps : List Pattern) → All (HasThere columns x) ps →
    (q : Atom)
    → 0 < count_in atom_cmp q (atoms_at v ps) → value_in columns q ≡ v x
shared_value columns v x [] h q l = absurd (omega (arith, l))
shared_value columns v x (p ∷ ps) h q l = by (eq_by_cmp atom_cmp q (atom_at v p)) refl
    (shared_value columns v x ps (All-tail (HasThere columns x) p ps h) q)
  where
    by : (b : Bool) → eq_by_cmp atom_cmp q (atom_at v p) ≡ b
        → (0 < count_in atom_cmp q (atoms_at v ps) → value_in columns q ≡ v x) → value_in columns q ≡ v x
    by true e more = ap (value_in columns) (same_is q (atom_at v p) e)
        ∙ value_there v x p.args.items (column_in columns p.symbol) (All-head (HasThere columns x) p ps h)
    by false e more = more (let f : ◌≡◌ {A = ℕ} (cond (eq_by_cmp atom_cmp q (atom_at v p)) 1 0) 0 =
        ap (λ b. cond b 1 0) e in omega (arith, l, f))

-- atoms of one value that are in both stores together are in the one that has the first of them
in_one : (columns : List ℕ) (w : ℤ) (s t h : Store) (a : Atom) → ((q : Atom) → 0 < count h q → value_in columns q ≡ w)
    → AreApart columns s t → 0 < count h a → 0 < count s a
    → IsWithin h (s ⊕ t) → IsWithin h s
in_one columns w s t h a one apart here there within q = elim (cases_lt 0 (count h q)) as (λ _. count h q ≤ count s q) [
  | inr none ↦ omega (arith, none)
  | inl some ↦ elim (cases_lt 0 (count t q)) as (λ _. count h q ≤ count s q) [
    | inl both ↦ absurd (apart a q there both (one a here ∙ sym (one q some)))
    | inr other ↦ (let e = within q in let f = count_plus s t q in omega (arith, e, f, other))
  ]
]

in_other : (columns : List ℕ) (w : ℤ) (s t h : Store) (a : Atom) → ((q : Atom) → 0 < count h q → value_in columns q ≡ w)
    → AreApart columns s t → 0 < count h a → 0 < count t a
    → IsWithin h (s ⊕ t) → IsWithin h t
in_other columns w s t h a one apart here there within q =
    elim (cases_lt 0 (count h q)) as (λ _. count h q ≤ count t q) [
      | inr none ↦ omega (arith, none)
      | inl some ↦ elim (cases_lt 0 (count s q)) as (λ _. count h q ≤ count t q) [
        | inl both ↦ absurd (apart q a both there (one q some ∙ sym (one a here)))
        | inr other ↦ (let e = within q in let f = count_plus s t q in omega (arith, e, f, other))
      ]
    ]

-- an instance that is in both stores together is in one of them
in_either : (columns : List ℕ) (w : ℤ) (s t : Store) (xs : List Atom)
    → ((q : Atom) → 0 < count (store_of xs) q → value_in columns q ≡ w) → AreApart columns s t
    → IsWithin (store_of xs) (s ⊕ t)
    → IsWithin (store_of xs) s ⊎ IsWithin (store_of xs) t
in_either columns w s t [] one apart within = inl (λ q. (let e = count-of_list atom_total [] q in omega (arith, e)))
in_either columns w s t (a ∷ xs) one apart within =
    let c = count-of_list atom_total (a ∷ xs) a in
    let k : ◌≡◌ {A = ℕ} (cond (eq_by_cmp atom_cmp a a) 1 0) 1 =
    ap (λ o. cond (is_eq o) 1 0) (tied_itself atom_total a) in
    let here : 0 < count (store_of (a ∷ xs)) a = omega (arith, c, k) in
    elim (cases_lt 0 (count s a)) as (λ _. IsWithin (store_of (a ∷ xs)) s ⊎ IsWithin (store_of (a ∷ xs)) t) [
      | inl there ↦ inl (in_one columns w s t (store_of (a ∷ xs)) a one apart here there within)
      | inr none ↦ inr (in_other columns w s t (store_of (a ∷ xs)) a one apart here
          (let e = within a in let f = count_plus s t a in omega (arith, e, f, none, here)) within)
    ]

pub apart_rests : ApartRest
apart_rests columns rules s t joined apart rs rt u h =
    let j = rule_of h.0 h.1 h.3 in
    let one = λ (q : Atom) (l : 0 < count (store_of (heads_at h.2 h.1)) q). shared_value columns h.2 j.0
    (heads_of h.1) j.1 q (let e = count-of_list atom_total (heads_at h.2 h.1) q in omega (arith, e, l)) in
    elim (in_either columns (h.2 j.0) s t (heads_at h.2 h.1) one apart h.4.there) as (λ _. ⊥) [
      | inl first ↦ no_instance rules s rs h.0 h.1 h.2 h.3 h.4.guard first
      | inr second ↦ no_instance rules t rt h.0 h.1 h.2 h.3 h.4.guard second
    ]
  where
    rule_of : (i : ℕ) (r : Rule) → slice_get rules i ≡ Some r → IsJoined columns r
    rule_of i r e =
        let P : Rule → Type 0 = IsJoined columns in
        subst P (get_or_from_slice_get rules i r r e) (All-get_or P rules i r (slice_get_within rules i r e) joined)
