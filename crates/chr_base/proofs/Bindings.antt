-- What the variables of heads get while they are matched with atoms.
use Rattle.std.specs.Prelude.{◌≡◌, ℤ, pos, ◌+◌, ◌-◌, ◌≤◌, ◌↔◌, true, List, [], ◌∷◌, ◌++◌, map, length, get_or, take}
use Rattle.std.specs.Prelude.{drop, is_some}
use Rattle.std.proofs.Common.{refl, sym, ap, subst, ◌∙◌, arith}
use Rattle.std.proofs.lemmas.List.{take_all}
use Rattle.chr_base.specs.declared.atom.Atom.{Atom}
use Rattle.chr_base.specs.declared.term.Term.{Term}
use Rattle.chr_base.specs.declared.term.Pattern.{Pattern}
use Rattle.chr_base.specs.RuleTests.{numbered, terms_of}
use Rattle.chr_base.specs.Rules.{Valuation, term_value, atom_at, atoms_at, valued}
use Rattle.chr_base.specs.working.Bindings.{Binds, Keeps, Refuses}
use Rattle.chr_base.proofs.Terms.{first_numbered, then_numbered}

-- ---- terms after terms

pub binds_nothing : (vs : List ℤ) (Q : Valuation → Type 0) → ((w : Valuation) → Q w) → Binds vs vs [] Q
binds_nothing vs Q q = record { counted = refl; keeps = λ w. (λ k. (k, q w), λ p. p.0) }

pub binds_iff : (vs ws : List ℤ) (ts : List Term) (P R : Valuation → Type 0) → Binds vs ws ts P
    → ((w : Valuation) → R w ↔ P w) → Binds vs ws ts R
binds_iff vs ws ts P R b f = record {
  counted = b.counted;
  keeps = λ w. (λ k. let m = (b.keeps w).0 k in (m.0, (f w).1 m.1), λ p. (b.keeps w).1 (p.0, (f w).0 p.1));
}

pub binds_then : (vs us ws : List ℤ) (ts rs : List Term) (P Q R : Valuation → Type 0) → Binds vs us ts P
    → Binds us ws rs Q → ((w : Valuation) → R w ↔ (P w × Q w))
    → Binds vs ws (ts ++ rs) R
binds_then vs us ws ts rs P Q R b c f = record {
  counted = then_numbered (length vs) (length us) ts rs b.counted ∙ c.counted;
  keeps = λ w. (
    λ k. let m = (c.keeps w).0 k in let n = (b.keeps w).0 m.0 in (n.0, (f w).1 (n.1, m.1)),
    λ p. let q =
        (f w).0 p.1 in (c.keeps w).1 ((b.keeps w).1 (p.0, q.0), q.1),
  );
}

pub refuses_first : (vs : List ℤ) (P R : Valuation → Type 0) → Refuses vs P → ((w : Valuation) → R w → P w)
    → Refuses vs R
refuses_first vs P R r f = λ w k q. r w k (f w q)

pub refuses_then : (vs us : List ℤ) (ts : List Term) (P Q R : Valuation → Type 0) → Binds vs us ts P → Refuses us Q
    → ((w : Valuation) → R w → P w × Q w) → Refuses vs R
refuses_then vs us ts P Q R b r f = λ w k q. let s = f w q in r w ((b.keeps w).1 (k, s.0)) s.1

-- what follows is numbered on
pub rest_numbered : (vs us : List ℤ) (ts rs : List Term) (P : Valuation → Type 0)
    → is_some (numbered (length vs) (ts ++ rs)) ≡ true → Binds vs us ts P
    → is_some (numbered (length us) rs) ≡ true
rest_numbered vs us ts rs P h b = ap is_some (sym (then_numbered (length vs) (length us) ts rs b.counted)) ∙ h

-- ---- when lists come out

pub each_iff : {A B : Type 0} (f : A → B) (x : A) (xs : List A) (y : B) (ys : List B)
    → (map f (x ∷ xs) ≡ y ∷ ys) ↔ ((f x ≡ y) × (map f xs ≡ ys))
each_iff f x xs y ys = (
  (λ e. (let h : f x ∷ map f xs ≡ y ∷ ys = e in cc, let h : f x ∷ map f xs ≡ y ∷ ys = e in cc)),
  λ p i. p.0 i ∷ p.1 i,
)

pub atom_iff : (w : Valuation) (p : Pattern) (a : Atom) → p.symbol.0 ≡ a.symbol.0
    → (atom_at w p ≡ a) ↔ (map (term_value w) p.args.items ≡ a.args.items)
atom_iff w p a s = (
  ap (λ b. b.args.items),
  λ e i. record {
    symbol = record { 0 = s i };
    args =
        record { items = e i };
  },
)

pub cut_iff : (w : Valuation) (ps qs : List Pattern) (as' : List Atom) → length ps ≤ length as'
    → (atoms_at w (ps ++ qs) ≡ as') ↔ ((atoms_at w ps ≡ take (length ps) as') × (atoms_at w qs ≡ drop (length ps) as'))
cut_iff w [] qs as' l = (λ e. (refl, e), λ p. p.1)
cut_iff w (p ∷ ps) qs [] l = absurd (omega arith)
cut_iff w (p ∷ ps) qs (a ∷ as') l =
    let r = cut_iff w ps qs as' (omega arith) in (
      λ e. let c = (each_iff (atom_at w) p (ps ++ qs) a as').0 e in let d = r.0 c.1 in (λ i. c.0 i ∷ d.0 i, d.1),
      λ q. let c = (each_iff (atom_at w) p ps a (take (length ps) as')).0 q.0 in λ i. c.0 i ∷ r.1 (c.1, q.1) i,
    )

pub keeps_itself : (vs : List ℤ) → Keeps vs (valued vs)
keeps_itself vs x l = let e : x + 1 - 1 ≡ x = omega arith in ap (λ k. get_or vs k (pos 0)) e

-- what is bound from nothing on comes out by the values
pub comes_out : (ws : List ℤ) (ts : List Term) (Q : Valuation → Type 0) → Binds [] ws ts Q → Q (valued ws)
comes_out ws ts Q b = ((b.keeps (valued ws)).0 (keeps_itself ws)).1

pub keeps_none : (w : Valuation) → Keeps [] w
keeps_none w x l = absurd (omega arith)

-- ---- the first of a list, and the rest as the code reads it

rest_is : {A : Type 0} (x : A) (xs : List A) → take (length (x ∷ xs) - 1) (drop 1 (x ∷ xs)) ≡ xs
rest_is x xs = take_all (length (x ∷ xs) - 1) xs (omega arith)

pub first_rest : {A : Type 0} (xs : List A) (d : A) → 1 ≤ length xs → get_or xs 0 d ∷ take (length xs - 1) (drop 1 xs)
    ≡ xs
first_rest [] d l = absurd (omega arith)
first_rest (x ∷ xs) d l = ap (λ ys. x ∷ ys) (rest_is x xs)

pub all_iff : {A B : Type 0} (f : A → B) (xs : List A) (ys : List B) (d : A) (e : B) → 1 ≤ length xs → 1 ≤ length ys
    → (map f xs ≡ ys) ↔ ((f (get_or xs 0 d) ≡ get_or ys 0 e)
    × (map f (take (length xs - 1) (drop 1 xs)) ≡ take (length ys - 1) (drop 1 ys)))
all_iff f [] ys d e l m = absurd (omega arith)
all_iff f (x ∷ xs) [] d e l m = absurd (omega arith)
all_iff f (x ∷ xs) (y ∷ ys) d e l m = subst (λ vs. (map f (x ∷ xs) ≡ y ∷ ys) ↔
    ((f x ≡ y) × (map f vs ≡ take (length (y ∷ ys) - 1) (drop 1 (y ∷ ys))))) (sym (rest_is x xs))
    (subst (λ ws. (map f (x ∷ xs) ≡ y ∷ ys) ↔ ((f x ≡ y) × (map f xs ≡ ws))) (sym (rest_is y ys))
    (each_iff f x xs y ys))

pub terms_bound : (vs us ws : List ℤ) (ts : List Term) (zs : List ℤ) (d : Term) (e : ℤ) → 1 ≤ length ts → 1 ≤ length zs
    → Binds vs us (get_or ts 0 d ∷ []) (λ w. term_value w (get_or ts 0 d) ≡ get_or zs 0 e)
    → Binds us ws (take (length ts - 1) (drop 1 ts)) (λ w. map (term_value w) (take (length ts - 1) (drop 1 ts))
    ≡ take (length zs - 1) (drop 1 zs))
    → Binds vs ws ts (λ w. map (term_value w) ts ≡ zs)
terms_bound vs us ws ts zs d e l m b c =
    subst (λ rs. Binds vs ws rs (λ w. map (term_value w) ts ≡ zs)) (first_rest ts d l)
    (binds_then vs us ws (get_or ts 0 d ∷ []) _ _ _ _ b c (λ w. all_iff (term_value w) ts zs d e l m))

pub terms_refused : (vs us : List ℤ) (ts : List Term) (zs : List ℤ) (d : Term) (e : ℤ) → 1 ≤ length ts → 1 ≤ length zs
    → Binds vs us (get_or ts 0 d ∷ []) (λ w. term_value w (get_or ts 0 d) ≡ get_or zs 0 e)
    → Refuses us (λ w. map (term_value w) (take (length ts - 1) (drop 1 ts)) ≡ take (length zs - 1) (drop 1 zs))
    → Refuses vs (λ w. map (term_value w) ts ≡ zs)
terms_refused vs us ts zs d e l m b r = refuses_then vs us (get_or ts 0 d ∷ []) _ _ _ b r
    (λ w. (all_iff (term_value w) ts zs d e l m).0)

pub patterns_bound : (vs us ws : List ℤ) (ps : List Pattern) (as' : List Atom) (d : Pattern) (e : Atom) → 1 ≤ length ps
    → 1 ≤ length as'
    → Binds vs us (get_or ps 0 d).args.items (λ w. atom_at w (get_or ps 0 d) ≡ get_or as' 0 e)
    → Binds us ws (terms_of (take (length ps - 1) (drop 1 ps)))
    (λ w. atoms_at w (take (length ps - 1) (drop 1 ps)) ≡ take (length as' - 1) (drop 1 as'))
    → Binds vs ws (terms_of ps) (λ w. atoms_at w ps ≡ as')
patterns_bound vs us ws ps as' d e l m b c =
    subst (λ qs. Binds vs ws (terms_of qs) (λ w. atoms_at w ps ≡ as')) (first_rest ps d l)
    (binds_then vs us ws (get_or ps 0 d).args.items _ _ _ _ b c (λ w. all_iff (atom_at w) ps as' d e l m))

pub patterns_refused : (vs us : List ℤ) (ps : List Pattern) (as' : List Atom) (d : Pattern) (e : Atom) → 1 ≤ length ps
    → 1 ≤ length as'
    → Binds vs us (get_or ps 0 d).args.items (λ w. atom_at w (get_or ps 0 d) ≡ get_or as' 0 e)
    → Refuses us (λ w. atoms_at w (take (length ps - 1) (drop 1 ps)) ≡ take (length as' - 1) (drop 1 as'))
    → Refuses vs (λ w. atoms_at w ps ≡ as')
patterns_refused vs us ps as' d e l m b r = refuses_then vs us (get_or ps 0 d).args.items _ _ _ b r
    (λ w. (all_iff (atom_at w) ps as' d e l m).0)

pub first_pattern : (vs : List ℤ) (ps : List Pattern) (d : Pattern) → 1 ≤ length ps
    → is_some (numbered (length vs) (terms_of ps)) ≡ true
    → is_some (numbered (length vs) (get_or ps 0 d).args.items) ≡ true
first_pattern vs ps d l h =
    first_numbered (length vs) (get_or ps 0 d).args.items (terms_of (take (length ps - 1) (drop 1 ps)))
    (subst (λ qs. is_some (numbered (length vs) (terms_of qs)) ≡ true) (sym (first_rest ps d l)) h)

pub rest_patterns : (vs us : List ℤ) (ps : List Pattern) (d : Pattern) (P : Valuation → Type 0) → 1 ≤ length ps
    → is_some (numbered (length vs) (terms_of ps)) ≡ true
    → Binds vs us (get_or ps 0 d).args.items P → is_some
    (numbered (length us) (terms_of (take (length ps - 1) (drop 1 ps)))) ≡ true
rest_patterns vs us ps d P l h b =
    rest_numbered vs us (get_or ps 0 d).args.items (terms_of (take (length ps - 1) (drop 1 ps))) P
    (subst (λ qs. is_some (numbered (length vs) (terms_of qs)) ≡ true) (sym (first_rest ps d l)) h) b
