-- Matched heads are equal under two valuations just where the joint valuation unifies the overlap's equations.
use Rattle.std.specs.List.{zip}
use Rattle.std.specs.Prelude.{◌≡◌, ℕ, zero, suc, ◌+◌, ◌-◌, ◌<◌, true, false, cond, nat_le, List, [], ◌∷◌, ◌++◌, map}
use Rattle.std.specs.Prelude.{length, Some, slice_get, get_or}
use Rattle.std.specs.Option.{option_map}
use Rattle.std.proofs.Common.{refl, sym, ap, subst, ◌∙◌, inl, inr, arith}
use Rattle.std.proofs.lemmas.Bool.{leb-true, le-leb}
use Rattle.std.proofs.lemmas.Option.{slice_get-map, get_or_from_slice_get}
use Rattle.chr_base.specs.declared.term.Term.{Term}
use Rattle.chr_base.specs.declared.term.Term.TheVariants.{Variable, Constant}
use Rattle.chr_base.specs.declared.term.Pattern.{Pattern}
use Rattle.chr_base.specs.declared.rule.Rule.{Rule}
use Rattle.chr_base.specs.RuleTests.{terms_of}
use Rattle.chr_base.specs.Rules.{Valuation, term_value, atom_at, atoms_at, heads_of, no_pattern}
use Rattle.chr_types.specs.OrderTypes.{In}
use Rattle.chr_confluence.specs.Matchings.{MatchedAreEqual}
use Rattle.chr_confluence.specs.Cases.{both_heads}
use Rattle.chr_confluence.specs.Unifiers.{Unifies}
use Rattle.chr_confluence.specs.Overlaps.{SameSymbols, IsMatching, variables_of, renamed_apart, equations, equations_of}
use Rattle.chr_types.proofs.Members.{in_first, in_second}
use Rattle.chr_confluence.proofs.Numbered.{head_variable}
use Rattle.chr_confluence.proofs.CaseMatchings.{found, both_heads_are}

-- one valuation of the joint variables, from one of each rule
abbrev pub joint : ℕ → Valuation → Valuation → Valuation
joint k v1 v2 x = cond (nat_le x k) (v1 x) (v2 (x - k))

-- ---- lists of equations

meets_both : (w : Valuation) (es fs : List (Term × Term)) → Unifies w es → Unifies w fs → Unifies w (es ++ fs)
meets_both w [] fs h g = g
meets_both w (e ∷ es) fs h g = (h.0, meets_both w es fs h.1 g)

meets_left : (w : Valuation) (es fs : List (Term × Term)) → Unifies w (es ++ fs) → Unifies w es
meets_left w [] fs h = tt
meets_left w (e ∷ es) fs h = (h.0, meets_left w es fs h.1)

meets_right : (w : Valuation) (es fs : List (Term × Term)) → Unifies w (es ++ fs) → Unifies w fs
meets_right w [] fs h = h
meets_right w (e ∷ es) fs h = meets_right w es fs h.1

-- ---- one place

-- each of the terms has the one value under w that it has under v
abbrev LikeLeft : Valuation → Valuation → List Term → Type 0
LikeLeft w v ts = (t : Term) → In t ts → term_value w t ≡ term_value v t

abbrev LikeRight : ℕ → Valuation → Valuation → List Term → Type 0
LikeRight k w v ts = (t : Term) → In t ts → term_value w (renamed_apart k t) ≡ term_value v t

heads_equal : {A : Type 0} (x y : A) (xs ys : List A) → x ∷ xs ≡ y ∷ ys → (x ≡ y) × (xs ≡ ys)
heads_equal x y xs ys e = (ap (λ zs. get_or zs 0 x) e, ap (λ zs. rest zs) e)
  where
    rest : {A : Type 0} → List A → List A
    rest [] = []
    rest (z ∷ zs) = zs

pairs_meet : (k : ℕ) (w v1 v2 : Valuation) (ts us : List Term) → LikeLeft w v1 ts → LikeRight k w v2 us
    → map (term_value v1) ts ≡ map (term_value v2) us → Unifies w (zip ts (map (renamed_apart k) us))
pairs_meet k w v1 v2 [] us l r e = tt
pairs_meet k w v1 v2 (t ∷ ts) [] l r e = tt
pairs_meet k w v1 v2 (t ∷ ts) (u ∷ us) l r e = let h = heads_equal _ _ _ _ e in (
  l t (inl refl) ∙ h.0 ∙ sym (r u (inl refl)),
  pairs_meet k w v1 v2 ts us (λ s i. l s (inr i))
      (λ s i. r s (inr i)) h.1,
)

met_pairs : (k : ℕ) (w v1 v2 : Valuation) (ts us : List Term) → LikeLeft w v1 ts → LikeRight k w v2 us → length ts
    ≡ length us → Unifies w (zip ts (map (renamed_apart k) us)) → map (term_value v1) ts ≡ map (term_value v2) us
met_pairs k w v1 v2 [] [] l r e m = refl
met_pairs k w v1 v2 [] (u ∷ us) l r e m = absurd (omega (arith, e))
met_pairs k w v1 v2 (t ∷ ts) [] l r e m = absurd (omega (arith, e))
met_pairs k w v1 v2 (t ∷ ts) (u ∷ us) l r e m =
    λ i. (sym (l t (inl refl)) ∙ m.0 ∙ r u (inl refl)) i ∷ met_pairs k w v1 v2 ts us (λ s j. l s (inr j))
    (λ s j. r s (inr j)) (omega (arith, e)) m.1 i

-- ---- all places

among : (qs : List Pattern) (e : ℕ) (q : Pattern) → slice_get qs e ≡ Some q → (t : Term) → In t q.args.items
    → In t (terms_of qs)
among [] e q h t i = absurd cc
among (p ∷ qs) zero q h t i = in_first t p.args.items (terms_of qs)
    (subst (λ x. In t x.args.items) (sym (same p q h)) i)
  where
    same : (p q : Pattern) → Some p ≡ Some q → p ≡ q
    same p q h = cc
among (p ∷ qs) (suc e) q h t i = in_second t p.args.items (terms_of qs) (among qs e q h t i)

module _ (k : ℕ) (w v1 v2 : Valuation) (qs : List Pattern) (right : LikeRight k w v2 (terms_of qs)) where
  agrees_meets : (m : List ℕ) (ps : List Pattern) → LikeLeft w v1 (terms_of ps) → MatchedAreEqual (atoms_at v2 qs) m
      (atoms_at v1 ps) → Unifies w (equations k qs m ps)
  agrees_meets [] ps left h = tt
  agrees_meets (e ∷ m) [] left h = tt
  agrees_meets (zero ∷ m) (p ∷ ps) left h = agrees_meets m ps (λ t i. left t (in_second t p.args.items _ i)) h
  agrees_meets (suc e ∷ m) (p ∷ ps) left h =
      let f = found v2 qs e (atom_at v1 p) h.0 in
      let q : get_or qs e no_pattern ≡ f.0 = get_or_from_slice_get qs e f.0 no_pattern f.1 in
      meets_both w _ _
      (subst (λ x. Unifies w (zip p.args.items (map (renamed_apart k) x.args.items))) (sym q)
      (pairs_meet k w v1 v2 p.args.items f.0.args.items (λ t i. left t (in_first t p.args.items _ i))
      (λ t i. right t (among qs e f.0 f.1 t i)) (ap (λ a. a.args.items) (sym f.2))))
      (agrees_meets m ps (λ t i. left t (in_second t p.args.items _ i)) h.1)

  meets_agrees : (m : List ℕ) (ps : List Pattern) → LikeLeft w v1 (terms_of ps) → SameSymbols qs m ps
      → Unifies w (equations k qs m ps) → MatchedAreEqual (atoms_at v2 qs) m (atoms_at v1 ps)
  meets_agrees [] [] left s h = tt
  meets_agrees [] (p ∷ ps) left s h = s
  meets_agrees (e ∷ m) [] left s h = s
  meets_agrees (zero ∷ m) (p ∷ ps) left s h = meets_agrees m ps (λ t i. left t (in_second t p.args.items _ i)) s h
  meets_agrees (suc e ∷ m) (p ∷ ps) left s h =
      let f = s.0 in
      let q : get_or qs e no_pattern ≡ f.0 = get_or_from_slice_get qs e f.0 no_pattern f.1 in
      let args : map (term_value v2) f.0.args.items ≡ map (term_value v1) p.args.items =
      sym (met_pairs k w v1 v2 p.args.items f.0.args.items (λ t i. left t (in_first t p.args.items _ i))
      (λ t i. right t (among qs e f.0 f.1 t i)) f.3
      (subst (λ x. Unifies w (zip p.args.items (map (renamed_apart k) x.args.items))) q (meets_left w _ _ h))) in
      let symbol = sym f.2 in (
        slice_get-map (atom_at v2) qs e ∙ ap (option_map (atom_at v2)) f.1
            ∙ (λ i. Some (record { symbol = record { 0 = symbol i }; args = record { items = args i } })),
        meets_agrees m ps (λ t i. left t (in_second t p.args.items _ i)) s.1 (meets_right w _ _ h),
      )

-- ---- two rules

-- the two valuations are the joint one's, on the heads' variables
pub record AreParts (r1 r2 : Rule) (w v1 v2 : Valuation) : Type 0 where
  pub left : (x : ℕ) → In (Variable x) (terms_of (heads_of r1)) → w x ≡ v1 x
  pub right : (x : ℕ) → In (Variable x) (terms_of (heads_of r2)) → w (variables_of r1 + x) ≡ v2 x

like_left : (r1 r2 : Rule) (w v1 v2 : Valuation) → AreParts r1 r2 w v1 v2 → LikeLeft w v1 (terms_of (heads_of r1))
like_left r1 r2 w v1 v2 h (Variable x) i = h.left x i
like_left r1 r2 w v1 v2 h (Constant c) i = refl

like_right : (r1 r2 : Rule) (w v1 v2 : Valuation) → AreParts r1 r2 w v1 v2 → LikeRight (variables_of r1) w v2
    (terms_of (heads_of r2))
like_right r1 r2 w v1 v2 h (Variable x) i = h.right x i
like_right r1 r2 w v1 v2 h (Constant c) i = refl

pub parts_meet : (r1 r2 : Rule) (m : List ℕ) (w v1 v2 : Valuation) → AreParts r1 r2 w v1 v2
    → MatchedAreEqual (both_heads r2 v2) m (both_heads r1 v1) → Unifies w (equations_of r1 r2 m)
parts_meet r1 r2 m w v1 v2 h a =
    agrees_meets (variables_of r1) w v1 v2 (heads_of r2) (like_right r1 r2 w v1 v2 h) m (heads_of r1)
    (like_left r1 r2 w v1 v2 h)
    (subst (λ as'. MatchedAreEqual as' m (atoms_at v1 (heads_of r1))) (both_heads_are r2 v2)
    (subst (MatchedAreEqual (both_heads r2 v2) m) (both_heads_are r1 v1) a))

pub parts_agree : (r1 r2 : Rule) (m : List ℕ) (w v1 v2 : Valuation) → AreParts r1 r2 w v1 v2 → IsMatching r1 r2 m
    → Unifies w (equations_of r1 r2 m) → MatchedAreEqual (both_heads r2 v2) m (both_heads r1 v1)
parts_agree r1 r2 m w v1 v2 h is e =
    subst (λ as'. MatchedAreEqual as' m (both_heads r1 v1)) (sym (both_heads_are r2 v2))
    (subst (MatchedAreEqual (atoms_at v2 (heads_of r2)) m) (sym (both_heads_are r1 v1))
    (meets_agrees (variables_of r1) w v1 v2 (heads_of r2) (like_right r1 r2 w v1 v2 h) m (heads_of r1)
    (like_left r1 r2 w v1 v2 h) is.symbols e))

pub joint_parts : (r1 r2 : Rule) (v1 v2 : Valuation) → AreParts r1 r2 (joint (variables_of r1) v1 v2) v1 v2
joint_parts r1 r2 v1 v2 = record {
  left = λ x i. ap (λ b. cond b (v1 x) (v2 (x - variables_of r1)))
      (le-leb x (variables_of r1) (head_variable r1 x i).1);
  right = λ x i. (let l = (head_variable r2 x i).0 in
      ap (λ b. cond b (v1 (variables_of r1 + x)) (v2 (variables_of r1 + x - variables_of r1)))
      (gt (variables_of r1) x l) ∙ ap v2 (omega arith));
}
  where
    gt : (k x : ℕ) → 0 < x → nat_le (k + x) k ≡ false
    gt k x l = elim (nat_le (k + x) k) as (λ b. nat_le (k + x) k ≡ b → b ≡ false)
        [ true ↦ λ e. (let q = leb-true (k + x) k e in absurd (omega (arith, q, l))) | false ↦ λ e. refl ] refl

pub split_parts : (r1 r2 : Rule) (w : Valuation) → AreParts r1 r2 w w (λ x. w (variables_of r1 + x))
split_parts r1 r2 w = record { left = λ x i. refl; right = λ x i. refl }

pub joint_meets : (r1 r2 : Rule) (m : List ℕ) (v1 v2 : Valuation) → MatchedAreEqual (both_heads r2 v2) m
    (both_heads r1 v1) → Unifies (joint (variables_of r1) v1 v2) (equations_of r1 r2 m)
joint_meets r1 r2 m v1 v2 a = parts_meet r1 r2 m (joint (variables_of r1) v1 v2) v1 v2 (joint_parts r1 r2 v1 v2) a

pub joint_agrees : (r1 r2 : Rule) (m : List ℕ) (w : Valuation) → IsMatching r1 r2 m → Unifies w (equations_of r1 r2 m)
    → MatchedAreEqual (both_heads r2 (λ x. w (variables_of r1 + x))) m (both_heads r1 w)
joint_agrees r1 r2 m w is e = parts_agree r1 r2 m w w (λ x. w (variables_of r1 + x)) (split_parts r1 r2 w) is e
