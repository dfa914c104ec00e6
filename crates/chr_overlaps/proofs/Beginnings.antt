-- Where both guards hold, they may hold at each beginning of the values: no case is left.
use Rattle.std.specs.Prelude.{◌≡◌, ℕ, ℤ, Bool, true, false, ◌&&◌, ◌||◌, cond, nat_eq, List, [], ◌∷◌, ◌++◌}
use Rattle.std.specs.List.{filter}
use Rattle.std.specs.Ordering.{int_cmp}
use Rattle.std.proofs.Common.{refl, sym, subst, ◌∙◌, append_assoc}
use Rattle.std.proofs.lemmas.Bool.{and_from, and_parts}
use mathlib.Core.Bool.{true≢false}
use Rattle.chr_base.specs.declared.rule.Rule.{Rule}
use Rattle.chr_base.specs.declared.term.Term.{Term}
use Rattle.chr_base.specs.declared.term.Term.TheVariants.{Variable, Constant}
use Rattle.chr_base.specs.declared.term.Comparison.{Comparison}
use Rattle.chr_base.specs.Rules.{term_value, compares, comparison_holds, guard_holds}
use Rattle.chr_types.specs.Visits.{are_admitted}
use Rattle.chr_confluence.specs.Representatives.{assignment, guards_hold}
use Rattle.chr_overlaps.specs.declared.unify.Unified.{Unified}
use Rattle.chr_overlaps.specs.working.Beginnings.{has_place, is_known, may_hold, all_may_hold}
use Rattle.chr_overlaps.specs.working.Unifiers.{classes_of, IsUnified}
use Rattle.chr_overlaps.proofs.HeadsAt.{guards_are}

known_value : (fs : List ℕ) (p q : List ℤ) (x : ℕ) → has_place fs p x ≡ true → assignment fs (p ++ q) x
    ≡ assignment fs p x
known_value [] p q x h = absurd (true≢false (sym h))
known_value (f ∷ fs) [] q x h = absurd (true≢false (sym h))
known_value (f ∷ fs) (z ∷ p) q x h = by (nat_eq x f) h (known_value fs p q x)
  where
    by : (b : Bool) → (b || has_place fs p x) ≡ true → (has_place fs p x ≡ true → assignment fs (p ++ q) x
        ≡ assignment fs p x) → cond b z (assignment fs (p ++ q) x) ≡ cond b z (assignment fs p x)
    by true h more = refl
    by false h more = more h

known_term : (fs : List ℕ) (p q : List ℤ) (t : Term) → is_known fs p t ≡ true → term_value (assignment fs (p ++ q)) t
    ≡ term_value (assignment fs p) t
known_term fs p q (Variable x) h = known_value fs p q x h
known_term fs p q (Constant c) h = refl

may_begin : (fs : List ℕ) (p q : List ℤ) (c : Comparison) → comparison_holds (assignment fs (p ++ q)) c ≡ true
    → may_hold fs p c ≡ true
may_begin fs p q c h = by (is_known fs p c.left) (is_known fs p c.right) refl refl
  where
    by : (a b : Bool) → is_known fs p c.left ≡ a → is_known fs p c.right ≡ b
        → cond (a && b) (comparison_holds (assignment fs p) c) true ≡ true
    by true true l r = (λ i. compares c.cmp (int_cmp (sym (known_term fs p q c.left l) i)
        (sym (known_term fs p q c.right r) i))) ∙ h
    by true false l r = refl
    by false b l r = refl

all_begin : (fs : List ℕ) (cs : List Comparison) (p q : List ℤ) → guard_holds (assignment fs (p ++ q)) cs ≡ true
    → all_may_hold fs cs p ≡ true
all_begin fs [] p q h = refl
all_begin fs (c ∷ cs) p q h =
    let parts = and_parts (comparison_holds (assignment fs (p ++ q)) c) (guard_holds (assignment fs (p ++ q)) cs) h in
    and_from (may_hold fs p c) (all_may_hold fs cs p) (may_begin fs p q c parts.0) (all_begin fs cs p q parts.1)

pub admitted : (fs : List ℕ) (cs : List Comparison) (p q : List ℤ) → guard_holds (assignment fs (p ++ q)) cs ≡ true
    → are_admitted (all_may_hold fs cs) p q ≡ true
admitted fs cs p [] h = refl
admitted fs cs p (v ∷ q) h =
    let longer : guard_holds (assignment fs ((p ++ v ∷ []) ++ q)) cs ≡ true =
    subst (λ zs. guard_holds (assignment fs zs) cs ≡ true) (sym (append_assoc p (v ∷ []) q)) h in
    and_from (all_may_hold fs cs (p ++ v ∷ [])) (are_admitted (all_may_hold fs cs) (p ++ v ∷ []) q)
    (all_begin fs cs (p ++ v ∷ []) q longer) (admitted fs cs (p ++ v ∷ []) q longer)

-- values at which both guards hold are admitted
pub guards_admitted : (r1 r2 : Rule) (u : Unified) (zs : List ℤ) → IsUnified r1 r2 u
    → guards_hold (classes_of u) r1 r2 zs ≡ true → are_admitted (all_may_hold u.free.items u.guards.items) [] zs ≡ true
guards_admitted r1 r2 u zs is h = admitted u.free.items u.guards.items [] zs (guards_are r1 r2 u zs is ∙ h)

-- where all that passes g passes a, nothing that passes g is lost among what passes a
pub filter_within : {A : Type 0} (g a : A → Bool) → ((x : A) → g x ≡ true → a x ≡ true) → (xs : List A)
    → filter g (filter a xs) ≡ filter g xs
filter_within g a h [] = refl
filter_within {A} g a h (x ∷ xs) = by (a x) (g x) refl refl (filter_within g a h xs)
  where
    kept : (c : Bool) → filter g (filter a xs) ≡ filter g xs → cond c (x ∷ filter g (filter a xs))
        (filter g (filter a xs)) ≡ cond c (x ∷ filter g xs) (filter g xs)
    kept c more i = cond c (x ∷ more i) (more i)

    by : (b c : Bool) → a x ≡ b → g x ≡ c → filter g (filter a xs) ≡ filter g xs
        → filter g (cond b (x ∷ filter a xs) (filter a xs)) ≡ cond (g x) (x ∷ filter g xs) (filter g xs)
    by true c e f more = kept (g x) more
    by false true e f more = absurd (true≢false (sym (h x f) ∙ e))
    by false false e f more = more ∙ (λ i. cond (sym f i) (x ∷ filter g xs) (filter g xs))
