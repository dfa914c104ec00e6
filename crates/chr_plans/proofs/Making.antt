-- What is made is a plan.
use Rattle.std.proofs.Common.{◌≡◌, ℕ, ℤ, zero, suc, ◌+◌, ◌<◌, List, [], ◌∷◌, ◌++◌, length, get_or, take, Bool, true}
use Rattle.std.proofs.Common.{false, nat_eq, refl, sym, ap, ◌∙◌, arith, subst, inl, inr, Option}
use Rattle.std.specs.Prelude.{Some, None, option_map, ◌||◌, if◌then◌else◌, not, pos, ◌-◌}
use Rattle.std.proofs.Common.{Ordering}
use Rattle.std.specs.Ordering.{int_cmp, ordering_reverse}
use Rattle.std.specs.declared.cmp.Ordering.TheVariants as order
use Rattle.std.proofs.lemmas.Cmp.{int_cmp_total, tied_itself}
use Rattle.chr_plans.specs.Seats.{head}
use Rattle.std.specs.FinMap.{int_cmp-IsAntisymmetric}
use Rattle.std.specs.List.{list_any, IsDistinct}
use Rattle.std.specs.Option.{option_or, option_and_then}
use Rattle.std.proofs.lemmas.Bool.{cases_lt, and_parts}
use Rattle.std.specs.Cmp.{unsigned_Decides, Equal-is}
use Rattle.std.proofs.lemmas.Option.{same_Some}
use Rattle.std.proofs.lemmas.List.{length-map, get_or_append_left, map-append, take-append-le, take_all}
use Rattle.std.proofs.Common.{length-append}
use Rattle.std.proofs.Math.Seq.{get_or-append_seam}
use Rattle.chr_base.specs.declared.term.Term.{Term}
use Rattle.chr_base.specs.declared.term.Term.TheVariants as term
use Rattle.chr_base.specs.declared.term.Cmp.{Cmp}
use Rattle.chr_base.specs.declared.term.Cmp.TheVariants.{Less, AtMost, Greater, AtLeast, Equal, NotEqual}
use Rattle.chr_base.specs.declared.term.Comparison.{Comparison}
use Rattle.chr_base.specs.declared.rule.Rule.{Rule}
use Rattle.chr_base.specs.Rules.{Valuation, heads_of, heads_at, term_value, compares, comparison_holds, guard_holds}
use Rattle.chr_base.specs.RuleTests.{is_variable}
use Rattle.chr_plans.specs.declared.key.Source.{Source}
use Rattle.chr_plans.specs.declared.key.Source.TheVariants.{Constant, Argument}
use Rattle.chr_plans.specs.declared.key.Test.{Test}
use Rattle.chr_plans.specs.declared.key.Limit.{Limit}
use Rattle.chr_plans.specs.declared.plan.Partner.{Partner}
use Rattle.chr_plans.specs.Keys.{argument, source_value, passes}
use Rattle.chr_plans.specs.Plans.{pattern_at, places_of, IsKnown, IsReady, IsSource, AreKeys, IsTest, AreTests, IsLimit}
use Rattle.chr_plans.specs.Plans.{AreLimits, IsPlan}
use Rattle.chr_plans.specs.Planning.{is_in, column_of, variable_source, direct_source, is_equal, beside, equal_to}
use Rattle.chr_plans.specs.Planning.{equal_source, term_source, with_key, keys_from, test_by, test_of, with_test}
use Rattle.chr_plans.specs.Planning.{tests_from, turned, own_column, limit_by, limit_of, with_limit, limits_from}
use Rattle.chr_plans.specs.Planning.{IsLongest, AreLongest}
use Rattle.chr_plans.specs.Planning.{fixed_by, fails, never_holds, never_fires, no_pass, tests_at}
use Rattle.chr_plans.specs.working.Choosing.{ArePlaces}
use Rattle.chr_plans.proofs.Values.{term_at, no_term, argument_value}
use Rattle.chr_plans.proofs.Distinct.{in_list, in_take, place_at, apart, few, distinct_more, places_more}

variable_is : (x : ℕ) (t : Term) → is_variable x t ≡ true → t ≡ term.Variable x
variable_is x (term.Variable y) e = ap term.Variable (sym ((unsigned_Decides x y).0 e))
variable_is x (term.Constant c) e = absurd (let f : false ≡ true = e in cc)

column_sound : (ts : List Term) (x c k : ℕ) → column_of ts x c ≡ Some k → (j : ℕ) × (k ≡ c + j)
    × (get_or ts j no_term ≡ term.Variable x)
column_sound [] x c k e = absurd (let f : ◌≡◌ {A = Option ℕ} None (Some k) = e in cc)
column_sound (t ∷ ts) x c k e = by (is_variable x t) refl e (column_sound ts x (c + 1) k)
  where
    by : (b : Bool) → is_variable x t ≡ b → (if b then Some c else column_of ts x (c + 1)) ≡ Some k
        → (column_of ts x (c + 1) ≡ Some k → (j : ℕ) × (k ≡ c + 1 + j) × (get_or ts j no_term ≡ term.Variable x))
        → (j : ℕ) × (k ≡ c + j) × (get_or (t ∷ ts) j no_term ≡ term.Variable x)
    by true f g more = (0, (let h = same_Some c k g in omega (arith, h)), variable_is x t f)
    by false f g more = let w = more g in (suc w.0, (let h = w.1 in omega (arith, h)), w.2)

-- the source of a variable is an argument of a head that is known
variable_sound : (r : Rule) (known : List ℕ) (x : ℕ) (s : Source) → variable_source r known x ≡ Some s
    → (q : ℕ) × (c : ℕ) × (s ≡ Argument q c) × (is_in q known ≡ true) × (term_at r q c ≡ term.Variable x)
variable_sound r [] x s e = absurd (let f : ◌≡◌ {A = Option Source} None (Some s) = e in cc)
variable_sound r (p ∷ known) x s e = by (column_of (pattern_at r p).args.items x 0) refl e (variable_sound r known x s)
  where
    or_right : (a b : Bool) → b ≡ true → (a || b) ≡ true
    or_right true b e = refl
    or_right false b e = e

    itself : (n : ℕ) (b : Bool) → (nat_eq n n || b) ≡ true
    itself n b = ap (λ a. a || b) ((unsigned_Decides n n).1 refl)

    by : (o : Option ℕ) → column_of (pattern_at r p).args.items x 0 ≡ o → option_or (option_map (λ c. Argument p c) o)
        (variable_source r known x) ≡ Some s
        → (variable_source r known x ≡ Some s → (q : ℕ) × (c : ℕ) × (s ≡ Argument q c) × (is_in q known ≡ true)
        × (term_at r q c ≡ term.Variable x))
        → (q : ℕ) × (c : ℕ) × (s ≡ Argument q c) × (is_in q (p ∷ known) ≡ true) × (term_at r q c ≡ term.Variable x)
    by None f g more = let w = more g in (w.0, w.1, w.2, or_right (nat_eq w.0 p) _ w.3, w.4)
    by (Some c) f g more =
        let w = column_sound (pattern_at r p).args.items x 0 c f in
        let k : c ≡ w.0 = (let h = w.1 in omega (arith, h)) in (
          p,
          c,
          sym (same_Some (Argument p c) s g),
          itself p (list_any (nat_eq p) known),
          ap (λ j. get_or (pattern_at r p).args.items j no_term) k ∙ w.2,
        )

-- a place that is known
pub known_at : (places : List ℕ) (p n q : ℕ) → is_in q (p ∷ take n places) ≡ true → IsKnown places p n q
known_at places p n q e = by (nat_eq q p) refl e
  where
    by : (b : Bool) → nat_eq q p ≡ b → (b || list_any (nat_eq q) (take n places)) ≡ true → IsKnown places p n q
    by true f g = inl ((unsigned_Decides q p).0 f)
    by false f g = inr (in_take n places q g)

-- a source that is ready, and has the term's value under each valuation that makes the guard true
abbrev IsTermSource : Rule → List ℕ → ℕ → ℕ → Term → Source → Type 0
IsTermSource r places p n t s =
    IsReady places p n s × ((v : Valuation) → guard_holds v r.guard.items ≡ true → source_value (heads_at v r) s
    ≡ term_value v t)

direct_sound : (r : Rule) (places : List ℕ) (p n : ℕ) (t : Term) (s : Source) → direct_source r (p ∷ take n places) t
    ≡ Some s → IsTermSource r places p n t s
direct_sound r places p n (term.Variable x) s e =
    let w = variable_sound r (p ∷ take n places) x s e in
    subst (IsTermSource r places p n (term.Variable x)) (sym w.2)
    (known_at places p n w.0 w.3, λ v g. (argument_value r v (heads_at v r) w.0 w.1 refl ∙ ap (term_value v) w.4))
direct_sound r places p n (term.Constant c) s e = subst (IsTermSource r places p n (term.Constant c))
    (same_Some (Constant c) s e) (tt, λ v g. refl)

-- what a comparison that holds says a variable equals has its value
equal_sound : (v : Valuation) (x : ℕ) (c : Comparison) (t : Term) → equal_to x c ≡ Some t → comparison_holds v c ≡ true
    → term_value v t ≡ v x
equal_sound v x c t e holds = by c.cmp c.left c.right e holds
  where
    sides : (l u : Term) → beside x l u ≡ Some t → term_value v l ≡ term_value v u → term_value v t ≡ v x
    sides l u f same = left (is_variable x l) refl f
      where
        right : (b : Bool) → is_variable x u ≡ b → (if b then Some l else None) ≡ Some t → term_value v t ≡ v x
        right true g h = ap (term_value v) (sym (same_Some l t h)) ∙ same ∙ ap (term_value v) (variable_is x u g)
        right false g h = absurd (let z : ◌≡◌ {A = Option Term} None (Some t) = h in cc)

        left : (b : Bool) → is_variable x l ≡ b → (if b then Some u else (if is_variable x u then Some l else None))
            ≡ Some t → term_value v t ≡ v x
        left true g h = ap (term_value v) (sym (same_Some u t h)) ∙ sym same ∙ ap (term_value v) (variable_is x l g)
        left false g h = right (is_variable x u) refl h

    none : None ≡ Some t → term_value v t ≡ v x
    none f = absurd (let z : ◌≡◌ {A = Option Term} None (Some t) = f in cc)

    by : (k : Cmp) (l u : Term) → (if is_equal k then beside x l u else None) ≡ Some t
        → compares k (int_cmp (term_value v l) (term_value v u)) ≡ true → term_value v t ≡ v x
    by Less l u f h = none f
    by AtMost l u f h = none f
    by Greater l u f h = none f
    by AtLeast l u f h = none f
    by Equal l u f h = sides l u f (int_cmp-IsAntisymmetric _ _
        ((Equal-is (int_cmp (term_value v l) (term_value v u))).0 h))
    by NotEqual l u f h = none f

-- a source that is ready, and has the variable's value where the guard and these comparisons hold
abbrev IsEqualSource : Rule → List ℕ → ℕ → ℕ → ℕ → List Comparison → Source → Type 0
IsEqualSource r places p n x cs s =
    IsReady places p n s × ((v : Valuation) → guard_holds v r.guard.items ≡ true → guard_holds v cs ≡ true
    → source_value (heads_at v r) s ≡ v x)

equal_source_sound : (r : Rule) (places : List ℕ) (p n x : ℕ) (cs : List Comparison) (s : Source)
    → equal_source r (p ∷ take n places) x cs ≡ Some s → IsEqualSource r places p n x cs s
equal_source_sound r places p n x [] s e = absurd (let z : ◌≡◌ {A = Option Source} None (Some s) = e in cc)
equal_source_sound r places p n x (c ∷ cs) s e =
    by (λ g. (let w = equal_source_sound r places p n x cs s g in
    (w.0, λ v h k. w.1 v h (and_parts (comparison_holds v c) _ k).1))) (equal_to x c) refl e
  where
    here : (equal_source r (p ∷ take n places) x cs ≡ Some s → IsEqualSource r places p n x (c ∷ cs) s) → (t : Term)
        → equal_to x c ≡ Some t
        → (o : Option Source) → direct_source r (p ∷ take n places) t ≡ o
        → option_or o (equal_source r (p ∷ take n places) x cs) ≡ Some s → IsEqualSource r places p n x (c ∷ cs) s
    here later t f None g h = later h
    here later t f (Some o) g h =
        let w = direct_sound r places p n t s (g ∙ h) in
        (w.0, λ v i k. (w.1 v i ∙ equal_sound v x c t f (and_parts (comparison_holds v c) _ k).0))

    by : (equal_source r (p ∷ take n places) x cs ≡ Some s → IsEqualSource r places p n x (c ∷ cs) s)
        → (o : Option Term) → equal_to x c ≡ o → option_or (option_and_then (direct_source r (p ∷ take n places)) o)
        (equal_source r (p ∷ take n places) x cs) ≡ Some s
        → IsEqualSource r places p n x (c ∷ cs) s
    by later None f g = later g
    by later (Some t) f g = here later t f (direct_source r (p ∷ take n places) t) refl g

term_sound : (r : Rule) (places : List ℕ) (p n : ℕ) (t : Term) (s : Source) → term_source r (p ∷ take n places) t
    ≡ Some s → IsTermSource r places p n t s
term_sound r places p n (term.Variable x) s e = by (variable_source r (p ∷ take n places) x) refl e
  where
    by : (o : Option Source) → variable_source r (p ∷ take n places) x ≡ o
        → option_or o (equal_source r (p ∷ take n places) x r.guard.items) ≡ Some s
        → IsTermSource r places p n (term.Variable x) s
    by None f g = let w = equal_source_sound r places p n x r.guard.items s g in (w.0, λ v h. w.1 v h h)
    by (Some o) f g = direct_sound r places p n (term.Variable x) s (f ∙ g)
term_sound r places p n (term.Constant c) s e = direct_sound r places p n (term.Constant c) s e

keys_sound : (r : Rule) (places : List ℕ) (p n q c : ℕ) (ts : List Term)
    → ((j : ℕ) → j < length ts → get_or ts j no_term ≡ term_at r q (c + j))
    → AreKeys r places p n q (keys_from r (p ∷ take n places) c ts)
keys_sound r places p n q c [] are = tt
keys_sound r places p n q c (t ∷ ts) are =
    by (term_source r (p ∷ take n places) t) refl (keys_sound r places p n q (c + 1) ts
    (λ j l. (are (suc j) (omega (arith, l)) ∙ ap (term_at r q) (omega arith))))
  where
    here : t ≡ term_at r q c
    here = are 0 (omega arith) ∙ ap (term_at r q) (omega arith)

    is_source : (s : Source) → IsTermSource r places p n t s → IsSource r q c s
    is_source s is heads h =
        argument_value r h.0 heads q c h.1 ∙ ap (term_value h.0) (sym here) ∙ sym (is.1 h.0 h.2)
        ∙ ap (λ hs. source_value hs s) h.1

    by : (o : Option Source) → term_source r (p ∷ take n places) t ≡ o
        → AreKeys r places p n q (keys_from r (p ∷ take n places) (c + 1) ts)
        → AreKeys r places p n q (with_key c o (keys_from r (p ∷ take n places) (c + 1) ts))
    by None e rest = rest
    by (Some s) e rest = let is = term_sound r places p n t s e in (is.0, is_source s is, rest)

test_sound : (r : Rule) (places : List ℕ) (p n : ℕ) (c : Comparison) (t : Test)
    → ((v : Valuation) → guard_holds v r.guard.items ≡ true → comparison_holds v c ≡ true)
    → test_of r (p ∷ take n places) c ≡ Some t → IsReady places p n t.left × IsReady places p n t.right × IsTest r t
test_sound r places p n c t holds e = by (direct_source r (p ∷ take n places) c.left) refl
    (direct_source r (p ∷ take n places) c.right) refl e
  where
    by : (o : Option Source) → direct_source r (p ∷ take n places) c.left ≡ o → (o' : Option Source)
        → direct_source r (p ∷ take n places) c.right ≡ o' → test_by c.cmp o o' ≡ Some t
        → IsReady places p n t.left × IsReady places p n t.right × IsTest r t
    by None f o' g h = absurd (let z : ◌≡◌ {A = Option Test} None (Some t) = h in cc)
    by (Some s) f None g h = absurd (let z : ◌≡◌ {A = Option Test} None (Some t) = h in cc)
    by (Some s) f (Some s') g h =
        let left = direct_sound r places p n c.left s f in
        let right = direct_sound r places p n c.right s' g in
        subst (λ x. IsReady places p n x.left × IsReady places p n x.right × IsTest r x) (same_Some _ t h) (
          left.0,
          right.0,
          λ heads i. (
              subst (λ hs. passes hs (record { left = s; cmp = c.cmp; right = s' }) ≡ true) i.1
              ((λ j. compares c.cmp (int_cmp (left.1 i.0 i.2 j) (right.1 i.0 i.2 j))) ∙ holds i.0 i.2)),
        )

tests_sound : (r : Rule) (places before : List ℕ) (p n : ℕ) (cs : List Comparison)
    → ((v : Valuation) → guard_holds v r.guard.items ≡ true → guard_holds v cs ≡ true)
    → AreTests r places p n (tests_from r before (p ∷ take n places) cs)
tests_sound r places before p n [] holds = tt
tests_sound r places before p n (c ∷ cs) holds =
    by (test_of r before c) (test_of r (p ∷ take n places) c) refl
    (tests_sound r places before p n cs (λ v g. (and_parts (comparison_holds v c) _ (holds v g)).1))
  where
    by : (old new : Option Test) → test_of r (p ∷ take n places) c ≡ new
        → AreTests r places p n (tests_from r before (p ∷ take n places) cs)
        → AreTests r places p n (with_test old new (tests_from r before (p ∷ take n places) cs))
    by (Some t) new e rest = rest
    by None None e rest = rest
    by None (Some t) e rest =
        let is = test_sound r places p n c t (λ v g. (and_parts (comparison_holds v c) _ (holds v g)).0) e in
        (is.0, is.1, is.2, rest)

-- a comparison that never holds is false
never_sound : (v : Valuation) (c : Comparison) → never_holds c ≡ true → comparison_holds v c ≡ false
never_sound v c e = by c.cmp c.left c.right e
  where
    flipped : (b : Bool) → not b ≡ true → b ≡ false
    flipped true e = absurd (let f : false ≡ true = e in cc)
    flipped false e = refl

    none : fails None ≡ true → ⊥
    none e = let f : false ≡ true = e in cc

    by : (k : Cmp) (t u : Term) → fails (fixed_by k t u) ≡ true
        → compares k (int_cmp (term_value v t) (term_value v u)) ≡ false
    by k (term.Constant c) (term.Constant d) e = flipped (compares k (int_cmp c d)) e
    by k (term.Constant c) (term.Variable x) e = absurd (none e)
    by k (term.Variable x) (term.Constant c) e = absurd (none e)
    by k (term.Variable x) (term.Variable y) e = same (nat_eq x y) refl e
      where
        same : (b : Bool) → nat_eq x y ≡ b
            → fails (if b then Some (record { left = Constant (pos 0); cmp = k; right = Constant (pos 0) }) else None)
            ≡ true → compares k (int_cmp (v x) (v y)) ≡ false
        same false f e = absurd (none e)
        same true f e =
            ap (λ z. compares k (int_cmp (v x) (v z))) (sym ((unsigned_Decides x y).0 f))
            ∙ ap (compares k) (tied_itself int_cmp_total (v x)) ∙ flipped (compares k order.Equal) e

-- a guard with a comparison that never holds is false
never_guard : (v : Valuation) (cs : List Comparison) → list_any never_holds cs ≡ true → guard_holds v cs ≡ true → ⊥
never_guard v [] e g = let f : false ≡ true = e in cc
never_guard v (c ∷ cs) e g =
    let w = and_parts (comparison_holds v c) _ g in
    by w.0 (λ h. never_guard v cs h w.1) (never_holds c) refl e
  where
    by : comparison_holds v c ≡ true → (list_any never_holds cs ≡ true → ⊥) → (b : Bool) → never_holds c ≡ b
        → (b || list_any never_holds cs) ≡ true → ⊥
    by holds more true f h = let z : false ≡ true = sym (never_sound v c f) ∙ holds in cc
    by holds more false f h = more h

-- the tests at a place are tests
tests_at_sound : (r : Rule) (places : List ℕ) (p n : ℕ) → AreTests r places p n (tests_at r (p ∷ take n places))
tests_at_sound r places p n = by (never_fires r) refl
  where
    by : (b : Bool) → never_fires r ≡ b
        → AreTests r places p n (if b then no_pass ∷ [] else tests_from r
        (take (length (p ∷ take n places) - 1) (p ∷ take n places)) (p ∷ take n places) r.guard.items)
    by true e = (tt, tt, (λ heads h. absurd (never_guard h.0 r.guard.items e h.2)), tt)
    by false e = tests_sound r places _ p n r.guard.items (λ v g. g)

-- a comparison, told from the other side
turned_order : (k : Cmp) (o : Ordering) → compares (turned k) o ≡ compares k (ordering_reverse o)
turned_order Less order.Less = refl
turned_order Less order.Equal = refl
turned_order Less order.Greater = refl
turned_order AtMost order.Less = refl
turned_order AtMost order.Equal = refl
turned_order AtMost order.Greater = refl
turned_order Greater order.Less = refl
turned_order Greater order.Equal = refl
turned_order Greater order.Greater = refl
turned_order AtLeast order.Less = refl
turned_order AtLeast order.Equal = refl
turned_order AtLeast order.Greater = refl
turned_order Equal order.Less = refl
turned_order Equal order.Equal = refl
turned_order Equal order.Greater = refl
turned_order NotEqual order.Less = refl
turned_order NotEqual order.Equal = refl
turned_order NotEqual order.Greater = refl

turned_holds : (k : Cmp) (x y : ℤ) → compares (turned k) (int_cmp y x) ≡ compares k (int_cmp x y)
turned_holds k x y = turned_order k (int_cmp y x) ∙ ap (compares k) (sym (int_cmp_total.antisymm x y))

limit_sound : (r : Rule) (places : List ℕ) (p n q : ℕ) (c : Comparison) (l : Limit)
    → ((v : Valuation) → guard_holds v r.guard.items ≡ true → comparison_holds v c ≡ true)
    → limit_of r (p ∷ take n places) q c ≡ Some l → IsReady places p n l.source × IsLimit r q l
limit_sound r places p n q c l holds e = first (limit_by c.cmp (own_column r q c.left)
    (direct_source r (p ∷ take n places) c.right)) refl e
  where
    one : (k : Cmp) (t u : Term) → ((v : Valuation) → guard_holds v r.guard.items ≡ true
        → compares k (int_cmp (term_value v t) (term_value v u)) ≡ true)
        → limit_by k (own_column r q t) (direct_source r (p ∷ take n places) u) ≡ Some l → IsReady places p n l.source
        × IsLimit r q l
    one k t u says f = by (own_column r q t) refl (direct_source r (p ∷ take n places) u) refl f
      where
        own : (t : Term) (column : ℕ) → own_column r q t ≡ Some column → term_at r q column ≡ t
        own (term.Variable x) column g =
            let w = column_sound (pattern_at r q).args.items x 0 column g in
            ap (term_at r q) (let h = w.1 in omega (arith, h)) ∙ w.2
        own (term.Constant d) column g = absurd (let z : ◌≡◌ {A = Option ℕ} None (Some column) = g in cc)

        chosen : (b : Bool) (x : Limit) → (if b then None else Some x) ≡ Some l → x ≡ l
        chosen true x h = absurd (let z : ◌≡◌ {A = Option Limit} None (Some l) = h in cc)
        chosen false x h = same_Some x l h

        by : (o : Option ℕ) → own_column r q t ≡ o → (o' : Option Source) → direct_source r (p ∷ take n places) u ≡ o'
            → limit_by k o o' ≡ Some l
            → IsReady places p n l.source × IsLimit r q l
        by None g o' h i = absurd (let z : ◌≡◌ {A = Option Limit} None (Some l) = i in cc)
        by (Some column) g None h i = absurd (let z : ◌≡◌ {A = Option Limit} None (Some l) = i in cc)
        by (Some column) g (Some s) h i =
            let source = direct_sound r places p n u s h in
            subst (λ x. IsReady places p n x.source × IsLimit r q x)
            (chosen (is_equal k) (record { column = column; cmp = k; source = s }) i) (
              source.0,
              λ heads w. (
                  let value : argument (head heads q) column ≡ term_value w.0 t =
                  argument_value r w.0 heads q column w.1 ∙ ap (term_value w.0) (own t column g) in
                  let known : source_value heads s ≡ term_value w.0 u = ap (λ hs. source_value hs s) (sym w.1)
                  ∙ source.1 w.0 w.2 in
                  (λ j. compares k (int_cmp (value j) (known j))) ∙ says w.0 w.2),
            )

    first : (o : Option Limit) → limit_by c.cmp (own_column r q c.left) (direct_source r (p ∷ take n places) c.right)
        ≡ o
        → option_or o (limit_by (turned c.cmp) (own_column r q c.right) (direct_source r (p ∷ take n places) c.left))
        ≡ Some l → IsReady places p n l.source × IsLimit r q l
    first (Some x) f g = one c.cmp c.left c.right holds (f ∙ g)
    first None f g = one (turned c.cmp) c.right c.left
        (λ v h. (turned_holds c.cmp (term_value v c.left) (term_value v c.right) ∙ holds v h)) g

limits_sound : (r : Rule) (places : List ℕ) (p n q : ℕ) (cs : List Comparison)
    → ((v : Valuation) → guard_holds v r.guard.items ≡ true → guard_holds v cs ≡ true)
    → AreLimits r places p n q (limits_from r (p ∷ take n places) q cs)
limits_sound r places p n q [] holds = tt
limits_sound r places p n q (c ∷ cs) holds =
    by (test_of r (p ∷ take n places) c) (limit_of r (p ∷ take n places) q c) refl
    (limits_sound r places p n q cs (λ v g. (and_parts (comparison_holds v c) _ (holds v g)).1))
  where
    by : (old : Option Test) (new : Option Limit) → limit_of r (p ∷ take n places) q c ≡ new
        → AreLimits r places p n q (limits_from r (p ∷ take n places) q cs)
        → AreLimits r places p n q (with_limit old new (limits_from r (p ∷ take n places) q cs))
    by (Some t) new e rest = rest
    by None None e rest = rest
    by None (Some l) e rest =
        let is = limit_sound r places p n q c l (λ v g. (and_parts (comparison_holds v c) _ (holds v g)).0) e in
        (is.0, is.1, rest)

-- ---- the list of partners

-- one more partner, when the ones before it are known
pub longest_more : (r : Rule) (p : ℕ) (ps : List Partner) (l : Partner) → AreLongest r p ps
    → IsLongest r (p ∷ places_of ps) (length (heads_of r)) l → AreLongest r p (ps ++ l ∷ [])
longest_more r p ps l before next j k h here = elim (cases_lt j (length ps)) as (λ _. IsLongest r
    (p ∷ take j (places_of (ps ++ l ∷ []))) (length (heads_of r)) k) [
      | inl less ↦ rw (
        map-append (λ (x : Partner). x.place) ps (l ∷ []),
        take-append-le j (places_of ps) (l.place ∷ [])
            (let n = length-map ps (λ x. x.place) in omega (arith, n, less)),
      )
          (before j k less (sym (get_or_append_left ps (l ∷ []) k j less) ∙ here))
      | inr most ↦ (let n = length-append ps (l ∷ []) in
          let i : j ≡ length ps = omega (arith, h, n, most) in
          let m = length-map ps (λ x. x.place) in
          let same : l ≡ k = sym (get_or-append_seam ps l [] k) ∙ ap (λ i. get_or (ps ++ l ∷ []) i k) (sym i) ∙ here in
          let known : take j (places_of (ps ++ l ∷ [])) ≡ places_of ps =
          ap (take j) (map-append (λ (x : Partner). x.place) ps (l ∷ []))
          ∙ take-append-le j (places_of ps) (l.place ∷ [])
          (omega (arith, m, i)) ∙ take_all j (places_of ps) (omega (arith, m, i)) in
          rw known (subst (IsLongest r (p ∷ places_of ps) (length (heads_of r))) same next))
    ]

-- distinct partners at all places, each a longest one, are a plan
pub is_plan : (r : Rule) (p : ℕ) (ps : List Partner) → AreLongest r p ps → IsDistinct nat_eq (p ∷ places_of ps)
    → ArePlaces r (p ∷ places_of ps)
    → ((q : ℕ) → q < length (heads_of r) → is_in q (p ∷ places_of ps) ≡ true) → IsPlan r p ps
is_plan r p ps longest distinct places all = record {
  covers = λ q l. covered q (in_list (p ∷ places_of ps) q (all q l));
  within = λ j l. place_at r (places_of ps) j places.1 (omega (arith, m, l));
  others = λ j l e. apart (p ∷ places_of ps) 0 (suc j) distinct (omega arith) (omega (arith, m, l)) (sym e);
  once = λ i j h l e. apart (p ∷ places_of ps) (suc i) (suc j) distinct (omega (arith, h)) (omega (arith, m, l)) e;
  keys = λ j l h here. (rw (longest j l h here).key (keys_sound r (places_of ps) p j l.place 0
      (pattern_at r l.place).args.items (λ k g. ap (term_at r l.place) (omega arith))));
  tests = λ j l h here. (rw (longest j l h here).tests (tests_at_sound r (places_of ps) p j));
  limits = λ j l h here. (elim (longest j l h here).limits as (λ _. AreLimits r
      (places_of ps) p j l.place l.limits.items) [
        | inl e ↦ rw e tt
        | inr e ↦ rw e (limits_sound r (places_of ps) p j l.place r.guard.items (λ v g. g))
      ]);
}
  where
    m : length (places_of ps) ≡ length ps
    m = length-map ps (λ x. x.place)

    covered : (q : ℕ) → (j : ℕ) × (j < suc (length (places_of ps))) × (get_or (p ∷ places_of ps) j 0 ≡ q)
        → IsKnown (places_of ps) p (length ps) q
    covered q (zero, l, e) = inl (sym e)
    covered q (suc j, l, e) = inr (j, omega (arith, l, m), e)

-- where there is another partner, there is room for it
pub room : (r : Rule) (known : List ℕ) (l : Partner) → IsDistinct nat_eq known → ArePlaces r known
    → IsLongest r known (length (heads_of r)) l → length known < length (heads_of r)
room r known l distinct places next =
    let n = few r (known ++ l.place ∷ []) (distinct_more known l.place distinct next.new)
    (places_more r known l.place places next.within) in
    let m = length-append known (l.place ∷ []) in
    omega (arith, n, m)

-- the places with one more
pub places_push : (p : ℕ) (ps : List Partner) (l : Partner) → (p ∷ places_of ps) ++ l.place ∷ [] ≡ p
    ∷ places_of (ps ++ l ∷ [])
places_push p ps l = ap (λ xs. p ∷ xs) (sym (map-append (λ (x : Partner). x.place) ps (l ∷ [])))
