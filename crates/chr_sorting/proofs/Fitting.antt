-- The notes of a rule are met just where sorts fit it.
use Rattle.std.specs.Prelude.{◌≡◌, ℕ, suc, ◌+◌, ◌<◌, ◌≤◌, ℤ, Bool, true, false, cond, nat_eq, List, [], ◌∷◌, ◌++◌, map}
use Rattle.std.specs.Prelude.{length}
use Rattle.std.specs.List.{flat_map}
use Rattle.std.proofs.Common.{refl, sym, ap, subst, ◌∙◌, arith, inl, inr}
use Rattle.std.proofs.lemmas.Bool.{eqb-true, eqb-false}
use Rattle.std.proofs.lemmas.List.{map-append}
use Rattle.chr_base.specs.declared.limits.TheConstants.{MAX_ARITY}
use Rattle.chr_base.specs.declared.term.Term.{Term}
use Rattle.chr_base.specs.declared.term.Term.TheVariants.{Variable, Constant}
use Rattle.chr_base.specs.declared.term.Cmp.{Cmp}
use Rattle.chr_base.specs.declared.term.Comparison.{Comparison}
use Rattle.chr_base.specs.declared.term.Pattern.{Pattern}
use Rattle.chr_base.specs.declared.rule.Rule.{Rule}
use Rattle.chr_base.specs.RuleTests.{is_variable, is_bound_in, terms_of}
use Rattle.chr_base.specs.Rules.{heads_of}
use Rattle.chr_base.proofs.Instances.{body_known}
use Rattle.chr_types.specs.OrderTypes.{In}
use Rattle.chr_types.proofs.Members.{in_first, in_second, in_either}
use Rattle.chr_confluence.proofs.Frees.{in_map}
use Rattle.chr_confluence.proofs.Numbered.{occurs_in, in_occurs}
use Rattle.chr_confluence.specs.Sorts.{Sorts, tells, terms_from, sorted_terms, sorted_rule_terms, first_sort, sort_of}
use Rattle.chr_confluence.specs.Sorts.{FitComparison, FitRule}
use Rattle.chr_confluence.proofs.SortPlaces.{term_at, term_in}
use Rattle.chr_confluence.proofs.SortMoves.{bound_in}
use Rattle.chr_confluence.proofs.SortEquations.{in_mapped, guard_bound}
use Rattle.chr_sorting.specs.declared.notes.Note.{Note}
use Rattle.chr_sorting.specs.declared.notes.Note.TheVariants.{Joined, Stands, Compared}
use Rattle.chr_sorting.specs.FinestSorts.{AreShort, position_of}
use Rattle.chr_sorting.specs.working.Notes.{numbering, placed_heads, note_at, term_note, bound_notes, comparison_notes}
use Rattle.chr_sorting.specs.working.Notes.{guard_notes, rule_notes}

-- the sorts o, which take the position of number n to f n, meet the note
abbrev pub MeetsNote : Sorts → (ℕ → ℕ) → Note → Type 0
MeetsNote o f (Joined p q) = f p ≡ f q
MeetsNote o f (Stands p c) = In c (o.constants (f p))
MeetsNote o f (Compared p s) = tells (o.kind (f p)) s ≡ true

-- ---- members of a map over lists

pub in_flat : {A B : Type 0} (f : A → List B) (y : B) (xs : List A) → In y (flat_map f xs) → (x : A) × In x xs
    × In y (f x)
in_flat f y [] i = absurd i
in_flat {A} f y (x ∷ xs) i = elim (in_either y (f x) (flat_map f xs) i) as (λ _. (z : A) × In z (x ∷ xs) × In y (f z)) [
  | inl h ↦ (x, inl refl, h)
  | inr h ↦ (let w = in_flat f y xs h in (w.0, inr w.1, w.2))
]

pub flat_in : {A B : Type 0} (f : A → List B) (y : B) (x : A) (xs : List A) → In x xs → In y (f x)
    → In y (flat_map f xs)
flat_in f y x [] i h = absurd i
flat_in f y x (z ∷ xs) (inl e) h = in_first y (f z) (flat_map f xs) (subst (λ v. In y (f v)) e h)
flat_in f y x (z ∷ xs) (inr i) h = in_second y (f z) (flat_map f xs) (flat_in f y x xs i h)

-- ---- a variable's first position

module _ (o : Sorts) (f : ℕ → ℕ) (same : (s k : ℕ) → k < MAX_ARITY → o.sort s k ≡ f (position_of s k)) where
  abbrev moved : ℕ × Term → ℕ × Term
  moved q = (f q.0, q.1)

  arguments_moved : (s k : ℕ) (ts : List Term) → k + length ts ≤ MAX_ARITY → terms_from (o.sort s) k ts
      ≡ map moved (terms_from (position_of s) k ts)
  arguments_moved s k [] l = refl
  arguments_moved s k (t ∷ ts) l =
      let here = same s k (omega (arith, l)) in
      let more = arguments_moved s (suc k) ts (omega (arith, l)) in
      λ i. (here i, t) ∷ more i

  pub terms_moved : (ps : List Pattern) → AreShort ps → sorted_terms o ps ≡ map moved (sorted_terms numbering ps)
  terms_moved [] short = refl
  terms_moved (p ∷ ps) short =
      let l = short p (inl refl) in
      let here = arguments_moved p.symbol.0 0 p.args.items (omega (arith, l)) in
      let more = terms_moved ps (λ q i. short q (inr i)) in
      (λ i. here i ++ more i) ∙ sym (map-append moved (terms_from (position_of p.symbol.0) 0 p.args.items)
      (sorted_terms numbering ps))

  pub first_moved : (qs : List (ℕ × Term)) (p x : ℕ) → In (p, Variable x) qs → first_sort (map moved qs) x
      ≡ f (first_sort qs x)
  first_moved [] p x i = absurd i
  first_moved (q ∷ qs) p x i = elim (is_variable x q.1) as (λ b. is_variable x q.1 ≡ b
      → cond b (f q.0) (first_sort (map moved qs) x) ≡ f (cond b q.0 (first_sort qs x))) [
        | true ↦ λ e. refl
        | false ↦ λ e. first_moved qs p x (elim i as (λ _. In (p, Variable x) qs) [
          | inl h ↦ absurd (let t : Variable x ≡ q.1 = ap (λ (z : ℕ × Term). z.1) h in
              let n : is_variable x (Variable x) ≡ false = ap (is_variable x) t ∙ e in own x n)
          | inr h ↦ h
        ])
      ] refl
    where
      own : (y : ℕ) → nat_eq y y ≡ false → ⊥
      own y n = eqb-false y y n refl

  -- ---- the notes of a rule that the sorts fit

  module _ (r : Rule) (heads_short : AreShort (heads_of r)) (body_short : AreShort r.body.items) where
    abbrev hs : List (ℕ × Term)
    hs = placed_heads r

    sort_moved : (x : ℕ) → In (Variable x) (terms_of (heads_of r)) → sort_of o r x ≡ f (first_sort hs x)
    sort_moved x i =
        let w = term_at numbering (heads_of r) (Variable x) i in
        ap (λ qs. first_sort qs x) (terms_moved (heads_of r) heads_short) ∙ first_moved hs w.0 x w.1

    -- a term of a part of the rule, with its number
    placed : (ps : List Pattern) → AreShort ps → (k : ℕ) (t : Term) → In (k, t) (sorted_terms o ps) → (p : ℕ)
        × In (p, t) (sorted_terms numbering ps) × (k ≡ f p)
    placed ps short k t i =
        let w = in_map moved (k, t) (sorted_terms numbering ps) (subst (In (k, t)) (terms_moved ps short) i) in
        let e : t ≡ w.0.1 = ap (λ (z : ℕ × Term). z.1) w.2 in
        (w.0.0, subst (λ u. In (w.0.0, u) (sorted_terms numbering ps)) (sym e) w.1, ap (λ (z : ℕ × Term). z.0) w.2)

    sorted : (ps : List Pattern) → AreShort ps → (p : ℕ) (t : Term) → In (p, t) (sorted_terms numbering ps)
        → In (f p, t) (sorted_terms o ps)
    sorted ps short p t i = subst (In (f p, t)) (sym (terms_moved ps short))
        (in_mapped moved (p, t) (sorted_terms numbering ps) i)

    bound_stands : (x : ℕ) → is_bound_in (heads_of r) (Variable x) ≡ true → In (Variable x) (terms_of (heads_of r))
    bound_stands x h = occurs_in x (heads_of r) h

    body_stands : (p x : ℕ) → In (p, Variable x) (sorted_terms numbering r.body.items)
        → In (Variable x) (terms_of (heads_of r))
    body_stands p x i = bound_stands x (bound_in (heads_of r) r.body.items (body_known r) (Variable x)
        (term_in numbering r.body.items p (Variable x) i))

    head_stands : (p x : ℕ) → In (p, Variable x) hs → In (Variable x) (terms_of (heads_of r))
    head_stands p x i = term_in numbering (heads_of r) p (Variable x) i

    -- ---- sorts that meet the notes fit

    module _ (met : (n : Note) → In n (rule_notes r) → MeetsNote o f n) where
      head_met : (p : ℕ) (t : Term) → In (p, t) hs → MeetsNote o f (note_at hs p t)
      head_met p t i = met (note_at hs p t) (in_first _
          (map (term_note hs) hs ++ map (term_note hs) (sorted_terms numbering r.body.items))
          (guard_notes hs r.guard.items)
          (in_first _ (map (term_note hs) hs) (map (term_note hs) (sorted_terms numbering r.body.items))
          (in_mapped (term_note hs) (p, t) hs i)))

      body_met : (p : ℕ) (t : Term) → In (p, t) (sorted_terms numbering r.body.items) → MeetsNote o f (note_at hs p t)
      body_met p t i = met (note_at hs p t) (in_first _
          (map (term_note hs) hs ++ map (term_note hs) (sorted_terms numbering r.body.items))
          (guard_notes hs r.guard.items)
          (in_second _ (map (term_note hs) hs) (map (term_note hs) (sorted_terms numbering r.body.items))
          (in_mapped (term_note hs) (p, t) (sorted_terms numbering r.body.items) i)))

      guard_met : (c : Comparison) → In c r.guard.items → (n : Note) → In n (comparison_notes hs c.cmp c.left c.right)
          → MeetsNote o f n
      guard_met c i n j = met n (in_second n (map (term_note hs) hs
          ++ map (term_note hs) (sorted_terms numbering r.body.items)) (guard_notes hs r.guard.items)
          (flat_in (λ (d : Comparison). comparison_notes hs d.cmp d.left d.right) n c r.guard.items i j))

      fit_comparison : (s : Cmp) (t u : Term) → is_bound_in (heads_of r) t ≡ true → is_bound_in (heads_of r) u ≡ true
          → ((n : Note) → In n (comparison_notes hs s t u) → MeetsNote o f n) → FitComparison o (sort_of o r) s t u
      fit_comparison s (Variable x) (Variable y) b1 b2 m =
          let one = sort_moved x (bound_stands x b1) in
          let other = sort_moved y (bound_stands y b2) in (
            one ∙ m (Joined (first_sort hs x) (first_sort hs y)) (inl refl)
                ∙ sym other,
            λ n. rw one (told (nat_eq x y) refl n m),
          )
        where
          told : (b : Bool) → nat_eq x y ≡ b → ¬ (x ≡ y)
              → ((n : Note) → In n (Joined (first_sort hs x) (first_sort hs y) ∷ cond b []
              (Compared (first_sort hs x) s ∷ [])) → MeetsNote o f n) → tells (o.kind (f (first_sort hs x))) s ≡ true
          told true e n m = absurd (n (eqb-true x y e))
          told false e n m = m (Compared (first_sort hs x) s) (inr (inl refl))
      fit_comparison s (Variable x) (Constant d) b1 b2 m =
          let one = sort_moved x (bound_stands x b1) in (
            rw one (m (Stands (first_sort hs x) d) (inl refl)),
            rw one (m (Compared (first_sort hs x) s) (inr (inl refl))),
          )
      fit_comparison s (Constant d) (Variable x) b1 b2 m =
          let one = sort_moved x (bound_stands x b2) in (
            rw one (m (Stands (first_sort hs x) d) (inl refl)),
            rw one (m (Compared (first_sort hs x) s) (inr (inl refl))),
          )
      fit_comparison s (Constant d) (Constant e) b1 b2 m = tt

      pub fits_rule : FitRule o r
      fits_rule = record {
        variables = λ k x i. elim (in_either (k, Variable x) (sorted_terms o (heads_of r))
            (sorted_terms o r.body.items) i) as (λ _. k ≡ sort_of o r x) [
              | inl j ↦ (let w = placed (heads_of r) heads_short k (Variable x) j in w.2 ∙ head_met w.0 (Variable x) w.1
                  ∙ sym (sort_moved x (head_stands w.0 x w.1)))
              | inr j ↦ (let w = placed r.body.items body_short k (Variable x) j in w.2 ∙ body_met w.0 (Variable x) w.1
                  ∙ sym (sort_moved x (body_stands w.0 x w.1)))
            ];
        constants = λ k c i. elim (in_either (k, Constant c) (sorted_terms o (heads_of r))
            (sorted_terms o r.body.items) i) as (λ _. In c (o.constants k)) [
              | inl j ↦ (let w = placed (heads_of r) heads_short k (Constant c) j in
                  subst (λ n. In c (o.constants n)) (sym w.2) (head_met w.0 (Constant c) w.1))
              | inr j ↦ (let w = placed r.body.items body_short k (Constant c) j in
                  subst (λ n. In c (o.constants n)) (sym w.2) (body_met w.0 (Constant c) w.1))
            ];
        compared = λ c i. (let b = guard_bound r c i in fit_comparison c.cmp c.left c.right b.0 b.1 (guard_met c i));
      }

    -- ---- sorts that fit meet the notes

    module _ (fit : FitRule o r) where
      term_meets : (p : ℕ) (t : Term) → In (f p, t) (sorted_rule_terms o r) → is_bound_in (heads_of r) t ≡ true
          → MeetsNote o f (note_at hs p t)
      term_meets p (Variable x) i b = fit.variables (f p) x i ∙ sort_moved x (bound_stands x b)
      term_meets p (Constant c) i b = fit.constants (f p) c i

      head_bound : (p : ℕ) (t : Term) → In (p, t) hs → is_bound_in (heads_of r) t ≡ true
      head_bound p (Variable x) i = in_occurs x (heads_of r) (term_in numbering (heads_of r) p (Variable x) i)
      head_bound p (Constant c) i = refl

      bound_meets : (x : ℕ) (s : Cmp) (d : ℤ) → sort_of o r x ≡ f (first_sort hs x) → In d (o.constants (sort_of o r x))
          → tells (o.kind (sort_of o r x)) s ≡ true → (n : Note) → In n (bound_notes (first_sort hs x) s d)
          → MeetsNote o f n
      bound_meets x s d one h k n (inl e) = subst (MeetsNote o f) (sym e) (subst (λ m. In d (o.constants m)) one h)
      bound_meets x s d one h k n (inr (inl e)) = subst (MeetsNote o f) (sym e)
          (subst (λ m. tells (o.kind m) s ≡ true) one k)
      bound_meets x s d one h k n (inr (inr e)) = absurd e

      comparison_meets : (s : Cmp) (t u : Term) → is_bound_in (heads_of r) t ≡ true → is_bound_in (heads_of r) u ≡ true
          → FitComparison o (sort_of o r) s t u → (n : Note) → In n (comparison_notes hs s t u) → MeetsNote o f n
      comparison_meets s (Variable x) (Variable y) b1 b2 h n i =
          let one = sort_moved x (bound_stands x b1) in
          let other = sort_moved y (bound_stands y b2) in
          elim i as (λ _. MeetsNote o f n) [
            | inl e ↦ subst (MeetsNote o f) (sym e) (sym one ∙ h.0 ∙ other)
            | inr j ↦ told (nat_eq x y) refl one j
          ]
        where
          told : (b : Bool) → nat_eq x y ≡ b → sort_of o r x ≡ f (first_sort hs x)
              → In n (cond b [] (Compared (first_sort hs x) s ∷ [])) → MeetsNote o f n
          told true e one j = absurd j
          told false e one j = elim j as (λ _. MeetsNote o f n) [
            | inl q ↦ subst (MeetsNote o f) (sym q) (subst (λ m. tells (o.kind m) s ≡ true) one (h.1 (eqb-false x y e)))
            | inr q ↦ absurd q
          ]
      comparison_meets s (Variable x) (Constant d) b1 b2 h n i =
          bound_meets x s d (sort_moved x (bound_stands x b1)) h.0 h.1 n i
      comparison_meets s (Constant d) (Variable x) b1 b2 h n i =
          bound_meets x s d (sort_moved x (bound_stands x b2)) h.0 h.1 n i
      comparison_meets s (Constant d) (Constant e) b1 b2 h n i = absurd i

      pub meets_notes : (n : Note) → In n (rule_notes r) → MeetsNote o f n
      meets_notes n i = elim (in_either n (map (term_note hs) hs
          ++ map (term_note hs) (sorted_terms numbering r.body.items)) (guard_notes hs r.guard.items) i) as (λ _.
          MeetsNote o f n) [
            | inl j ↦ elim (in_either n (map (term_note hs) hs)
                (map (term_note hs) (sorted_terms numbering r.body.items))
                j) as (λ _. MeetsNote o f n) [
                  | inl k ↦ (let w = in_map (term_note hs) n hs k in
                      subst (MeetsNote o f) (sym w.2) (term_meets w.0.0 w.0.1
                      (in_first _ (sorted_terms o (heads_of r)) (sorted_terms o r.body.items)
                      (sorted (heads_of r) heads_short w.0.0 w.0.1 w.1)) (head_bound w.0.0 w.0.1 w.1)))
                  | inr k ↦ (let w = in_map (term_note hs) n (sorted_terms numbering r.body.items) k in
                      subst (MeetsNote o f) (sym w.2) (term_meets w.0.0 w.0.1
                      (in_second _ (sorted_terms o (heads_of r)) (sorted_terms o r.body.items)
                      (sorted r.body.items body_short w.0.0 w.0.1 w.1))
                      (bound_in (heads_of r) r.body.items (body_known r) w.0.1
                      (term_in numbering r.body.items w.0.0 w.0.1 w.1))))
                ]
            | inr j ↦ (let w = in_flat (λ (d : Comparison). comparison_notes hs d.cmp d.left d.right) n r.guard.items
                j in
                let b = guard_bound r w.0 w.1 in comparison_meets w.0.cmp w.0.left w.0.right b.0 b.1
                (fit.compared w.0 w.1) n w.2)
          ]
