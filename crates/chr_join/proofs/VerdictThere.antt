-- Rules that lower a weight are accepted, or refused for a first cause: where the stores of few atoms weigh so little
-- that a derivation's steps can be counted by 64 bits.
use Rattle.std.specs.Prelude.{◌≡◌, ℕ, zero, suc, ◌+◌, ◌^◌, ◌<◌, ◌≤◌, ◌⊎◌, Bool, true, false, cond, List, [], ◌∷◌, ◌++◌}
use Rattle.std.specs.Prelude.{length}
use Rattle.std.specs.List.{All}
use Rattle.std.proofs.Common.{refl, sym, ap, subst, arith, inl, inr, length-append}
use Rattle.std.proofs.lemmas.List.{length-map}
use Rattle.chr_base.specs.declared.atom.Atom.{Atom}
use Rattle.chr_base.specs.declared.rule.Rule.{Rule}
use Rattle.chr_base.specs.declared.derivation.Derivation.{Derivation}
use Rattle.chr_base.specs.declared.derivation.Step.{Step as StepValue}
use Rattle.chr_base.specs.Stores.{Store, size, weight_of}
use Rattle.chr_base.specs.declared.program.Program.{Program}
use Rattle.chr_base.specs.Programs.{rules_of}
use Rattle.chr_base.specs.Rules.{Valuation, atom_at, atoms_at}
use Rattle.chr_base.proofs.Instances.{heads_few}
use Rattle.chr_base.proofs.Made.{vec_of}
use Rattle.chr_base.proofs.Steps.{step_lowers}
use Rattle.chr_base.proofs.Stores.{size_store_of}
use Rattle.chr_types.specs.OrderTypes.{In}
use Rattle.chr_confluence.specs.Cases.{both_heads, case_store}
use Rattle.chr_confluence.specs.Lowering.{RulesLower}
use Rattle.chr_confluence.specs.Matchings.{left_over, names}
use Rattle.chr_confluence.specs.Overlaps.{equations_of}
use Rattle.chr_confluence.specs.Representatives.{guards_hold, left_at, right_at}
use Rattle.chr_confluence.specs.Unifiers.{HasNoUnifier}
use Rattle.chr_confluence.proofs.CaseSteps as confluence
use Rattle.chr_confluence.proofs.Listed.{listed_case}
use Rattle.chr_confluence.proofs.SortedCases.{sorted_case}
use Rattle.chr_overlaps.specs.declared.overlap.Overlap.{Overlap}
use Rattle.chr_overlaps.specs.declared.cases.Case.{Case}
use Rattle.chr_overlaps.specs.CaseLists.{case_at, AreCases, AreListed, IsTooMany}
use Rattle.chr_overlaps.specs.OverlapLists.{AreOverlaps, IsOverlapOf}
use Rattle.chr_overlaps.proofs.CasesThere.{HasCases, cases_there, overlaps_there}
use Rattle.chr_weights.specs.Weights.{ProgramLowers}
use Rattle.chr_weights.proofs.Ranks.{lowers_rank, rank_in, ranks_bounded, store_ranks}
use Rattle.chr_rewrite.specs.Derivations.{IsApplicable}
use Rattle.chr_rewrite.proofs.DerivationLemmas.{LeadsTo-steps}
use Rattle.chr_rewrite.proofs.PlainThere.{leads_on, plain_few, plain_there}
use Rattle.chr_join.specs.declared.coverage.Coverage.TheVariants.{Joint}
use Rattle.chr_join.specs.declared.refused.Cause.{Cause}
use Rattle.chr_join.specs.declared.refused.Cause.TheVariants as cause
use Rattle.chr_join.specs.declared.refused.Failure.{Failure}
use Rattle.chr_join.specs.declared.refused.TooManyTypes.{TooManyTypes}
use Rattle.chr_join.specs.Explanations.{IsSideOf, Explains, ExplainsFirstBy, IsRefusal}
use Rattle.chr_join.specs.Sides.{IsJoinable, SideEnds}
use Rattle.chr_join.specs.Verdicts.{HasJoinableCasesBy, HaveJoinableCasesBy, IsAccepted}
use Rattle.chr_join.proofs.CaseSteps.{CaseLaws, case_steps}
use Rattle.chr_join.proofs.Lists.{picked}
use Rattle.chr_join.specs.Once.{VerdictsExist}
use Rattle.chr_base.proofs.SameStores.{same_or}

case_laws : CaseLaws
case_laws = record {
  cases = listed_case;
  sorted = sorted_case;
  left = λ r1 r2 m v1 v2 case. confluence.left_step r1 r2 m v1 v2 case;
  right = λ r1 r2 m v1 v2 case. confluence.right_step r1 r2 m v1 v2 case;
}

-- ---- lists up to the first that fails

-- x stands in xs behind others that P holds of
record FirstOf {A : Type 0} (P : A → Type 0) (Fails : A → Type 0) (xs : List A) : Type 0 where
  before : List A
  item : A
  after : List A
  whole : xs ≡ before ++ item ∷ after
  passed : All P before
  fails : Fails item

all_none : {A : Type 0} (P : A → Type 0) → All P []
all_none P k d l = absurd (omega (arith, l))

all_more : {A : Type 0} (P : A → Type 0) (x : A) (xs : List A) → P x → All P xs → All P (x ∷ xs)
all_more P x xs h all zero d l = h
all_more P x xs h all (suc k) d l = all k d (omega (arith, l))

first_of : {A : Type 0} (P : A → Type 0) (Fails : A → Type 0) (xs : List A) → ((x : A) → In x xs → P x ⊎ Fails x)
    → All P xs ⊎ FirstOf P Fails xs
first_of P Fails [] test = inl (all_none P)
first_of P Fails (x ∷ xs) test = by (test x (inl refl)) (first_of P Fails xs (λ y i. test y (inr i)))
  where
    by : P x ⊎ Fails x → All P xs ⊎ FirstOf P Fails xs → All P (x ∷ xs) ⊎ FirstOf P Fails (x ∷ xs)
    by (inr bad) more = inr (record {
      before = [];
      item = x;
      after = xs;
      whole = refl;
      passed = all_none P;
      fails =
          bad;
    })
    by (inl good) (inl all) = inl (all_more P x xs good all)
    by (inl good) (inr w) = inr (record {
      before = x ∷ w.before;
      item = w.item;
      after = w.after;
      whole =
          ap (λ ys. x ∷ ys) w.whole;
      passed = all_more P x w.before good w.passed;
      fails = w.fails;
    })

-- ---- cases have few atoms

left_few : (m : List ℕ) (k : ℕ) (bs : List Atom) → length (left_over m k bs) ≤ length bs
left_few m k [] = omega arith
left_few m k (b ∷ bs) = by (names m (suc k)) (left_few m (suc k) bs)
  where
    by : (t : Bool) → length (left_over m (suc k) bs) ≤ length bs
        → length (cond t (left_over m (suc k) bs) (b ∷ left_over m (suc k) bs)) ≤ suc (length bs)
    by true l = omega (arith, l)
    by false l = omega (arith, l)

few_heads : (r : Rule) (v : Valuation) → length (both_heads r v) ≤ 4
few_heads r v =
    let a = heads_few r in
    let b = length-append r.kept.items r.removed.items in
    let c = length-map r.kept.items (atom_at v) in
    let d = length-map r.removed.items (atom_at v) in
    let e = length-append (atoms_at v r.kept.items) (atoms_at v r.removed.items) in
    omega (arith, a, b, c, d, e)

case_few : (r1 r2 : Rule) (m : List ℕ) (v1 v2 : Valuation) → size (case_store r1 r2 m v1 v2) ≤ 8
case_few r1 r2 m v1 v2 =
    let n = size_store_of (both_heads r1 v1 ++ left_over m 0 (both_heads r2 v2)) in
    let a = length-append (both_heads r1 v1) (left_over m 0 (both_heads r2 v2)) in
    let b = few_heads r1 v1 in
    let c = few_heads r2 v2 in
    let d = left_few m 0 (both_heads r2 v2) in
    omega (arith, n, a, b, c, d)

listed_few : (rules : List Rule) (o : Overlap) (cs : List Case) → AreCases rules o cs → (c : Case) → In c cs
    → size c.store ≤ 8
listed_few rules o cs is c i = by is.listed
  where
    by : (HasNoUnifier (equations_of is.rule1 is.rule2 o.matching.items) × (cs ≡ []))
        ⊎ AreListed rules o is.rule1 is.rule2 cs → size c.store ≤ 8
    by (inl n) = absurd (subst (In c) n.1 i)
    by (inr l) =
        let at = picked (case_at o is.rule1 is.rule2 l.classes) (guards_hold l.classes is.rule1 is.rule2)
        l.representatives c (subst (In c) l.cases_are i) in
        subst (λ (x : Case). size x.store ≤ 8) at.3 (case_few is.rule1 is.rule2 o.matching.items
        (left_at l.classes is.rule1 is.rule2 at.0) (right_at l.classes is.rule1 is.rule2 at.0))

-- ---- the verdict

-- accepted, or refused for a case that fails or for too many order types
abbrev pub HasVerdict : List Rule → Type 0
HasVerdict rules = ((n : ℕ) × IsAccepted rules n) ⊎ (((f : Failure) × IsRefusal rules (cause.Fails f))
    ⊎ ((t : TooManyTypes) × IsRefusal rules (cause.TooManyTypes t)))

module _ (rules : List Rule) (w : Atom → ℕ) (lowers : RulesLower w rules)
    (light : (s : Store) → size s ≤ 8 → weight_of w s < 2 ^ 63) where
  -- a side's end, with its derivation
  side_there : (s : Store) (st : StepValue) → size s ≤ 8 → IsApplicable rules s st → (d : Derivation) × (t : Store)
      × IsSideOf rules s st d t
  side_there s st few at =
      let u = leads_on rules s st at in
      let p = plain_there rules w lowers u.0 in
      let n = plain_few rules w lowers p.0 u.0 p.1 p.2.0 in
      let l = step_lowers w rules lowers s u.0 (LeadsTo-steps rules st s u.0 u.1) in
      let m = light s few in (
        record { start = s; steps = vec_of (st ∷ p.0) (omega (arith, n, l, m)) },
        p.1,
        record { start = refl; rest = p.0; steps = refl {A = List StepValue}; runs = (u.0, u.1, p.2) },
      )

  abbrev Unjoined : Overlap → Case → Type 0
  Unjoined o c = (f : Failure) × (f.overlap ≡ o) × Explains rules c f

  case_or : (o : Overlap) (c : Case) → size c.store ≤ 8 → IsApplicable rules c.store c.left
      × IsApplicable rules c.store c.right → IsJoinable rules c ⊎ Unjoined o c
  case_or o c few at =
      let x = side_there c.store c.left few at.0 in
      let y = side_there c.store c.right few at.1 in
      elim (same_or x.1 y.1) as (λ _. IsJoinable rules c ⊎ Unjoined o c) [
        | inl e ↦ inl (record {
          end = y.1;
          left = subst (SideEnds rules c.store c.left) e (x.2.rest, x.2.runs);
          right =
              (y.2.rest, y.2.runs);
        })
        | inr n ↦ inr (
          record { overlap = o; left = x.0; left_end = x.1; right = y.0; right_end = y.1 },
          refl,
          record { left = x.2; right = y.2; differ = n },
        )
      ]

  abbrev Refuses : Overlap → Type 0
  Refuses o = ((f : Failure) × (f.overlap ≡ o) × ExplainsFirstBy Joint rules f) ⊎ ((n : ℕ) × IsTooMany rules o n)

  abbrev Joins : Overlap → Type 0
  Joins o = (n : ℕ) × HasJoinableCasesBy Joint rules o n

  first_case : (o : Overlap) (cs : List Case) → AreCases rules o cs → FirstOf (IsJoinable rules) (Unjoined o) cs
      → Refuses o
  first_case o cs is x =
      let f = x.fails in inl (
        f.0,
        f.1,
        record {
          case = x.item;
          first = record {
            before = x.before;
            after = x.after;
            listed =
                subst (λ p. AreCases rules p (x.before ++ x.item ∷ x.after)) (sym f.1)
                (subst (AreCases rules o) x.whole is);
            joinable = x.passed;
          };
          explains = f.2;
        },
      )

  overlap_or : (o : Overlap) → IsOverlapOf rules o → Joins o ⊎ Refuses o
  overlap_or o h = by (cases_there rules o h)
    where
      over : (cs : List Case) → AreCases rules o cs → All (IsJoinable rules) cs
          ⊎ FirstOf (IsJoinable rules) (Unjoined o) cs → Joins o ⊎ Refuses o
      over cs is (inl all) = inl (length cs, record { cases = cs; listed = is; joinable = all; number = refl })
      over cs is (inr x) = inr (first_case o cs is x)

      by : HasCases rules o → Joins o ⊎ Refuses o
      by (inl c) = over c.0 c.1 (first_of (IsJoinable rules) (Unjoined o) c.0
          (λ x i. case_or o x (listed_few rules o c.0 c.1 x i) (case_steps case_laws Joint rules o c.0 h c.1 x i)))
      by (inr m) = inr (inr m)

  -- how many cases all of them have
  counted : (os : List Overlap) → All Joins os → (n : ℕ) × HaveJoinableCasesBy Joint rules os n
  counted [] all = (0, refl)
  counted (o ∷ os) all =
      let h = all 0 o (omega arith) in
      let more = counted os (λ k d l. all (suc k) d (omega (arith, l))) in
      (h.0 + more.0, (h.0, more.0, h.1, more.1, refl))

  first_cause : (os : List Overlap) → AreOverlaps rules os → FirstOf Joins Refuses os → HasVerdict rules
  first_cause os are x = by x.fails
    where
      listed : AreOverlaps rules (x.before ++ x.item ∷ x.after)
      listed = subst (AreOverlaps rules) x.whole are

      by : Refuses x.item → HasVerdict rules
      by (inl f) = inr (inl (
        f.0,
        (
          record {
            before = x.before;
            after = x.after;
            listed =
                subst (λ o. AreOverlaps rules (x.before ++ o ∷ x.after)) (sym f.1) listed;
            joinable = x.passed;
          },
          f.2,
        ),
      ))
      by (inr m) = inr (inr (
        record { overlap = x.item; classes = m.0 },
        (record { before = x.before; after = x.after; listed = listed; joinable = x.passed }, m.1),
      ))

  verdict_there : HasVerdict rules
  verdict_there = by (overlaps_there rules)
    where
      over : (os : List Overlap) → AreOverlaps rules os → All Joins os ⊎ FirstOf Joins Refuses os → HasVerdict rules
      over os are (inl all) = let c = counted os all in
          inl (c.0, record { overlaps = os; listed = are; joinable = c.1 })
      over os are (inr x) = first_cause os are x

      by : (os : List Overlap) × AreOverlaps rules os → HasVerdict rules
      by os = over os.0 os.1 (first_of Joins Refuses os.0 (λ o i. overlap_or o (os.1.each o i)))

-- ---- programs

-- a store of few atoms has a rank of 64 bits
light_store : (p : Program) (s : Store) → size s ≤ 8 → weight_of (rank_in p) s < 2 ^ 63
light_store p s few =
    let a = store_ranks p s in
    let b = ranks_bounded p s in
    omega (arith, a, b, few)

pub program_verdict : (p : Program) → ProgramLowers p → HasVerdict (rules_of p)
program_verdict p lowers = verdict_there (rules_of p) (rank_in p) (lowers_rank p lowers) (light_store p)

-- the cause tells an overlap
IsTold : Cause → Type 0
IsTold (cause.Fails f) = Unit {0}
IsTold (cause.TooManyTypes t) = Unit {0}
IsTold cause.Memory = ⊥

not_memory : (e : Cause) → IsTold e → ¬ (e ≡ cause.Memory)
unfolding IsTold
not_memory e h m = subst IsTold m h

pub verdicts_exist : VerdictsExist
unfolding IsTold
verdicts_exist p lowers = elim (program_verdict p lowers) as (λ _. ((n : ℕ) × IsAccepted (rules_of p) n)
    ⊎ ((e : Cause) × IsRefusal (rules_of p) e × (¬ (e ≡ cause.Memory)))) [
      | inl v ↦ inl v
      | inr r ↦ elim r as (λ _. ((n : ℕ) × IsAccepted (rules_of p) n)
          ⊎ ((e : Cause) × IsRefusal (rules_of p) e × (¬ (e ≡ cause.Memory)))) [
            | inl f ↦ inr (cause.Fails f.0, f.1, not_memory (cause.Fails f.0) tt)
            | inr t ↦ inr (cause.TooManyTypes t.0, t.1, not_memory (cause.TooManyTypes t.0) tt)
          ]
    ]
