-- Steps one after another.
use mathlib.Core.Bool.{true≢false}
use Rattle.std.proofs.Common.{◌≡◌, ℕ, ◌+◌, ◌<◌, ◌≤◌, false, List, [], map, inl, inr, ◌⊎◌, refl, sym, subst, ◌∙◌, arith}
use Rattle.std.specs.Prelude.{Bool, true, ◌==◌}
use Rattle.std.proofs.lemmas.Bool.{cases_lt, eqb-true, eq-eqb}
use Rattle.std.specs.Prelude.{Result, Ok, Err, IfOk, IfErr}
use Rattle.chr_base.specs.declared.atom.Atom.{Atom}
use Rattle.chr_base.specs.declared.rule.Rule.{Rule}
use Rattle.chr_base.specs.FinBag.{◌⊕◌}
use Rattle.chr_base.specs.Rewriting.{Runs, IsAtRest}
use Rattle.chr_base.specs.Rules.{Step}
use Rattle.chr_base.specs.Sameness.{parts_of}
use Rattle.chr_base.specs.Stores.{Store, store_of}
use Rattle.chr_base.proofs.Rewriting.{Runs-append}
use Rattle.chr_base.proofs.SameSteps.{same_runs}
use Rattle.chr_columns.specs.Stepping.{StepsOrStays}
use Rattle.chr_columns.specs.declared.stepping.Stopped.{Stopped}
use Rattle.chr_columns.proofs.Pools.{all_rest}

-- a run with one step more behind it
pub run_on : (rules : List Rule) (n : ℕ) (s t u : Store) → Runs (Step rules) n s t → Step rules t u
    → Runs (Step rules) (n + 1) s u
run_on rules n s t u h st = Runs-append (Step rules) n 1 s t u h (u, st, refl)

-- a run ends in whatever store is the same as its end
pub run_to : (rules : List Rule) (n : ℕ) (s t u : Store) → Runs (Step rules) n s t → u ≡ t → Runs (Step rules) n s u
run_to rules n s t u h e = rw e h

-- under rules that say the same, from the same store
pub run_under : (own rules : List Rule) (n : ℕ) (s before t : Store) → map parts_of own ≡ map parts_of rules
    → s ≡ before
    → Runs (Step own) n s t → Runs (Step rules) n before t
run_under own rules n s before t e same h = subst (λ x. Runs (Step rules) n x t) same (same_runs own rules n s t e h)

-- a run under a pool's own rules, as many steps as were told, is one under rules that say the same
module _ (own rules : List Rule) (e : map parts_of own ≡ map parts_of rules) where
  pub ok_under : {E : Type 0} (o : Result ℕ E) (s before t : Store) → s ≡ before → IfOk o (λ n. Runs (Step own) n s t)
      → IfOk o (λ n. Runs (Step rules) n before t)
  ok_under (Ok n) s before t same h = run_under own rules n s before t e same h
  ok_under (Err x) s before t same h = h

  pub stopped_under : (o : Result ℕ Stopped) (s before t : Store) → s ≡ before
      → IfErr o (λ x. Runs (Step own) x.steps s t) → IfErr o (λ x. Runs (Step rules) x.steps before t)
  stopped_under (Ok n) s before t same h = h
  stopped_under (Err x) s before t same h = run_under own rules x.steps s before t e same h

  pub rests_under : {E : Type 0} (o : Result ℕ E) (most : ℕ) (rested : Store) (xs : List Atom)
      → IsAtRest (Step own) rested
      → IfOk o (λ n. n < most → xs ≡ []) → IfOk o (λ n. n < most → IsAtRest (Step rules) (rested ⊕ store_of xs))
  rests_under (Ok n) most rested xs rest h = λ l. all_rest own rules rested (rested ⊕ store_of xs) xs e rest (h l) refl
  rests_under (Err x) most rested xs rest h = h

-- at most one step was taken
module _ (rules : List Rule) (n : ℕ) (s t : Store) (few : n ≤ 1) (h : Runs (Step rules) n s t) where
  pub steps_or_stays : (n < 1 → IsAtRest (Step rules) t) → StepsOrStays rules s t (n == 1)
  steps_or_stays rest = by (n == 1) refl
    where
      none : (n == 1) ≡ false → (n < 1) ⊎ (1 ≤ n) → n ≡ 0
      none e (inl less) = omega (arith, less)
      none e (inr most) = absurd (true≢false (sym (eq-eqb n 1 (omega (arith, few, most))) ∙ e))

      by : (b : Bool) → (n == 1) ≡ b → StepsOrStays rules s t b
      by true e =
          let r : Runs (Step rules) 1 s t = subst (λ m. Runs (Step rules) m s t) (eqb-true n 1 e) h in
          subst (λ x. Step rules s x) r.2 r.1
      by false e =
          let no : n ≡ 0 = none e (cases_lt n 1) in
          let same : s ≡ t = subst (λ m. Runs (Step rules) m s t) no h in
          (sym same, subst (λ x. IsAtRest (Step rules) x) (sym same) (rest (omega (arith, no))))
