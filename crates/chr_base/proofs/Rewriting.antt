-- Laws of runs, and Newman's lemma for a relation that lowers a weight.
use Rattle.std.specs.Prelude.{◌≡◌, ℕ, zero, suc, ◌+◌, ◌<◌, ◌≤◌, List, [], ◌∷◌}
use Rattle.std.proofs.Common.{refl, sym, ap, ◌∙◌, arith, inl, inr}
use Rattle.chr_base.specs.Rewriting.{Runs, Reaches, IsAtRest, IsNormalForm, IsConfluent, IsLocallyConfluent, Stays}
use Rattle.chr_base.specs.Rewriting.{Lowers, StepsOrRests, Grows, sum_of, AreNormalForms}

module _ {A : Type 0} (step : A → A → Type 0) where
  pub reaches_itself : (s : A) → Reaches step s s
  reaches_itself s = (0, refl)

  pub reaches_after : (s t u : A) → step s t → Reaches step t u → Reaches step s u
  reaches_after s t u h r = (suc r.0, (t, h, r.1))

  pub Runs-append : (m n : ℕ) (s t u : A) → Runs step m s t → Runs step n t u → Runs step (m + n) s u
  Runs-append zero n s t u p q = rw p (let e : 0 + n ≡ n = omega arith in rw e q)
  Runs-append (suc m) n s t u p q = let e : suc m + n ≡ suc (m + n) = omega arith in
      rw e (p.0, p.1, Runs-append m n p.0 t u p.2 q)

  pub reaches_on : (s t u : A) → Reaches step s t → Reaches step t u → Reaches step s u
  reaches_on s t u p q = (p.0 + q.0, Runs-append p.0 q.0 s t u p.1 q.1)

  pub rest_reaches : (n : ℕ) (s t : A) → IsAtRest step s → Runs step n s t → s ≡ t
  rest_reaches zero s t h r = r
  rest_reaches (suc n) s t h r = absurd (h r.0 r.1)

  module _ (weight : A → ℕ) (lowers : Lowers step weight) where
    -- a run lowers the weight by its length at least
    pub Runs-lowers : (n : ℕ) (s t : A) → Runs step n s t → n + weight t ≤ weight s
    Runs-lowers zero s t r = rw r (omega arith)
    Runs-lowers (suc n) s t r = let a = Runs-lowers n r.0 t r.2 in let b = lowers s r.0 r.1 in omega (arith, a, b)

    module _ (total : StepsOrRests step) where
      normalises : (k : ℕ) (s : A) → weight s < k → (t : A) × IsNormalForm step s t
      normalises zero s h = absurd (omega arith)
      normalises (suc k) s h =
          elim (total s) as (λ _. (t : A) × IsNormalForm step s t) [
            | inl w ↦ (let b = lowers s w.0 w.1 in let r = normalises k w.0 (omega (arith, b, h)) in
                (r.0, (reaches_after s w.0 r.0 w.1 r.1.0, r.1.1)))
            | inr rest ↦ (s, (reaches_itself s, rest))
          ]

      pub normal_form_of : (s : A) → (t : A) × IsNormalForm step s t
      normal_form_of s = normalises (suc (weight s)) s (omega arith)

      module _ (ok : A → Type 0) (stays : Stays step ok) (peaks : IsLocallyConfluent step ok) where
        one_end : (k : ℕ) (s t u : A) → ok s → weight s < k → IsNormalForm step s t → IsNormalForm step s u → t ≡ u
        one_end zero s t u o h p q = absurd (omega arith)
        one_end (suc k) s t u o h p q = by p.0.0 p.0.1 q.0.0 q.0.1 (one_end k)
          where
            by : (m : ℕ) → Runs step m s t → (n : ℕ) → Runs step n s u
                → ((s t u : A) → ok s → weight s < k → IsNormalForm step s t → IsNormalForm step s u → t ≡ u) → t ≡ u
            by zero r n g more = sym r ∙ rest_reaches n s u (rw r p.1) g
            by (suc m) r zero g more = absurd (q.1 r.0 (rw (← g) r.1))
            by (suc m) r (suc n) g more =
                let j = peaks s r.0 g.0 o r.1 g.1 in
                let z = normal_form_of j.0 in
                let a = lowers s r.0 r.1 in
                let b = lowers s g.0 g.1 in
                let left : t ≡ z.0 = more r.0 t z.0 (stays s r.0 o r.1) (omega (arith, a, h)) ((m, r.2), p.1)
                (reaches_on r.0 j.0 z.0 j.1 z.1.0, z.1.1) in
                let right : u ≡ z.0 = more g.0 u z.0 (stays s g.0 o g.1) (omega (arith, b, h)) ((n, g.2), q.1)
                (reaches_on g.0 j.0 z.0 j.2 z.1.0, z.1.1) in
                left ∙ sym right

        -- Newman's lemma
        pub newman : IsConfluent step ok
        newman s t u o p q = one_end (suc (weight s)) s t u o (omega arith) p q

-- Sums of states, in which a step stays a step where more is there.
module _ {A : Type 0} (step : A → A → Type 0) (none : A) (plus : A → A → A) where
  module _ (grows : Grows step none plus) (comm : (s t : A) → plus s t ≡ plus t s) where
    pub Runs-grows : (n : ℕ) (s t x : A) → Runs step n s t → Runs step n (plus s x) (plus t x)
    Runs-grows zero s t x r = ap (λ a. plus a x) r
    Runs-grows (suc n) s t x r = (plus r.0 x, grows s r.0 x r.1, Runs-grows n r.0 t x r.2)

    pub reaches_grows : (s t x : A) → Reaches step s t → Reaches step (plus s x) (plus t x)
    reaches_grows s t x r = (r.0, Runs-grows r.0 s t x r.1)

    pub reaches_both : (s t u v : A) → Reaches step s t → Reaches step u v → Reaches step (plus s u) (plus t v)
    reaches_both s t u v p q =
        reaches_on step _ _ _ (reaches_grows s t u p) (rw (comm t u, comm t v) (reaches_grows u v t q))

    pub parts_reach : (ss ts : List A) → AreNormalForms step none plus ss ts → Reaches step (sum_of step none plus ss)
        (sum_of step none plus ts)
    parts_reach [] [] h = reaches_itself step none
    parts_reach [] (t ∷ ts) h = absurd h
    parts_reach (s ∷ ss) [] h = absurd h
    parts_reach (s ∷ ss) (t ∷ ts) h = reaches_both s t (sum_of step none plus ss) (sum_of step none plus ts) h.0.0
        (parts_reach ss ts h.1)

    -- Normal forms of parts, summed and rested, give the whole's normal form.
    pub parts : (ok : A → Type 0) → IsConfluent step ok → (ss ts : List A) (t u : A) → ok (sum_of step none plus ss)
        → AreNormalForms step none plus ss ts → IsNormalForm step (sum_of step none plus ts) t
        → IsNormalForm step (sum_of step none plus ss) u → t ≡ u
    parts ok confluent ss ts t u o h p q = confluent (sum_of step none plus ss) t u o
        (reaches_on step _ _ _ (parts_reach ss ts h) p.0, p.1) q
