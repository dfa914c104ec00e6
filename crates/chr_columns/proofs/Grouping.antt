-- Groups that are added one by one.
use Rattle.std.specs.Prelude.{Bool, if◌then◌else◌}
use Rattle.std.proofs.Common.{◌≡◌, ℕ, zero, suc, ◌+◌, ◌<◌, ◌≤◌, List, [], ◌∷◌, ◌++◌, length, true, false, refl, sym, ap}
use Rattle.std.proofs.Common.{◌∙◌, arith, drop, nat_eq}
use Rattle.std.proofs.Common.{inl, inr, length-append, eq-eqb}
use Rattle.std.specs.Cmp.{unsigned_Decides}
use Rattle.std.proofs.lemmas.Bool.{and_parts}
use Rattle.chr_base.specs.declared.atom.SymbolId.{SymbolId}
use Rattle.chr_base.specs.declared.term.Pattern.{Pattern}
use Rattle.chr_columns.specs.declared.groups.Group.{Group}
use Rattle.chr_columns.specs.working.Groups.{is_for, table_of, AreOthers, IsGrouped, StayGrouped, HaveNoPlans}
use Rattle.chr_columns.proofs.Slices.{slice_more}

-- groups of other symbols are passed over
pub passed_over : (gs : List Group) (s : SymbolId) (n k : ℕ) → k ≤ length gs → AreOthers gs s.0 k
    → table_of gs s n ≡ k + table_of (drop k gs) s n
passed_over gs s n zero l others = omega arith
passed_over [] s n (suc k) l others = absurd (omega (arith, l))
passed_over (g ∷ gs) s n (suc k) l others =
    by (is_for s n g) refl
    (passed_over gs s n k (omega (arith, l)) (λ j x m at. others (suc j) x (omega (arith, m)) at))
  where
    by : (b : Bool) → is_for s n g ≡ b → table_of gs s n ≡ k + table_of (drop k gs) s n
        → ◌≡◌ {A = ℕ} (if b then 0 else suc (table_of gs s n)) (suc k + table_of (drop k gs) s n)
    by true e more = absurd (others 0 g (omega arith) refl
        ((unsigned_Decides g.symbol.0 s.0).0 (and_parts (nat_eq g.symbol.0 s.0) _ e).0))
    by false e more = omega (arith, more)

-- the group of a symbol is the same when others come after it
table_left : (gs hs : List Group) (s : SymbolId) (n : ℕ) → table_of gs s n < length gs → table_of (gs ++ hs) s n
    ≡ table_of gs s n
table_left [] hs s n l = absurd (omega (arith, l))
table_left (g ∷ gs) hs s n l = by (is_for s n g) (λ k. table_left gs hs s n k) l
  where
    by : (b : Bool) → (table_of gs s n < length gs → table_of (gs ++ hs) s n ≡ table_of gs s n)
        → (if b then 0 else suc (table_of gs s n)) < suc (length gs)
        → ◌≡◌ {A = ℕ} (if b then 0 else suc (table_of (gs ++ hs) s n)) (if b then 0 else suc (table_of gs s n))
    by true more l = refl
    by false more l = ap suc (more (omega (arith, l)))

pub groups_stay : (gs hs : List Group) → StayGrouped gs (gs ++ hs)
groups_stay gs hs p l =
    let e = table_left gs hs p.symbol (length p.args.items) l in
    let n = length-append gs hs in
    omega (arith, e, n, l)

-- a group for the symbol is added
table_here : (gs : List Group) (g : Group) (s : SymbolId) (n : ℕ) → is_for s n g ≡ true
    → table_of (gs ++ g ∷ []) s n < length (gs ++ g ∷ [])
table_here [] g s n e = rw e (omega arith)
table_here (x ∷ gs) g s n e = by (is_for s n x) (table_here gs g s n e)
  where
    by : (b : Bool) → table_of (gs ++ g ∷ []) s n < length (gs ++ g ∷ [])
        → (if b then 0 else suc (table_of (gs ++ g ∷ []) s n)) < suc (length (gs ++ g ∷ []))
    by true more = omega arith
    by false more = omega (arith, more)

pub group_here : (gs : List Group) (g : Group) (p : Pattern) → g.symbol ≡ p.symbol → g.arity ≡ length p.args.items
    → IsGrouped (gs ++ g ∷ []) p
group_here gs g p e f =
    table_here gs g p.symbol (length p.args.items)
    (let a = eq-eqb g.symbol.0 p.symbol.0 (ap (λ (s : SymbolId). s.0) e) in let b =
    eq-eqb g.arity (length p.args.items) f in rw (a, b) refl)

-- a group without plans is added
pub no_plans_more : (gs : List Group) (g : Group) → g.plans.items ≡ [] → HaveNoPlans gs → HaveNoPlans (gs ++ g ∷ [])
no_plans_more gs g e none t h at = elim (slice_more gs g h t at) as (λ _. h.plans.items ≡ []) [
  | inl old ↦ none t h old
  | inr new ↦ ap (λ (x : Group). x.plans.items) (sym new) ∙ e
]
