-- What one plan finds, of the plan as it stands in the list.
use Rattle.std.proofs.Common.{◌≡◌, ℕ, ◌<◌, ◌+◌, List, length, get_or, slice_get, refl, sym, subst, ◌∙◌, arith, inl, inr}
use Rattle.std.specs.Prelude.{ℤ, Option, Some, None, IfSome, IfNone}
use Rattle.std.proofs.lemmas.Bool.{cases_lt}
use Rattle.std.proofs.lemmas.Option.{slice_get_read, same_Some, get_or_from_slice_get}
use Rattle.chr_base.specs.declared.atom.Atom.{Atom}
use Rattle.chr_base.specs.declared.rule.Rule.{Rule}
use Rattle.chr_base.specs.Rules.{heads_at, heads_of, valued}
use Rattle.chr_plans.specs.declared.rows.Seat.{Seat}
use Rattle.chr_plans.specs.declared.plan.Plan.{Plan}
use Rattle.chr_plans.specs.Rows.{Tables, Columns, Ranks}
use Rattle.chr_plans.specs.declared.react.Standing.{Standing}
use Rattle.chr_plans.specs.Plans.{FirstNoneAbove, first_place, IsPlan, FitsTables, partners_of}
use Rattle.chr_plans.specs.Seats.{IsSeated, NoPartners, head, seat}
use Rattle.chr_plans.specs.Reactions.{FitsPlan, NoneBy, NoneAboveBy, MayResume, Reacts, first_row}

module _ (rules : List Rule) (rows : Tables) (columns : Columns) (a : Atom) (plans : List Plan) (j : ℕ) (plan : Plan)
    (r : Rule)
    (left : j < length plans) (here : plan ≡ get_or plans j plan) (rule : r ≡ get_or rules plan.rule r)
    (fit : FitsPlan rules rows columns (slice_get plans j)) where
  at : slice_get plans j ≡ Some plan
  at = slice_get_read plans (length plans) j plan refl left here

  -- the rule that the code reads is the plan's
  is_rule : slice_get rules plan.rule ≡ Some r
  is_rule =
      let f = rw at at fit in
      rw (rule ∙ get_or_from_slice_get rules plan.rule f.0 r f.1) f.1

  -- the plan is one of the rule that the code reads, and fits the tables
  pub fits_here : (plan.place < length (heads_of r)) × IsPlan r plan.place (partners_of plan.lookups.items)
      × FitsTables r plan.lookups.items rows columns
  fits_here =
      let f = rw at at fit in
      subst (λ x. (plan.place < length (heads_of x)) × IsPlan x plan.place (partners_of plan.lookups.items)
      × FitsTables x plan.lookups.items rows columns) (sym (same_Some r f.0 (sym is_rule ∙ f.1))) (f.2, f.3, f.4)

  pub reacts : (heads : List Atom) (seats : List Seat) (values : List ℤ) → IsSeated r rows plan.place heads seats
      → head heads plan.place ≡ a → length seats ≡ length (heads_of r) → heads_at (valued values) r ≡ heads
      → Reacts rules rows a (slice_get plans j) heads seats values
  reacts heads seats values s h n v = rw at (r, is_rule, s, h, n, v)

  none_here : NoPartners r rows plan.place a → NoneBy rules rows a (slice_get plans j)
  none_here none = rw at (λ q e. subst (λ x. NoPartners x rows plan.place a) (same_Some r q (sym is_rule ∙ e)) none)

  -- where the plan and those before it find nothing, none of the first j + 1 plans does
  pub none_more : ((k : ℕ) → k < j → NoneBy rules rows a (slice_get plans k)) → NoPartners r rows plan.place a
      → (k : ℕ) → k < j + 1 → NoneBy rules rows a (slice_get plans k)
  none_more before none k l = elim (cases_lt k j) as (λ _. NoneBy rules rows a (slice_get plans k)) [
    | inl less ↦ before k less
    | inr most ↦ (let i : k ≡ j = omega (arith, l, most) in subst (λ n. NoneBy rules rows a (slice_get plans n)) (sym i)
        (none_here none))
  ]

  -- where this plan's search begins, and where it stops
  pub row_passed : (rank : Ranks) (from : Option Standing) (found : Option ℕ)
      → IfSome from (MayResume rules rows rank a plans)
      → IfSome found (λ row. from ≡ Some (record { plan = j; row = row }))
      → IfSome found (λ row. FirstNoneAbove r rows rank plan.place a plan.lookups.items row)
  row_passed rank from None m e = tt
  row_passed rank from (Some row) m e =
      let w = rw e at m in
      let above = rw at at w.1 in
      above r is_rule

  pub resumes : (rank : Ranks) (seats : List Seat) → ((k : ℕ) → k < j → NoneBy rules rows a (slice_get plans k))
      → FirstNoneAbove r rows rank plan.place a plan.lookups.items (seat seats (first_place plan.lookups.items)).row
      → MayResume rules rows rank a plans (record { plan = j; row = first_row (slice_get plans j) seats })
  resumes rank seats before above = (
    before,
    rw at (λ q e. subst (λ x. FirstNoneAbove x rows rank plan.place a plan.lookups.items
        (seat seats (first_place plan.lookups.items)).row) (same_Some r q (sym is_rule ∙ e)) above),
  )

-- the plans before the one at which a search begins
pub before_first : (rules : List Rule) (rows : Tables) (rank : Ranks) (a : Atom) (plans : List Plan)
    (from : Option Standing) (n : ℕ) → IfSome from (MayResume rules rows rank a plans)
    → IfSome from (λ s. n ≡ s.plan) → IfNone from (n ≡ 0) → (k : ℕ) → k < n → NoneBy rules rows a (slice_get plans k)
before_first rules rows rank a plans None n m some none k l = absurd (omega (arith, l, none))
before_first rules rows rank a plans (Some s) n m some none k l = m.0 k (omega (arith, l, some))

-- rows only died
abbrev pub OnlyDied : Tables → Tables → Type 0
OnlyDied before after = (t n : ℕ) (b : Atom) → after t n ≡ Some b → before t n ≡ Some b

module _ (rules : List Rule) (before after : Tables) (rank : Ranks) (died : OnlyDied before after) (a : Atom) where
  seated_before : (r : Rule) (p : ℕ) (heads : List Atom) (seats : List Seat) → IsSeated r after p heads seats
      → IsSeated r before p heads seats
  seated_before r p heads seats s = record {
    instance = s.instance;
    there = λ q o. died _ _ _ (s.there q o);
    apart = s.apart;
  }

  none_later : (o : Option Plan) → NoneBy rules before a o → NoneBy rules after a o
  none_later None none = none
  none_later (Some plan) none = λ r e heads seats s. none r e heads seats (seated_before r plan.place heads seats s)

  above_later : (o : Option Plan) (row : ℕ) → NoneAboveBy rules before rank a o row
      → NoneAboveBy rules after rank a o row
  above_later None row none = none
  above_later (Some plan) row none = λ r e more heads seats s. none r e more heads seats
      (seated_before r plan.place heads seats s)

  -- where a search may go on, it may do so after rows have died that keep their ranks
  pub resume_later : (plans : List Plan) (s : Standing) → MayResume rules before rank a plans s
      → MayResume rules after rank a plans s
  resume_later plans s m = (
    λ k l. none_later (slice_get plans k) (m.0 k l),
    above_later (slice_get plans s.plan) s.row m.1,
  )
