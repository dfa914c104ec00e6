-- Plans that are added one by one.
use Rattle.std.specs.Prelude.{◌&&◌, nat_eq, if◌then◌else◌, Some, slice_get}
use Rattle.std.proofs.Common.{◌≡◌, ℕ, suc, ◌+◌, ◌<◌, List, [], ◌∷◌, ◌++◌, length, get_or, set, refl, sym, ap, subst}
use Rattle.std.proofs.Common.{◌∙◌, arith, inl, inr}
use Rattle.std.proofs.Math.Seq.{map-set_same}
use Rattle.std.proofs.lemmas.Bool.{cases_lt, cases_eq}
use Rattle.std.proofs.lemmas.List.{length-map}
use Rattle.std.proofs.lemmas.Option.{slice_get_read, slice_get-get_or, same_Some}
use Rattle.chr_base.specs.declared.atom.SymbolId.{SymbolId}
use Rattle.chr_base.specs.declared.rule.Rule.{Rule}
use Rattle.chr_base.specs.declared.term.Pattern.{Pattern}
use Rattle.chr_plans.specs.declared.plan.Plan.{Plan}
use Rattle.chr_plans.specs.Plans.{pattern_at}
use Rattle.chr_plans.specs.Rows.{Columns}
use Rattle.chr_columns.specs.declared.groups.Group.{Group}
use Rattle.chr_columns.specs.working.Groups.{table_of, table_of_pattern, shapes_of, IsGrouped}
use Rattle.chr_columns.specs.working.Making.{Grows, KeepPlans}
use Rattle.chr_columns.specs.working.Resting.{IsPlanned, ArePlanned, HasPlan, HavePlans, AreCovered}
use Rattle.chr_columns.proofs.Slices.{slice_left, slice_last, slice_more, slice_set_same, slice_set_other}

-- the table of a symbol is known from the shapes of groups
abbrev place_of : List (SymbolId × ℕ) → SymbolId → ℕ → ℕ
place_of [] s n = 0
place_of (x ∷ xs) s n = if nat_eq x.0.0 s.0 && nat_eq x.1 n then 0 else suc (place_of xs s n)

table_place : (gs : List Group) (s : SymbolId) (n : ℕ) → table_of gs s n ≡ place_of (shapes_of gs) s n
table_place [] s n = refl
table_place (g ∷ gs) s n = ap (λ k. if nat_eq g.symbol.0 s.0 && nat_eq g.arity n then 0 else suc k) (table_place gs s n)

pub same_table : (gs hs : List Group) (p : Pattern) → shapes_of gs ≡ shapes_of hs → table_of_pattern gs p
    ≡ table_of_pattern hs p
same_table gs hs p e =
    table_place gs p.symbol (length p.args.items) ∙ ap (λ xs. place_of xs p.symbol (length p.args.items)) e
    ∙ sym (table_place hs p.symbol (length p.args.items))

pub same_many : (gs hs : List Group) → shapes_of gs ≡ shapes_of hs → length gs ≡ length hs
same_many gs hs e =
    let a = length-map {B = SymbolId × ℕ} gs (λ (g : Group). (g.symbol, g.arity)) in
    let b = length-map {B = SymbolId × ℕ} hs (λ (g : Group). (g.symbol, g.arity)) in
    let c = ap length e in
    omega (arith, a, b, c)

pub grouped_same : (gs hs : List Group) (p : Pattern) → shapes_of hs ≡ shapes_of gs → IsGrouped gs p → IsGrouped hs p
grouped_same gs hs p e l =
    let a = same_table hs gs p e in
    let b = same_many hs gs e in
    omega (arith, a, b, l)

pub keep_all : (gs hs ks : List Group) → KeepPlans gs hs → KeepPlans hs ks → KeepPlans gs ks
keep_all gs hs ks a b = record {
  shapes = b.shapes ∙ a.shapes;
  plans = λ t i r p h. (b.plans t i r p (a.plans t i r p h));
}

planned_same : (rules : List Rule) (gs hs : List Group) (columns : Columns) (p : Plan) → shapes_of hs ≡ shapes_of gs
    → IsPlanned rules gs columns p → IsPlanned rules hs columns p
planned_same rules gs hs columns p e h = (
  h.0,
  h.1,
  h.2,
  h.3,
  λ j l k f. ((h.4 j l k f).0, (h.4 j l k f).1 ∙ sym (same_table hs gs (pattern_at h.0 l.partner.place) e)),
)

planned_grown : (rules : List Rule) (gs : List Group) (before after : Columns) (p : Plan) → Grows before after
    → IsPlanned rules gs before p → IsPlanned rules gs after p
planned_grown rules gs before after p grows h = (
  h.0,
  h.1,
  h.2,
  h.3,
  λ j l k f. (grows l.table l.index _ (h.4 j l k f).0, (h.4 j l k f).1),
)

-- a plan more in one group
module _ (gs : List Group) (t : ℕ) (d k : Group) (plan : Plan) (within : t < length gs)
    (symbol : k.symbol ≡ (get_or gs t d).symbol) (arity : k.arity ≡ (get_or gs t d).arity)
    (plans : k.plans.items ≡ (get_or gs t d).plans.items ++ plan ∷ []) where
  abbrev g : Group
  g = get_or gs t d

  at_t : slice_get gs t ≡ Some g
  at_t = slice_get-get_or gs t d within

  shapes : shapes_of (set gs t k) ≡ shapes_of gs
  shapes = map-set_same (λ (x : Group). (x.symbol, x.arity)) gs t k d (λ i. (symbol i, arity i))

  pub plan_keeps : KeepPlans gs (set gs t k)
  plan_keeps = record {
    shapes = shapes;
    plans = λ u i r p h. (elim (cases_eq u t) as (λ _. HasPlan (set gs t k) u i r p) [
      | inl same ↦ (let old : h.0 ≡ g = same_Some h.0 g (sym h.3 ∙ ap (slice_get gs) same ∙ at_t) in (
        k,
        h.1,
        h.2,
        ap (slice_get (set gs t k)) same ∙ slice_set_same gs t k within,
        ap (λ xs. slice_get xs h.1) plans ∙ slice_left g.plans.items (plan ∷ []) h.1 h.2
            (ap (λ (x : Group). slice_get x.plans.items h.1) (sym old) ∙ h.4),
        h.5,
        h.6,
      ))
      | inr other ↦ (h.0, h.1, h.2, slice_set_other gs t u k other ∙ h.3, h.4, h.5, h.6)
    ]);
  }

  pub plan_there : (r : Rule) → HasPlan (set gs t k) t plan.rule r plan.place
  plan_there r = (
    k,
    length g.plans.items,
    plan,
    slice_set_same gs t k within,
    ap (λ xs. slice_get xs (length g.plans.items)) plans ∙ slice_last g.plans.items plan,
    refl,
    refl,
  )

  pub planned_more : (rules : List Rule) (before after : Columns) → Grows before after → IsPlanned rules gs after plan
      → ArePlanned rules gs before → ArePlanned rules (set gs t k) after
  planned_more rules before after grows new are u h j p e f = planned_same rules gs (set gs t k) after p shapes
      (elim (cases_eq u t) as (λ _. IsPlanned rules gs after p) [
        | inl same ↦ (let is : k ≡ h = same_Some k h (sym (slice_set_same gs t k within)
            ∙ ap (slice_get (set gs t k)) (sym same) ∙ e) in
            let at : slice_get (g.plans.items ++ plan ∷ []) j ≡ Some p = ap (λ xs. slice_get xs j) (sym plans)
            ∙ ap (λ (x : Group). slice_get x.plans.items j) is ∙ f in
            elim (slice_more g.plans.items plan p j at) as (λ _. IsPlanned rules gs after p) [
              | inl old ↦ planned_grown rules gs before after p grows (are t g j p at_t old)
              | inr one ↦ subst (IsPlanned rules gs after) one new
            ])
        | inr other ↦ planned_grown rules gs before after p grows
            (are u h j p (sym (slice_set_other gs t u k other) ∙ e) f)
      ])

-- what has plans keeps them
pub have_kept : (gs hs : List Group) (i : ℕ) (r : Rule) (n : ℕ) → KeepPlans gs hs → HavePlans gs i r n
    → HavePlans hs i r n
have_kept gs hs i r n keep has p l k = subst (λ t. HasPlan hs t i r p)
    (same_table gs hs (pattern_at r p) (sym keep.shapes)) (keep.plans _ i r p (has p l k))

-- a plan for a place is in the group of its head
abbrev HasOwnPlan : List Group → ℕ → Rule → ℕ → Type 0
HasOwnPlan gs i r p = HasPlan gs (table_of_pattern gs (pattern_at r p)) i r p

pub have_more : (gs : List Group) (i : ℕ) (r : Rule) (n : ℕ) → HavePlans gs i r (n + 1)
    → HasPlan gs (table_of_pattern gs (pattern_at r n)) i r n → HavePlans gs i r n
have_more gs i r n has new p l k = elim (cases_lt n p) as (λ _. HasOwnPlan gs i r p) [
  | inl less ↦ has p (omega (arith, less)) k
  | inr most ↦ subst (HasOwnPlan gs i r)
      (let e : n ≡ p = omega (arith, l, most) in e) new
]

-- the plan of a place serves one that reads like it
pub have_alike : (gs : List Group) (i : ℕ) (r : Rule) (p q : ℕ) → pattern_at r p ≡ pattern_at r q
    → HasPlan gs (table_of_pattern gs (pattern_at r q)) i r q
    → HasPlan gs (table_of_pattern gs (pattern_at r p)) i r p
have_alike gs i r p q same has = (
  has.0,
  has.1,
  has.2,
  ap (λ (x : Pattern). slice_get gs (table_of_pattern gs x)) same ∙ has.3,
  has.4,
  has.5,
  same ∙ has.6,
)

pub keep_same : (gs : List Group) → KeepPlans gs gs
keep_same gs = record {
  shapes = refl;
  plans = λ t i r p h. h;
}

pub covered_more : (rules : List Rule) (gs hs : List Group) (i : ℕ) (r : Rule) → KeepPlans gs hs → i < length rules
    → r ≡ get_or rules i r → AreCovered rules gs i
    → HavePlans hs i r 0 → AreCovered rules hs (i + 1)
covered_more rules gs hs i r keep within here are new k x l e = elim (cases_lt k i) as (λ _. HavePlans hs k x 0) [
  | inl less ↦ have_kept gs hs k x 0 keep (are k x less e)
  | inr most ↦ (let n : i ≡ k = omega (arith, l, most) in
      let same : r ≡ x = same_Some r x (sym (slice_get_read rules (length rules) i r refl within here)
      ∙ ap (slice_get rules) n ∙ e) in
      subst (λ j. HavePlans hs j x 0) n (subst (λ (y : Rule). HavePlans hs i y 0) same new))
]
