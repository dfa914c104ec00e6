-- What plans of all places find, and what it says of the store in the tables.
use Rattle.std.proofs.Common.{◌≡◌, ℕ, ◌<◌, List, length, get_or, refl, sym, ap, subst, ◌∙◌, arith, inl, inr}
use Rattle.std.specs.Prelude.{ℤ, Some, slice_get}
use Rattle.std.proofs.lemmas.Option.{slice_get_within, slice_get_cases, slice_get_read, same_Some}
use Rattle.chr_base.specs.declared.atom.Atom.{Atom}
use Rattle.chr_base.specs.declared.rule.Rule.{Rule}
use Rattle.chr_base.specs.Rules.{heads_at, heads_of, valued}
use Rattle.chr_plans.specs.declared.plan.Plan.{Plan}
use Rattle.chr_plans.specs.declared.rows.Seat.{Seat}
use Rattle.chr_plans.specs.Rows.{Tables, Columns}
use Rattle.chr_plans.specs.Plans.{pattern_at}
use Rattle.chr_plans.specs.Reactions.{FitsPlan, NoneBy, Reacts}
use Rattle.chr_plans.specs.Seats.{head, IsSeated, NoPartners}
use Rattle.chr_plans.proofs.Values.{shape_known}
use Rattle.chr_tables.specs.Contents.{Contents, rows_of, index_columns}
use Rattle.chr_plans.specs.Actives.{NoInstanceWith}
use Rattle.chr_plans.specs.Grids.{contents}
use Rattle.chr_plans.proofs.Alike.{alike}
use Rattle.chr_plans.proofs.Around.{rows_are_enough}
use Rattle.chr_columns.specs.declared.groups.Group.{Group}
use Rattle.chr_columns.specs.working.Groups.{table_of_atom, table_of_pattern}
use Rattle.chr_columns.specs.working.Resting.{grid, IsSetUp, IsPlanned}
use Rattle.chr_columns.proofs.Shapes.{shape_table}
use Rattle.chr_columns.proofs.Stored.{rows_are, same_contents}

module _ (rules : List Rule) (groups : List Group) (rows : Tables) (columns : Columns) (n : ℕ)
    (up : IsSetUp rules groups rows columns n) where
  fits : (p : Plan) → IsPlanned rules groups columns p → FitsPlan rules rows columns (Some p)
  fits p h = (
    h.0,
    h.1,
    h.2,
    h.3,
    record {
      index = λ j l k e. (h.4 j l k e).0;
      table = λ j l t n a k e there shape. (
          up.placed t n a there ∙ shape_table groups (pattern_at h.0 l.partner.place) a shape ∙ sym (h.4 j l k e).1);
    },
  )

  -- each plan of a group fits the tables
  pub all_fit : (t : ℕ) (g : Group) → slice_get groups t ≡ Some g → (j : ℕ) → j < length g.plans.items
      → FitsPlan rules rows columns (slice_get g.plans.items j)
  all_fit t g e j l = elim (slice_get_cases g.plans.items j).1 as (λ _. FitsPlan rules rows columns
      (slice_get g.plans.items j)) [
        | inl w ↦ rw w.2 (fits w.0 (up.plans t g j w.0 e w.2))
        | inr past ↦ absurd (let p = past.0 in omega (arith, l, p))
      ]

module _ (rules : List Rule) (groups : List Group) (ts : List Contents)
    (up : IsSetUp rules groups (rows_of ts) (index_columns ts) (length ts)) (a : Atom) where
  -- where no plan of the atom's group finds partners, it has no instance with the tables
  pub none_with : ((g : Group) → slice_get groups (table_of_atom groups a) ≡ Some g → (k : ℕ) → k < length g.plans.items
      → NoneBy rules (rows_of ts) a (slice_get g.plans.items k))
      → NoInstanceWith rules (contents (grid ts)) a
  none_with none = rows_are_enough rules (grid ts) a (λ i r p at within heads seats seated is.
      (let c = up.covered i r (slice_get_within rules i r at) at p (omega (arith)) within in
      let v = seated.instance in
      let shape = shape_known r v.0 p heads v.1 in
      let t : table_of_atom groups a ≡ table_of_pattern groups (pattern_at r p) = ap (table_of_atom groups) (sym is)
      ∙ shape_table groups (pattern_at r p) (head heads p) shape in
      let g : slice_get groups (table_of_atom groups a) ≡ Some c.0 = ap (slice_get groups) t ∙ c.3 in
      let n = none c.0 g c.1 (slice_get_within c.0.plans.items c.1 c.2 c.4) in
      let m : NoneBy rules (rows_of ts) a (Some c.2) = subst (λ o. NoneBy rules (rows_of ts) a o) c.4 n in
      let k : NoPartners r (rows_of ts) c.2.place a = m r (ap (slice_get rules) c.5 ∙ at) in
      let w = up.plans _ c.0 c.1 c.2 c.3 c.4 in
      let same : w.0 ≡ r = same_Some w.0 r (sym w.1 ∙ ap (slice_get rules) c.5 ∙ at) in
      let there : c.2.place < length (heads_of r) = subst (λ (x : Rule). c.2.place < length (heads_of x)) same w.2 in
      alike r (rows_of ts) p c.2.place a there c.6 k heads seats
      (subst (λ f. IsSeated r f p heads seats) (rows_are ts) seated) is))

-- what a plan finds is an instance of its rule at its place
pub reacting : (rules : List Rule) (groups : List Group) (rows : Tables) (columns : Columns) (n : ℕ)
    → IsSetUp rules groups rows columns n
    → (a : Atom) (t j : ℕ) (g : Group) (p : Plan) (heads : List Atom) (seats : List Seat) (values : List ℤ)
    → slice_get groups t ≡ Some g → slice_get g.plans.items j ≡ Some p
    → Reacts rules rows a (slice_get g.plans.items j) heads seats values
    → (r : Rule) × (slice_get rules p.rule ≡ Some r) × (p.place < length (heads_of r))
    × IsSeated r rows p.place heads seats × (head heads p.place ≡ a) × (heads_at (valued values) r ≡ heads)
reacting rules groups rows columns n up a t j g p heads seats values e f h =
    let k : Reacts rules rows a (Some p) heads seats values =
    subst (λ o. Reacts rules rows a o heads seats values) f h in
    let w = up.plans t g j p e f in
    let same : w.0 ≡ k.0 = same_Some w.0 k.0 (sym w.1 ∙ k.1) in
    (k.0, k.1, subst (λ (r : Rule). p.place < length (heads_of r)) same w.2, k.2, k.3, k.5)

-- rows that were read are set up as they were
pub same_set_up : (rules : List Rule) (groups : List Group) (ts us : List Contents) → rows_of us ≡ rows_of ts
    → index_columns us ≡ index_columns ts → length us ≡ length ts
    → IsSetUp rules groups (rows_of ts) (index_columns ts) (length ts) → IsSetUp rules groups (rows_of us)
    (index_columns us) (length us)
same_set_up rules groups ts us e f n up = rw (e, f, n) up

pub same_stored : (ts us : List Contents) → rows_of us ≡ rows_of ts → contents (grid us) ≡ contents (grid ts)
same_stored ts us e = same_contents (grid us) (grid ts) (rows_are us ∙ e ∙ sym (rows_are ts))

-- the group that the code reads is the atom's
pub group_at : (groups xs : List Group) (a : Atom) (t : ℕ) (g : Group) → xs ≡ groups → t ≡ table_of_atom groups a
    → t < length xs → g ≡ get_or xs t g
    → slice_get groups (table_of_atom groups a) ≡ Some g
group_at groups xs a t g e f l h =
    ap (λ ys. slice_get ys (table_of_atom groups a)) (sym e) ∙ ap (slice_get xs) (sym f)
    ∙ slice_get_read xs (length xs) t g refl l h

-- a plan that reacts has a number of one of the plans
pub is_one : (rules : List Rule) (rows : Tables) (a : Atom) (ps : List Plan) (j : ℕ) (heads : List Atom)
    (seats : List Seat) (values : List ℤ) → Reacts rules rows a (slice_get ps j) heads seats values → j < length ps
is_one rules rows a ps j heads seats values h = elim (slice_get_cases ps j).1 as (λ _. j < length ps) [
  | inl w ↦ w.1
  | inr past ↦ absurd (subst (λ o. Reacts rules rows a o heads seats values) past.1 h)
]
