-- Where a search starts: the active atom at its place, and no partner yet.
use Rattle.std.proofs.Common.{◌≡◌, ℕ, ◌++◌, inl, inr, List, length, set, take, drop, refl, sym, ap, ◌∙◌, arith}
use Rattle.std.specs.Prelude.{Option, Some, None, IfSome, slice_get}
use Rattle.std.proofs.lemmas.Bool.{cases_lt}
use Rattle.std.proofs.lemmas.List.{get_or-set_same, get_or-set_other, get_or_past, length-set, append-nil, take_all}
use Rattle.std.proofs.lemmas.List.{drop_all}
use Rattle.chr_base.specs.declared.atom.Atom.{Atom}
use Rattle.chr_base.specs.declared.rule.Rule.{Rule}
use Rattle.chr_plans.specs.declared.plan.Lookup.{Lookup}
use Rattle.chr_plans.specs.declared.rows.Seat.{Seat}
use Rattle.chr_plans.specs.Rows.{Tables, Ranks}
use Rattle.chr_plans.specs.Seats.{head, seat, no_seat, atom_in, IsSeated, NoPartners}
use Rattle.chr_plans.specs.Plans.{IsPlan, FirstNoneAbove, first_place, partners_of, rank_by}
use Rattle.chr_plans.specs.working.Searching.{AgreeAtKnown, NoneFrom, PastFrom, looked_in}
use Rattle.chr_plans.proofs.Places.{partners_len}

-- an instance stays one when the seat at the active place is forgotten
forgotten : (r : Rule) (rows : Tables) (p : ℕ) (hs : List Atom) (ss : List Seat) → IsSeated r rows p hs ss
    → IsSeated r rows p hs (set ss p no_seat)
forgotten r rows p hs ss s = record {
  instance = s.instance;
  there = λ q o. (ap (atom_in rows) (other q o.1) ∙ s.there q o);
  apart = λ q k o t ne e. s.apart q k o t ne (sym (other q o.1) ∙ e ∙ other k t.1);
}
  where
    other : (q : ℕ) → (q ≡ p → ⊥) → seat (set ss p no_seat) q ≡ seat ss q
    other q ne = get_or-set_other ss p q no_seat no_seat ne

nowhere : (ss : List Seat) (p : ℕ) → seat (set ss p no_seat) p ≡ no_seat
nowhere ss p = elim (cases_lt p (length ss)) as (λ _. seat (set ss p no_seat) p ≡ no_seat) [
  | inl less ↦ get_or-set_same ss p no_seat no_seat less
  | inr most ↦ get_or_past (set ss p no_seat) p no_seat (let e = length-set ss p no_seat in omega (arith, e, most))
]

agree_started : (p : ℕ) (places : List ℕ) (heads : List Atom) (seats : List Seat) (a : Atom) (hs : List Atom)
    (ss : List Seat) → head heads p ≡ a → seat seats p ≡ no_seat → head hs p ≡ a
    → AgreeAtKnown places p 0 hs (set ss p no_seat) heads seats
agree_started p places heads seats a hs ss h z active k (inl e) = (
  ap (head hs) e ∙ active ∙ sym h ∙ ap (head heads) (sym e),
  ap (seat (set ss p no_seat)) e ∙ nowhere ss p ∙ sym z ∙ ap (seat seats) (sym e),
)
agree_started p places heads seats a hs ss h z active k (inr w) = absurd (let l = w.1 in omega (arith, l))

-- what goes on from the active atom alone are all instances with it
pub none_started : (r : Rule) (rows : Tables) (p : ℕ) (places : List ℕ) (heads : List Atom) (seats : List Seat)
    (a : Atom) → head heads p ≡ a → seat seats p ≡ no_seat
    → NoneFrom r rows p places 0 heads seats → NoPartners r rows p a
none_started r rows p places heads seats a h z none hs ss s active =
    none hs (set ss p no_seat) (forgotten r rows p hs ss s) same
  where
    same : AgreeAtKnown places p 0 hs (set ss p no_seat) heads seats
    same = agree_started p places heads seats a hs ss h z active

-- the rows of the first partner that are passed from the start, and those that were passed when it was found
pub past_started : (r : Rule) (rows : Tables) (rank : Ranks) (p : ℕ) (lookups : List Lookup) (heads : List Atom)
    (seats : List Seat) (a : Atom) (from : Option ℕ) → head heads p ≡ a
    → IfSome from (λ row. FirstNoneAbove r rows rank p a lookups row)
    → IfSome from (λ row. PastFrom r rows rank p lookups 0 heads seats row)
past_started r rows rank p lookups heads seats a None h none = tt
past_started r rows rank p lookups heads seats a (Some row) h none =
    λ more hs ss s same above. none more hs ss s ((same p (inl refl)).0 ∙ h) (omega (arith, above))

pub above_started : (r : Rule) (rows : Tables) (rank : Ranks) (p : ℕ) (lookups : List Lookup) (heads : List Atom)
    (seats : List Seat) (a : Atom) (row : ℕ) → IsPlan r p (partners_of lookups) → head heads p ≡ a
    → seat seats p ≡ no_seat → PastFrom r rows rank p lookups 0 heads seats row
    → FirstNoneAbove r rows rank p a lookups row
above_started r rows rank p lookups heads seats a row plan h z past more hs ss s active above =
    let other : first_place lookups ≡ p → ⊥ = plan.others 0 (let n = partners_len lookups in omega (arith, n, more)) in
    let e = ap (λ (x : Seat). rank_by rank (slice_get lookups 0) x.row)
    (get_or-set_other ss p (first_place lookups) no_seat no_seat other) in
    past more hs (set ss p no_seat) (forgotten r rows p hs ss s)
    (agree_started p (looked_in lookups) heads seats a hs ss h z active) (omega (arith, above, e))

-- a slice of a whole list is put back
pub put_back : (xs ys : List Seat) → length xs ≡ length ys → take (length ys) (xs ++ drop (length xs) ys) ≡ xs
put_back xs ys e =
    ap (λ zs. take (length ys) (xs ++ zs)) (drop_all (length xs) ys (omega (arith, e)))
    ∙ ap (take (length ys)) (append-nil xs) ∙ take_all (length ys) xs (omega (arith, e))
