-- Look-ups whose keys are known, and that find no row.
use Rattle.std.proofs.Common.{◌≡◌, ℕ, ◌<◌, List, [], ◌∷◌, length, get_or, map, take, Bool, true, false, arith}
use Rattle.std.proofs.Common.{sym, ap, ◌∙◌}
use Rattle.std.proofs.Common.{inl, inr, refl}
use Rattle.std.specs.Prelude.{if◌then◌else◌, Option, Some, None, IfNone, is_some, not, option_map, slice_get}
use Rattle.std.proofs.lemmas.Option.{slice_get_cases, slice_get-get_or, same_Some}
use Rattle.std.proofs.lemmas.Bool.{and_parts}
use Rattle.chr_base.specs.declared.atom.Atom.{Atom}
use Rattle.chr_base.specs.declared.rule.Rule.{Rule}
use Rattle.chr_plans.specs.declared.key.Key.{Key}
use Rattle.chr_plans.specs.declared.key.Limit.{Limit}
use Rattle.chr_plans.specs.declared.key.Source.{Source}
use Rattle.chr_plans.specs.declared.key.Source.TheVariants.{Constant, Argument}
use Rattle.chr_plans.specs.declared.plan.Lookup.{Lookup}
use Rattle.chr_plans.specs.declared.rows.Seat.{Seat}
use Rattle.chr_plans.specs.Keys.{source_value, key_of}
use Rattle.chr_plans.specs.Rows.{Tables, Columns}
use Rattle.chr_plans.specs.Seats.{head, seat}
use Rattle.chr_plans.specs.Plans.{IsPlan, IsReady, AreKeys, AreLimits, FitsTables, columns_of, partners_of}
use Rattle.chr_plans.specs.working.Searching.{NoneFrom, looked_in, is_ready, are_ready, known_limits}
use Rattle.chr_plans.specs.working.Searching.{IsIndexed, IsMissing}
use Rattle.chr_plans.proofs.Values.{key_known, limits_known, shape_known}
use Rattle.chr_plans.proofs.Places.{partner_is, partners_len}
use Rattle.chr_plans.proofs.Searches.{is_other}
use Rattle.chr_plans.proofs.Making.{known_at}

-- what holds where nothing is found
pub none_found : (P : Type 0) (found : Option ℕ) (b : Bool) → is_some found ≡ not b → b ≡ true → IfNone found P → P
none_found P None b e f h = h
none_found P (Some row) b e f h = absurd (let z : true ≡ false = e ∙ ap not f in cc)

-- a source that is known from the active atom and the first partners
ready_at : (places : List ℕ) (p n : ℕ) (s : Source) → is_ready (p ∷ take n places) s ≡ true → IsReady places p n s
ready_at places p n (Constant c) e = tt
ready_at places p n (Argument q c) e = known_at places p n q e

-- a key that is known sooner than it is looked for
ready_keys : (r : Rule) (places : List ℕ) (p j n q : ℕ) (ks : List Key) → AreKeys r places p j q ks
    → are_ready (p ∷ take n places) ks ≡ true → AreKeys r places p n q ks
ready_keys r places p j n q [] are all = tt
ready_keys r places p j n q (k ∷ ks) are all =
    let w = and_parts (is_ready (p ∷ take n places) k.source) _ all in
    (ready_at places p n k.source w.0, are.1, ready_keys r places p j n q ks are.2 w.1)

-- limits that are known sooner than their head is looked for
ready_limits : (r : Rule) (places : List ℕ) (p j n q : ℕ) (ls : List Limit) → AreLimits r places p j q ls
    → AreLimits r places p n q (known_limits (p ∷ take n places) ls)
ready_limits r places p j n q [] are = tt
ready_limits r places p j n q (l ∷ ls) are =
    by (is_ready (p ∷ take n places) l.source) refl (ready_limits r places p j n q ls are.2)
  where
    by : (b : Bool) → is_ready (p ∷ take n places) l.source ≡ b
        → AreLimits r places p n q (known_limits (p ∷ take n places) ls)
        → AreLimits r places p n q
        (if b then l ∷ known_limits (p ∷ take n places) ls else known_limits (p ∷ take n places) ls)
    by true e rest = (ready_at places p n l.source e, are.1, rest)
    by false e rest = rest

-- each look-up that fits the tables has an index
pub all_indexed : (r : Rule) (rows : Tables) (lookups : List Lookup) (columns : Columns)
    → FitsTables r lookups rows columns → (j : ℕ) → j < length lookups → IsIndexed columns (slice_get lookups j)
all_indexed r rows lookups columns fits j left =
    elim (slice_get_cases lookups j).1 as (λ _. IsIndexed columns (slice_get lookups j)) [
      | inl w ↦ (let here : get_or lookups j w.0 ≡ w.0 = same_Some _ w.0
          (sym (slice_get-get_or lookups j w.0 left) ∙ w.2) in
          rw w.2 (rw (fits.index j w.0 left here) refl))
      | inr past ↦ absurd (let p = past.0 in omega (arith, left, p))
    ]

-- where a look-up is missing, no instance goes on from the heads
pub none_from : (r : Rule) (rows : Tables) (columns : Columns) (p : ℕ) (lookups : List Lookup) (n : ℕ)
    (heads : List Atom) (seats : List Seat) → IsPlan r p (partners_of lookups) → FitsTables r lookups rows columns
    → IsMissing rows columns p lookups n heads → NoneFrom r rows p (looked_in lookups) n heads seats
none_from r rows columns p lookups n heads seats plan fits missing hs ss s same =
    let j = missing.0 in
    let l = missing.1 in
    let left = missing.2 in
    let here = missing.3 in
    let within : j < length (partners_of lookups) = (let e = partners_len lookups in omega (arith, e, left)) in
    let there = s.there l.partner.place
    (is_other r p lookups j l rows columns heads seats plan fits left here) in
    let table : (seat ss l.partner.place).table ≡ l.table =
    fits.table j l (seat ss l.partner.place).table (seat ss l.partner.place).row (head hs l.partner.place) left here
    there (shape_known r s.instance.0 l.partner.place hs s.instance.1) in
    let key : key_of (columns_of l.partner.key.items) (head hs l.partner.place)
    ≡ map (λ k. source_value heads k.source) l.partner.key.items =
    key_known r (looked_in lookups) p n l.partner.place hs heads ss seats l.partner.key.items s.instance same
    (ready_keys r (looked_in lookups) p j n l.partner.place l.partner.key.items
    (plan.keys j l.partner within (partner_is lookups j l left here)) missing.4) in
    let lives = ap (λ t. rows t (seat ss l.partner.place).row) (sym table) ∙ there in
    missing.5 (seat ss l.partner.place).row (
      head hs l.partner.place,
      lives,
      ap (option_map (λ cs. key_of cs (head hs l.partner.place))) (fits.index j l left here) ∙ ap Some key,
    ) (
      head hs l.partner.place,
      lives,
      limits_known r (looked_in lookups) p n l.partner.place hs heads ss seats
          (known_limits (p ∷ take n (looked_in lookups)) l.partner.limits.items) s.instance same
          (ready_limits r (looked_in lookups) p j n l.partner.place l.partner.limits.items
          (plan.limits j l.partner within (partner_is lookups j l left here))),
    )
