-- The atoms of an instance, and those that it puts in, lie in one pool.
use Rattle.std.specs.Prelude.{◌≡◌, ℕ, zero, suc, ℤ, ◌+◌, ◌-◌, ◌<◌, ◌≤◌, ◌%◌, List, [], ◌∷◌}
use Rattle.std.specs.Prelude.{Some}
use Rattle.std.specs.Prelude.{slice_get, cond, All, length, set, nat_lt}
use Rattle.std.proofs.Common.{refl, sym, ap, subst, ◌∙◌, arith, inl, inr, length-append}
use Rattle.std.specs.Ordering.{eq_by_cmp, is_eq}
use Rattle.std.specs.Cmp.{tied_itself}
use Rattle.std.proofs.Math.ListN.{length-map}
use Rattle.std.proofs.lemmas.Bool.{cases_lt, leb-true, and_parts}
use Rattle.std.proofs.lemmas.List.Elements.{All-get_or}
use Rattle.std.proofs.lemmas.Option.{slice_get_within, get_or_from_slice_get}
use Rattle.chr_base.specs.Atoms.{atom_cmp}
use Rattle.chr_base.specs.declared.atom.Atom.{Atom}
use Rattle.chr_base.specs.declared.rule.Rule.{Rule}
use Rattle.chr_base.specs.declared.term.Pattern.{Pattern}
use Rattle.chr_base.specs.FinBag as bag
use Rattle.chr_base.specs.FinBag.{◌⊕◌, ◌⊖◌, IsWithin, count_in}
use Rattle.chr_base.specs.Rewriting.{Runs, IsAtRest}
use Rattle.chr_base.specs.Rules.{Valuation, Step, heads_at, atoms_at, atom_at, heads_of}
use Rattle.chr_base.specs.Stores.{Store, store_of, count, stores_sum}
use Rattle.chr_base.proofs.Atoms.{atom_total}
use Rattle.chr_base.proofs.FinBags.{count-of_list}
use Rattle.chr_base.proofs.Instances.{sized_rule}
use Rattle.chr_base.proofs.Steps.{grows}
use Rattle.chr_base.proofs.Stores.{count_plus, count_minus}
use Rattle.chr_plans.proofs.ActiveAtoms.{no_instance}
use Rattle.chr_plans.proofs.Joined.{shared_value}
use Rattle.chr_tables.specs.Hashes.{key_hash}
use Rattle.chr_plans.specs.Joined.{HasThere, IsLocal}
use Rattle.chr_shards.specs.declared.placing.Placing.{Placing}
use Rattle.chr_shards.specs.working.Placed.{store_at, place_in, LiesAt, AreShards}
use Rattle.chr_shards.proofs.Places.{counted_at, only_place}
use Rattle.chr_shards.proofs.Sums.{apart_from}

-- an instance has some head
first_counts : (a : Atom) (xs : List Atom) → 0 < count (store_of (a ∷ xs)) a
first_counts a xs =
    let c = count-of_list atom_total (a ∷ xs) a in
    let k : ◌≡◌ {A = ℕ} (cond (eq_by_cmp atom_cmp a a) 1 0) 1 =
    ap (λ o. cond (is_eq o) 1 0) (tied_itself atom_total a) in
    omega (arith, c, k)

pub some_head : (r : Rule) (v : Valuation)
    → (a : Atom) × (slice_get (heads_at v r) 0 ≡ Some a) × (0 < count (store_of (heads_at v r)) a)
some_head r v = by (heads_at v r) (length-map (heads_of r) (atom_at v))
  where
    by : (xs : List Atom) → length xs ≡ length (heads_of r)
        → (a : Atom) × (slice_get xs 0 ≡ Some a) × (0 < count (store_of xs) a)
    by [] e =
        let few = leb-true 1 (length r.removed.items)
        (and_parts (nat_lt 0 (length r.removed.items)) _ (sized_rule r)).0 in
        let n = length-append r.kept.items r.removed.items in
        absurd (omega (arith, e, few, n))
    by (a ∷ xs) e = (a, refl, first_counts a xs)

-- these atoms have this place
abbrev AllAt : Placing → ℕ → ℕ → List Atom → Type 0
AllAt p n k xs = (q : Atom) → 0 < count (store_of xs) q → place_in p n q ≡ k

module _ (p : Placing) (rules : List Rule) (ss : List Store) (is : AreShards p rules ss) where
  -- the place of an instance of a rule, and of what it puts in
  pub record Home (r : Rule) (v : Valuation) : Type 0 where
    pub place : ℕ
    pub within : place < length ss
    pub heads : AllAt p (length ss) place (heads_at v r)
    pub body : AllAt p (length ss) place (atoms_at v r.body.items)

  local_rule : 1 < length ss → (i : ℕ) (r : Rule) → slice_get rules i ≡ Some r → IsLocal p.joint.columns.items r
  local_rule many i r e =
      let P : Rule → Type 0 = IsLocal p.joint.columns.items in
      subst P (get_or_from_slice_get rules i r r e) (All-get_or P rules i r (slice_get_within rules i r e)
      (is.local many))

  pub home : (i : ℕ) (r : Rule) (v : Valuation) → slice_get rules i ≡ Some r → Home r v
  home i r v e = elim (cases_lt 1 (length ss)) as (λ _. Home r v) [
    | inr one ↦ record {
      place = 0;
      within = is.some;
      heads = λ q _. only_place _ (length ss) is.some one;
      body = λ q _. only_place _ (length ss) is.some one;
    }
    | inl many ↦ by (local_rule many i r e)
  ]
    where
      columns : List ℕ
      columns = p.joint.columns.items

      told : ℤ → ℕ
      told w = key_hash p.seed (w ∷ []) % length ss

      all_at : (x : ℕ) (ps : List Pattern) → All (HasThere columns x) ps → AllAt p (length ss) (told (v x))
          (atoms_at v ps)
      all_at x ps have q some =
          ap told (shared_value columns v x ps have q
          (let c = count-of_list atom_total (atoms_at v ps) q in omega (arith, c, some)))

      by : IsLocal columns r → Home r v
      by j = record {
        place = told (v j.0);
        within = (let some = is.some in omega (arith, some));
        heads = all_at j.0 (heads_of r) j.1;
        body = all_at j.0 r.body.items j.2;
      }

  -- heads that are there are in the pool of their place
  pub heads_within : (k : ℕ) (xs : List Atom) → AllAt p (length ss) k xs → IsWithin (store_of xs) (stores_sum ss)
      → IsWithin (store_of xs) (store_at ss k)
  heads_within k xs all within q = elim (cases_lt 0 (count (store_of xs) q)) as
      (λ _. count (store_of xs) q ≤ count (store_at ss k) q) [
        | inr none ↦ omega (arith, none)
        | inl some ↦ (let w = within q in
            let e : count (stores_sum ss) q ≡ count (store_at ss k) q =
            subst (λ j. count (stores_sum ss) q ≡ count (store_at ss j) q) (all q some) (counted_at p ss q is.placed) in
            omega (arith, w, e))
      ]

  -- pools that are at rest are at rest together
  pub rests_together : ((k : ℕ) → k < length ss → IsAtRest (Step rules) (store_at ss k))
      → IsAtRest (Step rules) (stores_sum ss)
  rests_together each u h =
      let at = home h.0 h.1 h.2 h.3 in
      no_instance rules (store_at ss at.place) (each at.place at.within) h.0 h.1 h.2 h.3 h.4.guard
      (heads_within at.place (heads_at h.2 h.1) at.heads h.4.there)

  -- where the pools are at rest together, each pool is at rest
  pub rests_apart : IsAtRest (Step rules) (stores_sum ss) → (k : ℕ) → k < length ss
      → IsAtRest (Step rules) (store_at ss k)
  rests_apart rest k within u h =
      subst (λ s. IsAtRest (Step rules) s) (apart_from ss k within) rest _
      (grows rules (store_at ss k) u (stores_sum (set ss k bag.empty)) h)

  -- a step leads from atoms of one place to atoms of that place
  pub step_stays : (k : ℕ) (s t : Store) → LiesAt p (length ss) k s → Step rules s t → LiesAt p (length ss) k t
  step_stays k s t lies h q some = elim (cases_lt 0 (count s q)) as (λ _. place_in p (length ss) q ≡ k) [
    | inl before ↦ lies q before
    | inr none ↦ at.body q (let e = count_after in omega (arith, e, none, some)) ∙ sym here ∙ lies a.0 there
  ]
    where
      r : Rule
      r = h.1

      v : Valuation
      v = h.2

      at : Home r v
      at = home h.0 r v h.3

      a : (a : Atom) × (slice_get (heads_at v r) 0 ≡ Some a) × (0 < count (store_of (heads_at v r)) a)
      a = some_head r v

      there : 0 < count s a.0
      there = let w = h.4.there a.0 in let l = a.2 in omega (arith, w, l)

      here : place_in p (length ss) a.0 ≡ at.place
      here = at.heads a.0 a.2

      count_after : count t q ≡ count s q - count (store_of (atoms_at v r.removed.items)) q
          + count (store_of (atoms_at v r.body.items)) q
      count_after =
          let e : count t q ≡ count ((s ⊖ store_of (atoms_at v r.removed.items)) ⊕ store_of (atoms_at v
          r.body.items)) q =
          ap (λ x. count x q) h.4.after in
          let f = count_plus (s ⊖ store_of (atoms_at v r.removed.items)) (store_of (atoms_at v r.body.items)) q in
          let g = count_minus s (store_of (atoms_at v r.removed.items)) q in
          omega (arith, e, f, g)

  pub runs_stay : (k n : ℕ) (s t : Store) → LiesAt p (length ss) k s → Runs (Step rules) n s t
      → LiesAt p (length ss) k t
  runs_stay k zero s t lies h = subst (LiesAt p (length ss) k) h lies
  runs_stay k (suc n) s t lies h = runs_stay k n h.0 t (step_stays k s h.0 lies h.1) h.2
