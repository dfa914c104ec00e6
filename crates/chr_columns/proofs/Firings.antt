-- The step that an instance with an active atom makes.
use Rattle.std.proofs.Common.{◌≡◌, ℕ, zero, suc, ◌+◌, ◌-◌, ◌<◌, ◌≤◌, List, [], ◌∷◌, ◌++◌, length, get_or, drop, cond}
use Rattle.std.proofs.Common.{true, false, refl, sym, ap, subst, ◌∙◌, arith, inl, inr, ◌⊎◌, length-append}
use Rattle.std.specs.Prelude.{Some, slice_get, remove, nat_lt, IsTrue, is_some}
use Rattle.std.specs.Ordering.{eq_by_cmp, is_eq}
use Rattle.std.specs.Cmp.{tied_itself}
use Rattle.std.proofs.Math.ListN.{get_or-map}
use Rattle.std.proofs.Math.Seq.{drop-append_seam}
use Rattle.std.proofs.lemmas.Bool.{cases_lt}
use Rattle.std.proofs.lemmas.Bool.Decides.{nat_tests}
use Rattle.std.proofs.lemmas.List.{length-map, map-append, get_or-drop, length-drop, get_or_append_left}
use Rattle.std.proofs.lemmas.List.{get_or-append_right, get_or_default}
use Rattle.std.proofs.lemmas.Option.{get_or_from_slice_get}
use Rattle.std.proofs.lemmas.List.Edits.{get_or-remove_below, get_or-remove_above, length-remove, remove-append_left}
use Rattle.std.proofs.lemmas.List.Edits.{remove-append_right}
use Rattle.chr_base.specs.declared.atom.Atom.{Atom}
use Rattle.chr_base.specs.declared.rule.Rule.{Rule}
use Rattle.chr_base.specs.Atoms.{atom_cmp, no_atom}
use Rattle.chr_base.specs.FinBag.{◌⊕◌, ◌⊖◌, IsWithin, total}
use Rattle.chr_base.specs.Stores.{Store, store_of, count}
use Rattle.chr_base.specs.Rules.{Step, Valuation, heads_of, heads_at, atoms_at, atom_at, guard_holds, no_pattern}
use Rattle.chr_base.specs.Rewriting.{IsAtRest}
use Rattle.chr_base.proofs.Atoms.{atom_total}
use Rattle.chr_base.proofs.FinBags.{count-of_list}
use Rattle.chr_base.proofs.Stores.{same_store, count_plus, count_minus, store_of-append, plus_assoc}
use Rattle.chr_base.proofs.Steps.{grows}
use Rattle.chr_tables.specs.Contents.{Contents, rows_of, index_columns}
use Rattle.chr_plans.specs.declared.rows.Seat.{Seat}
use Rattle.chr_plans.specs.Plans.{pattern_at}
use Rattle.chr_plans.specs.Seats.{head, seat, no_seat, atom_in, IsSeated, IsOther}
use Rattle.chr_plans.specs.Actives.{one}
use Rattle.chr_plans.specs.Grids.{Grid, contents, rows_in, without_rows, SitIn}
use Rattle.chr_plans.proofs.ActiveAtoms.{removed_reacts, kept_reacts, part_rests}
use Rattle.chr_plans.proofs.SeatedRows.{rows_leave}
use Rattle.chr_columns.specs.declared.groups.Group.{Group}
use Rattle.chr_columns.specs.working.Resting.{grid, IsSetUp, ArePlanned}
use Rattle.chr_columns.proofs.Stored.{row_is, rows_are, rows_stay, as_many_left}
use Rattle.chr_columns.specs.working.Firing.{kept_others, leaving, coming}

-- an item that is taken out of a list
total_removed : (f : Atom → ℕ) (xs : List Atom) (i : ℕ) (d : Atom) → i < length xs
    → total f (remove xs i) + f (get_or xs i d) ≡ total f xs
total_removed f [] i d l = absurd (omega (arith, l))
total_removed f (x ∷ xs) zero d l = omega arith
total_removed f (x ∷ xs) (suc i) d l = let more = total_removed f xs i d (omega (arith, l)) in omega (arith, more)

itself : (a : Atom) → ◌≡◌ {A = ℕ} (cond (eq_by_cmp atom_cmp a a) 1 0) 1
itself a = ap (λ o. cond (is_eq o) 1 0) (tied_itself atom_total a)

pub picked_in : (xs : List Atom) (i : ℕ) (d : Atom) → i < length xs → 0 < count (store_of xs) (get_or xs i d)
picked_in xs i d l =
    let a = get_or xs i d in
    let e = total_removed (λ x. cond (eq_by_cmp atom_cmp a x) 1 0) xs i d l in
    let f = itself a in
    let g = count-of_list atom_total xs a in
    omega (arith, e, f, g)

pub picked_out : (xs : List Atom) (i : ℕ) (d : Atom) → i < length xs → store_of (remove xs i)
    ≡ store_of xs ⊖ one (get_or xs i d)
picked_out xs i d l = same_store _ _ (λ q. (
    let a = get_or xs i d in
    let e = total_removed (λ x. cond (eq_by_cmp atom_cmp q x) 1 0) xs i d l in
    let f = count-of_list atom_total (remove xs i) q in
    let g = count-of_list atom_total xs q in
    let h = count-of_list atom_total (a ∷ []) q in
    let m = count_minus (store_of xs) (one a) q in
    omega (arith, e, f, g, h, m)))

-- the others of an instance sit in different rows
module _ (r : Rule) (g : Grid) (p : ℕ) (heads : List Atom) (seats ss : List Seat) (place : p < length (heads_of r))
    (many : length ss ≡ length (heads_of r))
    (same : (q : ℕ) → q < length (heads_of r) → seat ss q ≡ seat seats q)
    (is : IsSeated r (rows_in g) p heads seats) where
  heads_many : length heads ≡ length (heads_of r)
  heads_many = let v = is.instance in sym (ap length v.1) ∙ length-map (heads_of r) (atom_at v.0)

  -- the place before the active one was taken out
  abbrev Was : ℕ → Type 0
  Was q = (k : ℕ) × IsOther r p k × (head (remove heads p) q ≡ head heads k) × (seat (remove ss p) q ≡ seat seats k)
      × (((q < p) × (k ≡ q)) ⊎ ((p ≤ q) × (k ≡ q + 1)))

  was : (q : ℕ) → q < length (remove heads p) → Was q
  was q l =
      let m = heads_many in
      let n = length-remove heads p (omega (arith, m, place)) in
      elim (cases_lt q p) as (λ _. Was q) [
        | inl below ↦ (
          q,
          (omega (arith, below, place), (λ e. (absurd (omega (arith, e, below))))),
          get_or-remove_below heads p no_atom q below (omega (arith, m, place)),
          get_or-remove_below ss p no_seat q below (omega (arith, many, place)) ∙ same q (omega (arith, below, place)),
          inl (below, refl),
        )
        | inr above ↦ (
          q + 1,
          (omega (arith, l, n, m), (λ e. (absurd (omega (arith, e, above))))),
          get_or-remove_above heads p no_atom q above (omega (arith, m, place)),
          get_or-remove_above ss p no_seat q above (omega (arith, many, place)) ∙ same (q + 1) (omega (arith, l, n, m)),
          inr (above, refl),
        )
      ]

  pub sit_removed : SitIn g (remove heads p) (remove ss p)
  sit_removed = record {
    as_many = (let m = heads_many in
        let a = length-remove heads p (omega (arith, m, place)) in
        let b = length-remove ss p (omega (arith, many, place)) in
        omega (arith, a, b, m, many));
    there = λ q l. (let w = was q l in ap (atom_in (rows_in g)) w.3 ∙ is.there w.0 w.1 ∙ ap Some (sym w.2));
    apart = λ q k l n e. (
        let w = was q (omega (arith, l, n)) in
        let z = was k n in
        is.apart w.0 z.0 w.1 z.1 (differ q k w.0 z.0 l w.4 z.4) (sym w.3 ∙ e ∙ z.3));
  }
    where
      differ : (q k i j : ℕ) → q < k → ((q < p) × (i ≡ q)) ⊎ ((p ≤ q) × (i ≡ q + 1)) → ((k < p) × (j ≡ k))
          ⊎ ((p ≤ k) × (j ≡ k + 1)) → i ≡ j → ⊥
      differ q k i j l (inl a) (inl b) e = absurd (let x = a.1 in let y = b.1 in omega (arith, l, x, y, e))
      differ q k i j l (inl a) (inr b) e = absurd (let x = a.1 in let y = b.1 in omega (arith, l, x, y, e))
      differ q k i j l (inr a) (inl b) e = absurd (let x = a.0 in let y = b.0 in omega (arith, l, x, y))
      differ q k i j l (inr a) (inr b) e = absurd (let x = a.1 in let y = b.1 in omega (arith, l, x, y, e))

-- all but the first n of some atoms sit in all but the first n of their rows
pub sit_drop : (g : Grid) (xs : List Atom) (ss : List Seat) (n : ℕ) → SitIn g xs ss → SitIn g (drop n xs) (drop n ss)
sit_drop g xs ss n sit =
    let a = length-drop n xs in
    let b = length-drop n ss in
    let m = sit.as_many in
    record {
      as_many = omega (arith, a, b, m);
      there = λ q l. (ap (atom_in (rows_in g)) (get_or-drop n ss q no_seat) ∙ sit.there (n + q) (omega (arith, l, a))
          ∙ ap Some (sym (get_or-drop n xs q no_atom)));
      apart = λ q k l h e. (sit.apart (n + q) (n + k) (omega (arith, l)) (omega (arith, h, a))
          (sym (get_or-drop n ss q no_seat) ∙ e ∙ get_or-drop n ss k no_seat));
    }

-- the step
module _ (rules : List Rule) (i : ℕ) (r : Rule) (v : Valuation) (s : Store) (p : ℕ) (at : slice_get rules i ≡ Some r)
    (guard : IsTrue (guard_holds v r.guard.items)) (place : p < length (heads_of r))
    (within : IsWithin (store_of (remove (heads_at v r) p)) s) where
  abbrev pub K : List Atom
  K = atoms_at v r.kept.items

  abbrev pub R : List Atom
  R = atoms_at v r.removed.items

  abbrev pub a : Atom
  a = atom_at v (pattern_at r p)

  heads_are : heads_at v r ≡ K ++ R
  heads_are = map-append (atom_at v) r.kept.items r.removed.items

  many : length (heads_at v r) ≡ length (heads_of r)
  many = length-map (heads_of r) (atom_at v)

  kept_many : length K ≡ length r.kept.items
  kept_many = length-map r.kept.items (atom_at v)

  active : get_or (heads_at v r) p no_atom ≡ a
  active = get_or-map (atom_at v) (heads_of r) p no_pattern

  others : store_of (heads_at v r) ⊖ one a ≡ store_of (remove (heads_at v r) p)
  others = sym (picked_out (heads_at v r) p no_atom (let m = many in omega (arith, m, place))
      ∙ ap (λ x. store_of (heads_at v r) ⊖ one x) active)

  fits : IsWithin (store_of (heads_at v r) ⊖ one a) s
  fits = subst (λ x. IsWithin x s) (sym others) within

  kept_step : p < length r.kept.items → Step rules (s ⊕ one a)
      ((s ⊖ store_of (drop (length r.kept.items - 1) (remove (heads_at v r) p))) ⊕
      (store_of (atoms_at v r.body.items) ⊕ one a))
  kept_step l =
      let m = kept_many in
      let lk : p < length K = omega (arith, l, m) in
      let n = length-remove K p lk in
      let e : drop (length r.kept.items - 1) (remove (heads_at v r) p) ≡ R =
      ap (λ xs. drop (length r.kept.items - 1) (remove xs p)) heads_are
      ∙ ap (drop (length r.kept.items - 1)) (remove-append_left K R p lk)
      ∙ ap (λ k. drop k (remove K p ++ R)) (let f : length r.kept.items - 1 ≡ length (remove K p) =
      omega (arith, m, n) in f)
      ∙ drop-append_seam (remove K p) R in
      let here : get_or K p no_atom ≡ a = sym (get_or_append_left K R no_atom p lk)
      ∙ sym (ap (λ xs. get_or xs p no_atom) heads_are) ∙ active in
      let some : 0 < count (store_of K) a = subst (λ x. 0 < count (store_of K) x) here (picked_in K p no_atom lk) in
      subst (λ xs. Step rules (s ⊕ one a) ((s ⊖ store_of xs) ⊕ (store_of (atoms_at v r.body.items) ⊕ one a))) (sym e)
      (kept_reacts rules i r v s a at guard (some, fits)).step

  removed_step : length r.kept.items ≤ p → Step rules (s ⊕ one a)
      ((s ⊖ store_of (drop (length r.kept.items) (remove (heads_at v r) p))) ⊕ store_of (atoms_at v r.body.items))
  removed_step l =
      let m = kept_many in
      let h = many in
      let lk : length K ≤ p = omega (arith, l, m) in
      let both = length-append K R in
      let all = ap length heads_are in
      let lr : p - length K < length R = omega (arith, place, h, both, all, lk) in
      let e : drop (length r.kept.items) (remove (heads_at v r) p) ≡ remove R (p - length K) =
      ap (λ xs. drop (length r.kept.items) (remove xs p)) heads_are
      ∙ ap (drop (length r.kept.items)) (remove-append_right K R (length K) p refl lk)
      ∙ ap (λ k. drop k (K ++ remove R (p - length K))) (sym m)
      ∙ drop-append_seam K (remove R (p - length K)) in
      let here : get_or R (p - length K) no_atom ≡ a = sym (get_or-append_right K R (length K) p no_atom refl lk)
      ∙ sym (ap (λ xs. get_or xs p no_atom) heads_are) ∙ active in
      let some : 0 < count (store_of R) a = subst (λ x. 0 < count (store_of R) x) here
      (picked_in R (p - length K) no_atom lr) in
      let out : store_of (remove R (p - length K)) ≡ store_of R ⊖ one a = picked_out R (p - length K) no_atom lr
      ∙ ap (λ x. store_of R ⊖ one x) here in
      subst (λ x. Step rules (s ⊕ one a) ((s ⊖ x) ⊕ store_of (atoms_at v r.body.items))) (sym (ap store_of e ∙ out))
      (removed_reacts rules i r v s a at guard (some, fits)).step

  pub fire_step : Step rules (s ⊕ one a) ((s ⊖ store_of (leaving r p (heads_at v r))) ⊕ coming r p v)
  fire_step = elim (cases_lt p (length r.kept.items)) as (λ _. Step rules (s ⊕ one a)
      ((s ⊖ store_of (leaving r p (heads_at v r))) ⊕ coming r p v)) [
        | inl less ↦ (let t : nat_lt p (length r.kept.items) ≡ true = grind (arith, nat_tests) in rw t (kept_step less))
        | inr most ↦ (let t : nat_lt p (length r.kept.items) ≡ false = grind (arith, nat_tests) in
            rw t (removed_step most))
      ]

-- a pool is at rest without rows
pub left_over : (rules : List Rule) (groups : List Group) (ts us : List Contents) (xs : List Atom) (ss : List Seat)
    → grid us ≡ without_rows (grid ts) ss → index_columns us ≡ index_columns ts
    → IsSetUp rules groups (rows_of ts) (index_columns ts) (length ts) → IsSetUp rules groups (rows_of us)
    (index_columns us) (length us)
left_over rules groups ts us xs ss e f up = record {
  tables = (let n = as_many_left ts us ss e in omega (arith, n, up.tables));
  few = up.few;
  placed = λ t n b h. up.placed t n b (sym (row_is ts t n)
      ∙ rows_stay (grid ts) ss t n b (ap (λ (g : Grid). rows_in g t n) (sym e) ∙ row_is us t n ∙ h));
  plans = subst (ArePlanned rules groups) (sym f) up.plans;
  covered = up.covered;
}

pub part_left : (rules : List Rule) (ts us : List Contents) (xs : List Atom) (ss : List Seat) → grid us
    ≡ without_rows (grid ts) ss → SitIn (grid ts) xs ss
    → IsAtRest (Step rules) (contents (grid ts)) → IsAtRest (Step rules) (contents (grid us))
part_left rules ts us xs ss e sit rest =
    let w = rows_leave (grid ts) xs ss sit in
    part_rests rules (contents (grid ts)) (contents (grid us))
    (λ q. (let a = ap (λ g. count (contents g) q) e in let b = ap (λ x. count x q) w.1 in let d =
    count_minus (contents (grid ts)) (store_of xs) q in omega (arith, a, b, d))) rest

-- a step of the atoms at rest and the active one is a step with more fresh atoms beside them
pub fire_beside : (rules : List Rule) (s left fresh out more : Store) (a : Atom) → Step rules (s ⊕ one a) (left ⊕ out)
    → more ≡ fresh ⊕ out → Step rules ((s ⊕ fresh) ⊕ one a) (left ⊕ more)
fire_beside rules s left fresh out more a step e =
    let before : (s ⊕ one a) ⊕ fresh ≡ (s ⊕ fresh) ⊕ one a = same_store _ _ (λ q. simp count_plus (omega arith)) in
    let after : (left ⊕ out) ⊕ fresh ≡ left ⊕ more = same_store _ _ (λ q. simp count_plus (omega arith))
    ∙ ap (λ x. left ⊕ x) (sym e) in
    subst (λ x. Step rules x (left ⊕ more)) before (subst (λ x. Step rules ((s ⊕ one a) ⊕ fresh) x) after
    (grows rules _ _ fresh step))

-- what becomes fresh
module _ (r : Rule) (p : ℕ) (v : Valuation) (heads F B : List Atom) (place : p < length (heads_of r))
    (e : heads_at v r ≡ heads) (body : B ≡ atoms_at v r.body.items) where
  pub come_kept : (x : Atom) → p < length r.kept.items → x ≡ get_or heads p x → store_of ((F ++ B) ++ x ∷ [])
      ≡ store_of F ⊕ coming r p v
  come_kept x l here =
      let t : nat_lt p (length r.kept.items) ≡ true = grind (arith, nat_tests) in
      let n = ap length e in
      let m = length-map (heads_of r) (atom_at v) in
      let is : x ≡ atom_at v (pattern_at r p) =
      here ∙ get_or_default heads p x no_atom (omega (arith, n, m, place)) ∙ ap (λ xs. get_or xs p no_atom) (sym e)
      ∙ get_or-map (atom_at v) (heads_of r) p no_pattern in
      rw t (store_of-append (F ++ B) (x ∷ []) ∙ ap (λ s. s ⊕ one x) (store_of-append F B)
      ∙ plus_assoc (store_of F) (store_of B) (one x)
      ∙ (λ i. store_of F ⊕ (store_of (body i) ⊕ one (is i))))

  pub come_removed : length r.kept.items ≤ p → store_of (F ++ B) ≡ store_of F ⊕ coming r p v
  come_removed l =
      let t : nat_lt p (length r.kept.items) ≡ false = grind (arith, nat_tests) in
      rw t (store_of-append F B ∙ ap (λ xs. store_of F ⊕ store_of xs) body)

-- the rule that the code reads
pub rule_is : (rules : List Rule) (i : ℕ) (r x : Rule) → slice_get rules i ≡ Some r → x ≡ get_or rules i x → r ≡ x
rule_is rules i r x e f = sym (f ∙ get_or_from_slice_get rules i r x e)

-- a row that is sat in lives
pub sit_there : (ts : List Contents) (xs : List Atom) (ss : List Seat) → SitIn (grid ts) xs ss → (q : ℕ) → q < length ss
    → IsTrue (is_some (atom_in (rows_of ts) (seat ss q)))
sit_there ts xs ss sit q l =
    ap is_some (sym (row_is ts (seat ss q).table (seat ss q).row)
    ∙ sit.there q (let m = sit.as_many in omega (arith, l, m)))

module _ (rules : List Rule) (i : ℕ) (r : Rule) (p : ℕ) (heads : List Atom) (seats rows ss : List Seat)
    (ts : List Contents) (at : slice_get rules i ≡ Some r) (place : p < length (heads_of r))
    (is : IsSeated r (rows_of ts) p heads seats) (sits : (g : Grid) (hs : List Atom) → IsSeated r (rows_in g) p hs seats
    → SitIn g (remove hs p) rows) (back : ss ≡ drop (kept_others r p) rows) where
  pub sit_all : SitIn (grid ts) (remove heads p) rows
  sit_all = sits (grid ts) heads (subst (λ f. IsSeated r f p heads seats) (sym (rows_are ts)) is)

  pub sit_left : SitIn (grid ts) (leaving r p heads) ss
  sit_left = subst (λ (k : List Seat). SitIn (grid ts) (leaving r p heads) k) (sym back)
      (sit_drop (grid ts) (remove heads p) rows (kept_others r p) sit_all)

  pub fired : (us : List Contents) (F M : List Atom) → grid us ≡ without_rows (grid ts) ss
      → ((v : Valuation) → heads_at v r ≡ heads → store_of M ≡ store_of F ⊕ coming r p v)
      → Step rules ((contents (grid ts) ⊕ store_of F) ⊕ one (head heads p)) (contents (grid us) ⊕ store_of M)
  fired us F M e come =
      let v = is.instance in
      let s = contents (grid ts) in
      let left : contents (grid us) ≡ s ⊖ store_of (leaving r p heads) =
      ap contents e ∙ (rows_leave (grid ts) (leaving r p heads) ss sit_left).1 in
      let within : IsWithin (store_of (remove (heads_at v.0 r) p)) s =
      subst (λ hs. IsWithin (store_of (remove hs p)) s) (sym v.1)
      (rows_leave (grid ts) (remove heads p) rows sit_all).0 in
      let step = fire_step rules i r v.0 s p at v.2 place within in
      let a : atom_at v.0 (pattern_at r p) ≡ head heads p = sym (get_or-map (atom_at v.0) (heads_of r) p no_pattern)
      ∙ ap (λ hs. head hs p) v.1 in
      let same : Step rules (s ⊕ one (head heads p)) (contents (grid us) ⊕ coming r p v.0) =
      subst (λ x. Step rules (s ⊕ one x) (contents (grid us) ⊕ coming r p v.0)) a
      (subst (λ x. Step rules (s ⊕ one (atom_at v.0 (pattern_at r p))) (x ⊕ coming r p v.0))
      (ap (λ hs. s ⊖ store_of (leaving r p hs)) v.1 ∙ sym left) step) in
      fire_beside rules s (contents (grid us)) (store_of F) (coming r p v.0) (store_of M) (head heads p) same
      (come v.0 v.1)

-- an atom that was the last of the fresh ones
pub popped : (s : Store) (xs ys : List Atom) (a : Atom) → xs ≡ ys ++ a ∷ [] → (s ⊕ store_of ys) ⊕ one a
    ≡ s ⊕ store_of xs
popped s xs ys a e = plus_assoc s (store_of ys) (one a) ∙ ap (λ x. s ⊕ x) (sym (store_of-append ys (a ∷ [])))
    ∙ ap (λ x. s ⊕ store_of x) (sym e)

pub swap_sides : (s f t : Store) → (s ⊕ t) ⊕ f ≡ (s ⊕ f) ⊕ t
swap_sides s f t = same_store _ _ (λ q. simp count_plus (omega arith))
