-- Laws of steps.
use Rattle.std.specs.Prelude.{◌≡◌, ℕ, ◌+◌, ◌<◌, List, ◌++◌, length, get_or, drop, Option, Some, None, slice_get}
use Rattle.std.specs.Prelude.{is_some, IsTrue, IfSome, ◌↔◌, true, false}
use Rattle.std.proofs.Common.{refl, sym, ap, subst, ◌∙◌, arith, length-append}
use Rattle.std.proofs.Math.Seq.{drop-append_seam}
use mathlib.Core.Bool.{true≢false}
use Rattle.std.proofs.lemmas.List.{map-append, length-map}
use Rattle.std.proofs.lemmas.Option.{slice_get_read, slice_get_within, get_or_from_slice_get}
use Rattle.chr_base.specs.declared.atom.Atom.{Atom}
use Rattle.chr_base.specs.declared.rule.Rule.{Rule}
use Rattle.chr_base.specs.FinBag as bag
use Rattle.chr_base.specs.FinBag.{◌⊕◌, ◌⊖◌, IsWithin}
use Rattle.chr_base.specs.Stores.{Store, store_of, weight_of, count}
use Rattle.chr_base.specs.Rules.{Step, StepBy, StepOn, HasInstance, HasNoStep, RuleLowers, Valuation, heads_of}
use Rattle.chr_base.specs.Rules.{heads_at, atoms_at, atom_at}
use Rattle.chr_base.specs.Rewriting.{Grows, Lowers, Runs, Reaches, IsAtRest}
use Rattle.chr_base.proofs.Rewriting as runs
use Rattle.chr_base.proofs.Stores.{exchange_plus, within_more, weight_exchange, weight_store_of, store_of-append}
use Rattle.chr_base.proofs.Stores.{count_plus, plus_comm}

-- the removed heads are there
pub removed_there : (r : Rule) (v : Valuation) (s : Store) → IsWithin (store_of (heads_at v r)) s
    → IsWithin (store_of (atoms_at v r.removed.items)) s
removed_there r v s h q =
    let e = ap (λ xs. count (store_of xs) q) (map-append (atom_at v) r.kept.items r.removed.items) in
    let f = ap (λ x. count x q) (store_of-append (atoms_at v r.kept.items) (atoms_at v r.removed.items)) in
    let g = count_plus (store_of (atoms_at v r.kept.items)) (store_of (atoms_at v r.removed.items)) q in
    let w = h q in
    omega (arith, e, f, g, w)

-- a step in a store is a step in every larger store
pub StepBy-grows : (r : Rule) (v : Valuation) (s t x : Store) → StepBy r v s t → StepBy r v (s ⊕ x) (t ⊕ x)
StepBy-grows r v s t x h = record {
  guard = h.guard;
  there = within_more _ s x h.there;
  after = ap (λ y. y ⊕ x) h.after ∙ sym (exchange_plus s _ _ x (removed_there r v s h.there));
}

pub grows : (rules : List Rule) → Grows (Step rules) bag.empty ◌⊕◌
grows rules s t x h = (h.0, h.1, h.2, h.3, StepBy-grows h.1 h.2 s t x h.4)

-- a run goes on in every larger store
pub Runs-grows : (rules : List Rule) (n : ℕ) (s t x : Store) → Runs (Step rules) n s t
    → Runs (Step rules) n (s ⊕ x) (t ⊕ x)
Runs-grows rules n s t x r = runs.Runs-grows (Step rules) bag.empty ◌⊕◌ (grows rules) plus_comm n s t x r

pub Reaches-grows : (rules : List Rule) (s t x : Store) → Reaches (Step rules) s t
    → Reaches (Step rules) (s ⊕ x) (t ⊕ x)
Reaches-grows rules s t x r = runs.reaches_grows (Step rules) bag.empty ◌⊕◌ (grows rules) plus_comm s t x r

pub step_lowers : (w : Atom → ℕ) (rules : List Rule) → ((i : ℕ) (r : Rule) → slice_get rules i ≡ Some r
    → RuleLowers w r) → Lowers (Step rules) (weight_of w)
step_lowers w rules lowers s t h =
    let r = h.1 in let v = h.2 in let st = h.4 in
    let a = lowers h.0 r h.3 v in
    let b = weight_exchange w s (store_of (atoms_at v r.removed.items)) (store_of (atoms_at v r.body.items))
    (removed_there r v s st.there) in
    let c = ap (weight_of w) st.after in
    let d = weight_store_of w (atoms_at v r.removed.items) in
    let e = weight_store_of w (atoms_at v r.body.items) in
    omega (arith, a, b, c, d, e)

-- the removed heads come after the kept ones
pub removed_heads : (r : Rule) (heads : List Atom) (v : Valuation) → heads_at v r ≡ heads
    → drop (length r.kept.items) heads ≡ atoms_at v r.removed.items
removed_heads r heads v e =
    ap (drop (length r.kept.items)) (sym e ∙ map-append (atom_at v) r.kept.items r.removed.items)
    ∙ ap (λ n. drop n (atoms_at v r.kept.items ++ atoms_at v r.removed.items))
    (sym (length-map r.kept.items (atom_at v))) ∙ drop-append_seam (atoms_at v r.kept.items)
    (atoms_at v r.removed.items)

-- an instance has one atom for each head place
pub heads_length : (r : Rule) (heads : List Atom) → HasInstance r heads → length heads
    ≡ length r.kept.items + length r.removed.items
heads_length r heads h =
    let a = ap length h.1 in
    let b = length-map (heads_of r) (atom_at h.0) in
    let c = length-append r.kept.items r.removed.items in
    omega (arith, a, b, c)

-- the removed heads are there, since all heads are
pub removed_within : (r : Rule) (heads : List Atom) (s : Store) → HasInstance r heads → IsWithin (store_of heads) s
    → IsWithin (store_of (drop (length r.kept.items) heads)) s
removed_within r heads s h w = rw (removed_heads r heads h.0 h.1) (removed_there r h.0 s (rw h.1 w))

-- heads that are there make a step
pub instance_steps : (r : Rule) (heads : List Atom) (s : Store) → HasInstance r heads → IsWithin (store_of heads) s
    → HasNoStep r s → ⊥
instance_steps r heads s h w none =
    none h.0 ((s ⊖ store_of (atoms_at h.0 r.removed.items)) ⊕ store_of (atoms_at h.0 r.body.items))
    (record { guard = h.2; there = rw h.1 w; after = refl })

-- heads that are there make a step of the program
pub heads_step : (rules : List Rule) (i : ℕ) (r : Rule) (heads : List Atom) (s : Store) → i < length rules
    → r ≡ get_or rules i r → HasInstance r heads → IsWithin (store_of heads) s → IsAtRest (Step rules) s → ⊥
heads_step rules i r heads s l is h w rest =
    rest ((s ⊖ store_of (atoms_at h.0 r.removed.items)) ⊕ store_of (atoms_at h.0 r.body.items)) (
      i,
      r,
      h.0,
      slice_get_read rules (length rules) i r refl l is,
      record { guard = h.2; there = rw h.1 w; after = refl },
    )

-- a step of one rule of the program
pub step_found : (rules : List Rule) (i : ℕ) (r : Rule) (heads : List Atom) (s s' t : Store) → i < length rules
    → r ≡ get_or rules i r → s' ≡ s → StepOn r heads s' t → Step rules s t
step_found rules i r heads s s' t l is same h = (
  i,
  r,
  h.0,
  slice_get_read rules (length rules) i r refl l is,
  subst (λ x. StepBy r h.0 x t) same h.2,
)

-- no rule has a step
pub rests : (rules : List Rule) (s : Store) → ((k : ℕ) (d : Rule) → k < length rules → HasNoStep (get_or rules k d) s)
    → IsAtRest (Step rules) s
rests rules s none u h =
    let e : get_or rules h.0 h.1 ≡ h.1 = get_or_from_slice_get rules h.0 h.1 h.1 h.3 in
    subst (λ r. HasNoStep r s) e (none h.0 h.1 (slice_get_within rules h.0 h.1 h.3)) h.2 u h.4

-- what was found makes a step
pub found_step : {A : Type 0} (items : A → List Atom) (rules : List Rule) (i : ℕ) (r : Rule) (o : Option A) (s : Store)
    → i < length rules → r ≡ get_or rules i r → IfSome o (λ a. HasInstance r (items a))
    → IfSome o (λ a. IsWithin (store_of (items a)) s)
    → is_some o ≡ true → IsTrue false ↔ IsAtRest (Step rules) s
found_step items rules i r None s l is h w e = absurd (true≢false (sym e))
found_step items rules i r (Some a) s l is h w e = (
  (λ f. absurd (true≢false (sym f))),
  λ rest. absurd (heads_step rules i r (items a) s l is h w rest),
)
