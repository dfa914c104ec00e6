-- The store of a pool: what is at rest and what is fresh.
use Rattle.std.proofs.Common.{◌≡◌, ℕ, ◌≤◌, List, [], ◌++◌, map, length, drop, arith, sym, ap, subst, ◌∙◌}
use Rattle.std.specs.Prelude.{Result, Ok, Err, OnOk, Bool, IsTrue, ◌↔◌}
use Rattle.std.specs.Bool.{OnTrue}
use Rattle.std.proofs.lemmas.Bool.{OnTrue_at}
use Rattle.chr_base.specs.declared.atom.Atom.{Atom}
use Rattle.chr_base.specs.declared.rule.Rule.{Rule}
use Rattle.chr_base.specs.Atoms.{atom_cmp}
use Rattle.chr_base.specs.FinBag.{empty, ◌⊕◌, ◌⊖◌, IsWithin}
use Rattle.chr_base.proofs.FinBags.{of_list-none}
use Rattle.chr_base.specs.Rewriting.{IsAtRest}
use Rattle.chr_base.specs.Rules.{Step, StepOn, HasInstance, Valuation, heads_at, atoms_at}
use Rattle.chr_base.specs.Sameness.{parts_of}
use Rattle.chr_base.specs.Stores.{Store, store_of, size}
use Rattle.chr_base.proofs.Stores.{same_store, count_plus, count_minus, within_more, plus_comm, plus_assoc, plus_empty}
use Rattle.chr_base.proofs.Stores.{store_of-append, weight_plus, size_weight, size_store_of}
use Rattle.chr_base.proofs.Steps.{removed_heads, removed_within}
use Rattle.chr_tables.specs.Contents.{Contents}
use Rattle.chr_plans.specs.Grids.{contents}
use Rattle.chr_plans.proofs.ActiveAtoms.{same_rest}
use Rattle.chr_columns.specs.declared.settle.Outcome.{Outcome}
use Rattle.chr_columns.specs.declared.settle.Outcome.TheVariants.{Fired, AtRest}
use Rattle.chr_columns.specs.working.Resting.{grid}
use Rattle.chr_columns.specs.working.Listing.{live_in}
use Rattle.chr_columns.proofs.Listed.{store_live}

pub nothing : (s : Store) (xs : List Atom) → s ≡ empty → xs ≡ [] → s ⊕ store_of xs ≡ empty
nothing s xs e f = (λ i. e i ⊕ store_of (f i)) ∙ ap (λ t. empty ⊕ t) (of_list-none atom_cmp) ∙ plus_empty empty

pub inserted : (s : Store) (xs ys zs : List Atom) → zs ≡ xs ++ ys → s ⊕ store_of zs ≡ (s ⊕ store_of xs) ⊕ store_of ys
inserted s xs ys zs e = ap (λ l. s ⊕ store_of l) e ∙ ap (λ t. s ⊕ t) (store_of-append xs ys)
    ∙ sym (plus_assoc s (store_of xs) (store_of ys))

pub inserted_ok : {A E : Type 0} (o : Result A E) (s : Store) (xs ys zs : List Atom) → OnOk o (zs ≡ xs ++ ys)
    → OnOk o (s ⊕ store_of zs ≡ (s ⊕ store_of xs) ⊕ store_of ys)
inserted_ok (Ok x) s xs ys zs e = inserted s xs ys zs e
inserted_ok (Err x) s xs ys zs e = e

-- all atoms at rest became fresh
pub all_fresh : (s : Store) (ts : List Contents) (xs ys : List Atom) → s ≡ empty → ys ≡ xs ++ live_in ts
    → s ⊕ store_of ys ≡ contents (grid ts) ⊕ store_of xs
all_fresh s ts xs ys none e =
    let came : store_of ys ≡ store_of xs ⊕ contents (grid ts) = ap store_of e ∙ store_of-append xs (live_in ts)
    ∙ ap (λ t. store_of xs ⊕ t) (store_live ts) in
    (λ i. none i ⊕ came i) ∙ plus_comm empty (store_of xs ⊕ contents (grid ts))
    ∙ plus_empty (store_of xs ⊕ contents (grid ts)) ∙ plus_comm (store_of xs) (contents (grid ts))

-- nothing is fresh, and what is at rest is so under rules that say the same
pub all_rest : (own rules : List Rule) (rested before : Store) (xs : List Atom) → map parts_of own ≡ map parts_of rules
    → IsAtRest (Step own) rested → xs ≡ []
    → rested ⊕ store_of xs ≡ before → IsAtRest (Step rules) before
all_rest own rules rested before xs e rest none same =
    let all : rested ≡ before = sym (plus_empty rested) ∙ ap (λ t. rested ⊕ t) (sym (of_list-none atom_cmp))
    ∙ ap (λ l. rested ⊕ store_of l) (sym none) ∙ same in
    subst (λ s. IsAtRest (Step rules) s) all (same_rest own rules rested e rest)

-- what leaves may leave after something else came in
leaves_later : (s gone came : Store) → IsWithin gone s → (s ⊕ came) ⊖ gone ≡ (s ⊖ gone) ⊕ came
leaves_later s gone came w = same_store _ _ (λ q. (
    let a = count_minus (s ⊕ came) gone q in
    let b = count_plus s came q in
    let c = count_plus (s ⊖ gone) came q in
    let d = count_minus s gone q in
    let e = w q in
    omega (arith, a, b, c, d, e)))

-- the body came in, and the removed heads left
module _ (r : Rule) (heads gone body : List Atom) (s t u : Store) (h : HasInstance r heads)
    (w : IsWithin (store_of heads) s) (is : gone ≡ drop (length r.kept.items) heads)
    (came : t ≡ s ⊕ store_of body) where
  within : IsWithin (store_of gone) s
  within = rw is (removed_within r heads s h w)

  pub fired_out : ((v : Valuation) → heads_at v r ≡ heads → body ≡ atoms_at v r.body.items) → u ≡ t ⊖ store_of gone
      → StepOn r heads s u
  fired_out made left =
      let v = h.0 in
      let removed : gone ≡ atoms_at v r.removed.items = is ∙ removed_heads r heads v h.1 in
      let after = left ∙ ap (λ x. x ⊖ store_of gone) came ∙ leaves_later s (store_of gone) (store_of body) within in (
        v,
        h.1,
        record {
          guard = h.2;
          there = rw h.1 w;
          after =
              after ∙ (λ i. (s ⊖ store_of (removed i)) ⊕ store_of (made v h.1 i));
        },
      )

  pub fired_in : (b : Bool) → ((v : Valuation) → heads_at v r ≡ heads → body ≡ atoms_at v r.body.items)
      → IsTrue b ↔ IsWithin (store_of gone) t → OnTrue b (u ≡ t ⊖ store_of gone)
      → StepOn r heads s u
  fired_in b made there taken = fired_out made (OnTrue_at
      (there.1 (rw came (within_more (store_of gone) s (store_of body) within))) taken)

-- what joined those at rest has not fired
pub joined_unfired : {E : Type 0} (o : Result Outcome E) → o ≡ Ok AtRest → o ≡ Ok Fired → ⊥
joined_unfired o e f = absurd (let g : Ok AtRest ≡ Ok Fired = sym e ∙ f in cc)

-- where memory was refused none has fired
pub refused_unfired : {E : Type 0} (o : Result Outcome E) (x : E) → o ≡ Err x → o ≡ Ok Fired → ⊥
refused_unfired {E} o x e f = absurd (let g : ◌≡◌ {A = Result Outcome E} (Err x) (Ok Fired) = sym e ∙ f in cc)

-- there are at least as many atoms as fresh ones
pub fresh_within : (s : Store) (xs : List Atom) (n : ℕ) → n ≡ length xs → n ≤ size (s ⊕ store_of xs)
fresh_within s xs n e =
    let a = size_weight (s ⊕ store_of xs) in
    let b = weight_plus (λ _. 1) s (store_of xs) in
    let c = size_weight (store_of xs) in
    let d = size_store_of xs in
    omega (arith, a, b, c, d, e)
