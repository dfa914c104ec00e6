-- When a rule has an instance with given heads, by the three tests of the code.
use Rattle.std.proofs.Common.{◌≡◌, ℕ, ◌≤◌, Bool, true, false, List, [], ◌++◌, length, take, drop, sym, ap, ◌∙◌}
use Rattle.std.specs.Prelude.{ℤ, ◌↔◌, IsTrue, is_some}
use mathlib.Core.Bool.{true≢false}
use Rattle.chr_base.specs.declared.atom.Atom.{Atom}
use Rattle.chr_base.specs.declared.rule.Rule.{Rule}
use Rattle.chr_base.specs.declared.term.Pattern.{Pattern}
use Rattle.chr_base.specs.Rules.{HasInstance, Valuation, heads_of, heads_at, atom_at, atoms_at, guard_holds, valued}
use Rattle.chr_base.specs.RuleTests.{numbered, terms_of}
use Rattle.chr_base.specs.working.Bindings.{Binds, Refuses}
use Rattle.chr_base.proofs.Instances.{same_on, same_atoms, same_guard, numbered_rule, guard_known, body_known}
use Rattle.chr_base.proofs.Terms.{terms_of-append, first_numbered}
use Rattle.chr_base.proofs.Bindings.{binds_then, refuses_then, rest_numbered, cut_iff, comes_out, keeps_none}
use Rattle.std.proofs.lemmas.List.{length-map}
use Rattle.std.proofs.lemmas.List.{take_all}

-- an instance has one atom for each head place
pub instance_places : (r : Rule) (heads : List Atom) → HasInstance r heads → length heads ≡ length (heads_of r)
instance_places r heads h = ap length (sym h.1) ∙ length-map (heads_of r) (atom_at h.0)

-- where there isn't one atom for each head place, the test fails
pub no_instance : (r : Rule) (heads : List Atom) → (length heads ≡ length (heads_of r) → true ≡ false)
    → IsTrue false ↔ HasInstance r heads
no_instance r heads ne = ((λ h. absurd (true≢false (sym h))), λ h. absurd (true≢false (ne (instance_places r heads h))))

-- ---- the heads, the kept ones first

module _ (r : Rule) where
  abbrev kept : List Pattern
  kept = r.kept.items

  abbrev removed : List Pattern
  removed = r.removed.items

  numbered_parts : is_some (numbered 0 (terms_of kept ++ terms_of removed)) ≡ true
  numbered_parts = ap (λ ts. is_some (numbered 0 ts)) (sym (terms_of-append kept removed)) ∙ numbered_rule r

  pub kept_numbered : is_some (numbered 0 (terms_of kept)) ≡ true
  kept_numbered = first_numbered 0 (terms_of kept) (terms_of removed) numbered_parts

  pub removed_numbered : (us : List ℤ) (P : Valuation → Type 0) → Binds [] us (terms_of kept) P
      → is_some (numbered (length us) (terms_of removed)) ≡ true
  removed_numbered us P b = rest_numbered [] us (terms_of kept) (terms_of removed) P numbered_parts b

  pub heads_bound : (heads : List Atom) (us ws : List ℤ) → length kept ≤ length heads → Binds []
      us (terms_of kept) (λ w. atoms_at w kept ≡ take (length kept) heads)
      → Binds us ws (terms_of removed) (λ w. atoms_at w removed ≡ drop (length kept) heads) → heads_at (valued ws) r
      ≡ heads
  heads_bound heads us ws l b c =
      comes_out ws (terms_of kept ++ terms_of removed) (λ w. heads_at w r ≡ heads)
      (binds_then [] us ws (terms_of kept) (terms_of removed) _ _ _ b c (λ w. cut_iff w kept removed heads l))

  pub removed_refused : (heads : List Atom) (us : List ℤ) → length kept ≤ length heads → Binds []
      us (terms_of kept) (λ w. atoms_at w kept ≡ take (length kept) heads)
      → Refuses us (λ w. atoms_at w removed ≡ drop (length kept) heads) → (w : Valuation) → ¬ (heads_at w r ≡ heads)
  removed_refused heads us l b c w e = refuses_then []
      us (terms_of kept) _ _ _ b c (λ v. (cut_iff v kept removed heads l).0) w (keeps_none w) e

  -- where the heads come out by these values, the guard decides
  pub by_guard : (heads : List Atom) (vs : List ℤ) (b : Bool) → heads_at (valued vs) r ≡ heads
      → b ≡ guard_holds (valued vs) r.guard.items → IsTrue b ↔ HasInstance r heads
  by_guard heads vs b e g = (
    (λ t. (valued vs, e, sym g ∙ t)),
    λ h. g ∙ same_guard (heads_of r) (valued vs) h.0 r.guard.items
        (same_on r heads (valued vs) h.0 e h.1) (guard_known r) ∙ h.2,
  )

  -- the body is the same by all values by which the heads come out
  pub body_same : (heads : List Atom) (vs : List ℤ) → heads_at (valued vs) r ≡ heads → (v : Valuation) → heads_at v r
      ≡ heads
      → atoms_at (valued vs) r.body.items ≡ atoms_at v r.body.items
  body_same heads vs f v h = same_atoms (heads_of r) r.body.items (valued vs) v (same_on r heads (valued vs) v f h)
      (body_known r)

  -- the body that was made of each pattern is the instance's
  pub body_whole : (heads : List Atom) (vs : List ℤ) (items : List Pattern) (i : ℕ) (bs : List Atom)
      → heads_at (valued vs) r ≡ heads → bs ≡ atoms_at (valued vs) (take i items)
      → items ≡ r.body.items → length items ≤ i → (v : Valuation) → heads_at v r ≡ heads → bs ≡ atoms_at v r.body.items
  body_whole heads vs items i bs f e is l v h =
      e ∙ ap (atoms_at (valued vs)) (take_all i items l ∙ is) ∙ body_same heads vs f v h
