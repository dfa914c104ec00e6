-- A case at one choice of values, carried to another of the same order.
use Rattle.std.proofs.lemmas.Bool.{and_parts}
use Rattle.std.specs.Prelude.{◌≡◌, ℕ, ℤ, Bool, true, ◌&&◌, List, ◌++◌, Some, slice_get, map}
use Rattle.std.specs.List.{list_all}
use Rattle.std.proofs.Common.{sym, ◌∙◌}
use Rattle.std.proofs.lemmas.List.Folds.{list_all-append}
use Rattle.chr_base.specs.declared.term.Pattern.{Pattern}
use Rattle.chr_base.specs.declared.rule.Rule.{Rule}
use Rattle.chr_base.specs.Stores.{Store, store_of}
use Rattle.chr_base.specs.RuleTests.{is_bound_in}
use Rattle.chr_base.specs.Rules.{Step, Valuation, atoms_at, heads_of}
use Rattle.chr_base.proofs.Instances.{SameOn, same_atoms, known_itself, body_known}
use Rattle.std.proofs.lemmas.List.{map-append}
use Rattle.chr_base.specs.FinBag.{IsWithin}
use Rattle.chr_base.specs.Rewriting.{AreJoinable}
use Rattle.chr_base.specs.Values.{Each, args_in}
use Rattle.chr_confluence.specs.Cases.{side, both_heads, case_store}
use Rattle.chr_confluence.specs.Rising.{KeepsOrder, FixesRule, rename, rename_atom}
use Rattle.chr_confluence.specs.Images.{CarriesSteps}
use Rattle.chr_confluence.proofs.Carrying as carrying
use Rattle.chr_confluence.proofs.Rising.{rising_carries, values_kept, atoms_move, fixes_kept, fixes_removed, fixes_body}

abbrev AreKnown : Rule → List Pattern → Type 0
AreKnown r ps = list_all (λ p. list_all (is_bound_in (heads_of r)) p.args.items) ps ≡ true

-- the variables of kept and of removed heads are variables of the heads
both_known : (r : Rule) → (list_all (λ p. list_all (is_bound_in (heads_of r)) p.args.items) r.kept.items
    && list_all (λ p. list_all (is_bound_in (heads_of r)) p.args.items) r.removed.items) ≡ true
both_known r = sym (list_all-append (λ p. list_all (is_bound_in (heads_of r)) p.args.items) r.kept.items
    r.removed.items) ∙ known_itself (heads_of r)

pub kept_known : (r : Rule) → AreKnown r r.kept.items
kept_known r = (and_parts _ (list_all (λ p. list_all (is_bound_in (heads_of r)) p.args.items) r.removed.items)
    (both_known r)).0

pub removed_known : (r : Rule) → AreKnown r r.removed.items
removed_known r = (and_parts (list_all (λ p. list_all (is_bound_in (heads_of r)) p.args.items) r.kept.items) _
    (both_known r)).1

module _ (f : ℤ → ℤ) (d : ℤ → Bool) where
  pub heads_carried : (r : Rule) (v w : Valuation) → FixesRule f d r → SameOn (heads_of r) (λ x. f (w x)) v
      → map (rename_atom f) (both_heads r w) ≡ both_heads r v
  heads_carried r v w fixes same =
      let kept = sym (atoms_move f d w r.kept.items (fixes_kept f d r fixes))
      ∙ same_atoms (heads_of r) r.kept.items _ v same (kept_known r) in
      let removed = sym (atoms_move f d w r.removed.items (fixes_removed f d r fixes))
      ∙ same_atoms (heads_of r) r.removed.items _ v same (removed_known r) in
      map-append (rename_atom f) _ _ ∙ (λ i. kept i ++ removed i)

  -- a side of a case is carried to the side of the carried case
  pub side_carried : (r : Rule) (v w : Valuation) (c c' : Store) → FixesRule f d r
      → SameOn (heads_of r) (λ x. f (w x)) v → IsWithin (store_of (atoms_at w r.removed.items)) c → rename f c ≡ c'
      → rename f (side r w c) ≡ side r v c'
  side_carried r v w c c' fixes same inside e =
      carrying.side_carried (rename_atom f) r w v c c'
      (sym (atoms_move f d w r.removed.items (fixes_removed f d r fixes))
      ∙ same_atoms (heads_of r) r.removed.items _ v same (removed_known r))
      (sym (atoms_move f d w r.body.items (fixes_body f d r fixes)) ∙ same_atoms (heads_of r) r.body.items _ v same
      (body_known r)) inside e

  module _ (keeps : KeepsOrder f d) (rules : List Rule)
      (fixes : (i : ℕ) (r : Rule) → slice_get rules i ≡ Some r → FixesRule f d r) where
    carries_steps : CarriesSteps (rename_atom f) (args_in d) rules
    carries_steps = record {
      stays = λ s t each st. values_kept f d st.1 st.2 s t (fixes st.0 st.1 st.3) each st.4;
      carries = λ i r v s t at each st. (_, rising_carries f d keeps r v s t (fixes i r at) each st);
    }

    pub join_carried : (s t : Store) → Each (args_in d) s → Each (args_in d) t → AreJoinable (Step rules) s t
        → AreJoinable (Step rules) (rename f s) (rename f t)
    join_carried s t e g j = carrying.join_carried (rename_atom f) (args_in d) rules carries_steps s t e g j

pub case_carried : (f : ℤ → ℤ) (r1 r2 : Rule) (m : List ℕ) (v1 v2 w1 w2 : Valuation)
    → map (rename_atom f) (both_heads r1 w1) ≡ both_heads r1 v1
    → map (rename_atom f) (both_heads r2 w2) ≡ both_heads r2 v2 → rename f (case_store r1 r2 m w1 w2)
    ≡ case_store r1 r2 m v1 v2
case_carried f r1 r2 m v1 v2 w1 w2 e g = carrying.case_carried (rename_atom f) r1 r2 m w1 w2 v1 v2 e g
