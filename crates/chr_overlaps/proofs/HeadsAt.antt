-- The instances at a representative: their heads, their guards and the case.
use Rattle.std.proofs.lemmas.List.{map-append}
use Rattle.std.proofs.lemmas.List.Folds.{list_all-append}
use Rattle.std.specs.Ordering.{int_cmp}
use Rattle.std.specs.Prelude.{◌≡◌, ℕ, ℤ, ◌+◌, Bool, true, false, ◌&&◌, cond, List, [], ◌∷◌, map, Some, None}
use Rattle.std.proofs.Common.{refl, sym, ap, ◌∙◌, zero-add}
use Rattle.chr_base.specs.declared.atom.Atom.{Atom}
use Rattle.chr_base.specs.declared.term.Term.{Term}
use Rattle.chr_base.specs.declared.term.Term.TheVariants.{Variable, Constant}
use Rattle.chr_base.specs.declared.term.Comparison.{Comparison}
use Rattle.chr_base.specs.declared.term.Pattern.{Pattern}
use Rattle.chr_base.specs.declared.rule.Rule.{Rule}
use Rattle.chr_base.specs.Stores.{Store, store_of}
use Rattle.chr_base.specs.Rules.{Valuation, term_value, comparison_holds, compares, atom_at, atoms_at, heads_of}
use Rattle.chr_base.specs.Rules.{heads_at, guard_holds}
use Rattle.chr_confluence.specs.Unifiers.{Substitution}
use Rattle.chr_confluence.specs.Matchings.{case_atoms}
use Rattle.chr_confluence.specs.Cases.{case_store}
use Rattle.chr_confluence.specs.Overlaps.{variables_of}
use Rattle.chr_confluence.specs.Representatives.{free_variables, assignment, instance_at, left_at, right_at}
use Rattle.chr_confluence.specs.Representatives.{guards_hold}
use Rattle.chr_overlaps.specs.declared.overlap.Overlap.{Overlap}
use Rattle.chr_overlaps.specs.CaseLists.{case_at}
use Rattle.chr_overlaps.specs.working.Tables.{class_term, class_pattern, class_comparison}
use Rattle.chr_overlaps.specs.working.Unifiers.{classes_of, IsUnified}
use Rattle.chr_overlaps.specs.declared.unify.Unified.{Unified}

class_values : (σ : Substitution) (k : ℕ) (fs : List ℕ) (zs : List ℤ) (ts : List Term)
    → map (term_value (assignment fs zs)) (map (class_term σ k) ts)
    ≡ map (term_value (λ x. instance_at σ fs zs (k + x))) ts
class_values σ k fs zs [] = refl
class_values σ k fs zs (Variable x ∷ ts) = ap (λ vs. instance_at σ fs zs (k + x) ∷ vs) (class_values σ k fs zs ts)
class_values σ k fs zs (Constant c ∷ ts) = ap (λ vs. c ∷ vs) (class_values σ k fs zs ts)

pub class_atoms : (σ : Substitution) (k : ℕ) (fs : List ℕ) (zs : List ℤ) (ps : List Pattern)
    → atoms_at (assignment fs zs) (map (class_pattern σ k) ps) ≡ atoms_at (λ x. instance_at σ fs zs (k + x)) ps
class_atoms σ k fs zs [] = refl
class_atoms σ k fs zs (p ∷ ps) = λ i. record {
  symbol = p.symbol;
  args =
      record { items = class_values σ k fs zs p.args.items i };
} ∷ class_atoms σ k fs zs ps i

-- the heads in their classes, each class with its value, are the heads of the instances
pub left_heads : (r1 r2 : Rule) (u : Unified) (zs : List ℤ) → IsUnified r1 r2 u
    → atoms_at (assignment u.free.items zs) u.first.items ≡ heads_at (left_at (classes_of u) r1 r2 zs) r1
left_heads r1 r2 u zs is =
    (λ i. atoms_at (assignment (is.free i) zs) (is.first i))
    ∙ class_atoms (classes_of u) 0 _ zs (heads_of r1)
    ∙ (λ i. atoms_at (λ x. left_at (classes_of u) r1 r2 zs (zero-add x i)) (heads_of r1))

pub right_heads : (r1 r2 : Rule) (u : Unified) (zs : List ℤ) → IsUnified r1 r2 u
    → atoms_at (assignment u.free.items zs) u.second.items ≡ heads_at (right_at (classes_of u) r1 r2 zs) r2
right_heads r1 r2 u zs is =
    (λ i. atoms_at (assignment (is.free i) zs) (is.second i)) ∙ class_atoms (classes_of u) (variables_of r1) _ zs
    (heads_of r2)

class_value : (σ : Substitution) (k : ℕ) (fs : List ℕ) (zs : List ℤ) (t : Term)
    → term_value (assignment fs zs) (class_term σ k t) ≡ term_value (λ x. instance_at σ fs zs (k + x)) t
class_value σ k fs zs (Variable x) = refl
class_value σ k fs zs (Constant c) = refl

class_guard : (σ : Substitution) (k : ℕ) (fs : List ℕ) (zs : List ℤ) (cs : List Comparison)
    → guard_holds (assignment fs zs) (map (class_comparison σ k) cs) ≡ guard_holds (λ x. instance_at σ fs zs (k + x)) cs
class_guard σ k fs zs [] = refl
class_guard σ k fs zs (c ∷ cs) = λ i. compares c.cmp (int_cmp (class_value σ k fs zs c.left i)
    (class_value σ k fs zs c.right i)) && class_guard σ k fs zs cs i

-- the comparisons in their classes hold just where both guards do
pub guards_are : (r1 r2 : Rule) (u : Unified) (zs : List ℤ) → IsUnified r1 r2 u
    → guard_holds (assignment u.free.items zs) u.guards.items ≡ guards_hold (classes_of u) r1 r2 zs
guards_are r1 r2 u zs is =
    let fs = free_variables (classes_of u) r1 r2 in
    (λ i. guard_holds (assignment (is.free i) zs) (is.guards i))
    ∙ list_all-append (comparison_holds (assignment fs zs)) (map (class_comparison (classes_of u) 0) r1.guard.items)
    (map (class_comparison (classes_of u) (variables_of r1)) r2.guard.items)
    ∙ (λ i. class_guard (classes_of u) 0 fs zs r1.guard.items i && class_guard (classes_of u)
    (variables_of r1) fs zs r2.guard.items i)
    ∙ (λ i. guard_holds (λ x. left_at (classes_of u) r1 r2 zs (zero-add x i)) r1.guard.items
    && guard_holds (right_at (classes_of u) r1 r2 zs) r2.guard.items)

pub store_at : (r1 r2 : Rule) (m : List ℕ) (v1 v2 : Valuation)
    → store_of (case_atoms (heads_at v1 r1) (heads_at v2 r2) m) ≡ case_store r1 r2 m v1 v2
store_at r1 r2 m v1 v2 i = store_of (case_atoms (map-append (atom_at v1) r1.kept.items r1.removed.items i)
    (map-append (atom_at v2) r2.kept.items r2.removed.items i) m)

-- no case where the guards don't hold, and else the instances' heads and their store
pub case_fails : {A : Type 0} (a : Bool) (x : A) → a ≡ false → None ≡ cond a (Some x) None
case_fails a x e = λ i. cond (sym e i) (Some x) None

pub case_is : (o : Overlap) (r1 r2 : Rule) (σ : Substitution) (zs : List ℤ) (as' bs : List Atom) (s : Store)
    → as' ≡ heads_at (left_at σ r1 r2 zs) r1 → bs ≡ heads_at (right_at σ r1 r2 zs) r2
    → s ≡ store_of (case_atoms as' bs o.matching.items) → guards_hold σ r1 r2 zs ≡ true
    → Some (record {
      store = s;
      left = record { rule = o.first; heads = record { items = as' } };
      right =
          record { rule = o.second; heads = record { items = bs } };
    })
    ≡ cond (guards_hold σ r1 r2 zs) (Some (case_at o r1 r2 σ zs)) None
case_is o r1 r2 σ zs as' bs s l r e g =
    let store : s ≡ case_store r1 r2 o.matching.items (left_at σ r1 r2 zs) (right_at σ r1 r2 zs) =
    e ∙ (λ i. store_of (case_atoms (l i) (r i) o.matching.items)) ∙ store_at r1 r2 o.matching.items (left_at σ r1 r2 zs)
    (right_at σ r1 r2 zs) in
    (λ i. Some (record {
      store = store i;
      left = record { rule = o.first; heads = record { items = l i } };
      right =
          record { rule = o.second; heads = record { items = r i } };
    }))
    ∙ (λ i. cond (sym g i) (Some (case_at o r1 r2 σ zs)) None)
