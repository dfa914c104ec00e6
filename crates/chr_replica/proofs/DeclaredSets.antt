-- The operations of a replica are declared.
use Rattle.std.specs.Prelude.{◌≡◌, cond, not, Bool, true, false, List, [], ◌∷◌, All, Option, Some, None}
use Rattle.std.specs.List.{AllByRecursion}
use Rattle.std.specs.Option.{option_or, unwrap_or}
use Rattle.std.proofs.Common.{refl, sym, ap, ◌∙◌, subst}
use Rattle.std.proofs.lemmas.List.Elements.{All-filter, All-from_recursion, recursion_from_All}
use Rattle.std.proofs.lemmas.Option.{none-some}
use Rattle.std.specs.FinMap as map
use Rattle.std.specs.FinMap.{find}
use Rattle.std.specs.Ordering.{eq_by_cmp}
use Rattle.chr_base.specs.declared.program.Program.{Program}
use Rattle.chr_base.specs.Programs.{declarations, declares_atom}
use Rattle.chr_base.specs.Stores.{Store}
use Rattle.chr_base.specs.Values.{Each}
use Rattle.chr_ops.specs.declared.id.OpId.{OpId}
use Rattle.chr_ops.specs.declared.range.IdRange.{IdRange}
use Rattle.chr_ops.specs.Ids.{id_cmp}
use Rattle.chr_ops.specs.Operations.{Operation, Operations}
use Rattle.chr_ops.specs.Joins.{union}
use Rattle.chr_ops.specs.Summaries.{covers, lacking}
use Rattle.chr_ops.proofs.EntryLists.{each_entry}
use Rattle.chr_ops.proofs.IdOrder.{id_total}
use Rattle.chr_ops.proofs.Unions.{get-union}
use Rattle.chr_replica.specs.Replicas.{IsDeclared, AreDeclared}

pub none_declared : (p : Program) → AreDeclared p map.empty
none_declared p id b e = absurd (none-some b (sym (map.get-empty id_cmp id) ∙ e))

-- what stands under an id after an operation was put in is declared
pub declared_more : (p : Program) (m : Operations) (op : Operation) → AreDeclared p m → IsDeclared p op
    → AreDeclared p (map.insert m op.0 op.1)
declared_more p m op old new q b e = by (eq_by_cmp id_cmp q op.0) (sym (map.get-insert id_total m op.0 op.1 q) ∙ e)
  where
    by : (x : Bool) → cond x (Some op.1) (map.get m q) ≡ Some b → IsDeclared p (q, b)
    by true g = subst (Each (declares_atom (declarations p))) (ap (λ o. unwrap_or o op.1) g) new
    by false g = old q b g

-- what is found in a list has a property that all its bags have
found_has : (P : Store → Type 0) (q : OpId) (b : Store) (os : List Operation) → AllByRecursion (λ o. P o.1) os
    → find id_cmp q os ≡ Some b → P b
found_has P q b [] h e = absurd (none-some b e)
found_has P q b (o ∷ os) h e = by (eq_by_cmp id_cmp q o.0) (found_has P q b os h.1) e
  where
    by : (x : Bool) → (find id_cmp q os ≡ Some b → P b) → cond x (Some o.1) (find id_cmp q os) ≡ Some b → P b
    by true later g = subst P (ap (λ u. unwrap_or u o.1) g) h.0
    by false later g = later g

pub declared_union : (p : Program) (m : Operations) (os : List Operation) → AreDeclared p m → All (IsDeclared p) os
    → AreDeclared p (union m os)
declared_union p m os old new q b e = by (map.get m q) refl (sym (get-union m os q) ∙ e)
  where
    by : (x : Option Store) → map.get m q ≡ x → option_or x (find id_cmp q os) ≡ Some b → IsDeclared p (q, b)
    by (Some c) at g = old q b (at ∙ g)
    by None at g = found_has (Each (declares_atom (declarations p))) q b os (recursion_from_All (IsDeclared p) os new) g

-- what a summary does not cover is declared
pub lacking_declared : (p : Program) (m : Operations) (rs : List IdRange) → AreDeclared p m
    → All (IsDeclared p) (lacking m rs)
lacking_declared p m rs h =
    All-filter (λ o. not (covers rs o.0)) (IsDeclared p) (map.entries m)
    (All-from_recursion (IsDeclared p) (map.entries m)
    (each_entry (Each (declares_atom (declarations p))) m h))
