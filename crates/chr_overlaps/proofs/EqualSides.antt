-- Patterns that are the same, each as often, are the same atoms at all values.
use Rattle.std.specs.Prelude.{◌≡◌, ℕ, zero, suc, ℤ, ◌+◌, ◌<◌, ◌≤◌, true, cond, List, [], ◌∷◌, ◌++◌, length, map, Some}
use Rattle.std.specs.Prelude.{slice_get, get_or, drop}
use Rattle.std.specs.List.{list_all, remove}
use Rattle.std.specs.Ordering.{eq_by_cmp}
use Rattle.std.proofs.Common.{sym, ap, subst, ◌∙◌, arith, inl, inr, zero-add}
use Rattle.std.proofs.lemmas.List.{map-append}
use Rattle.std.proofs.lemmas.Option.{same_Some}
use Rattle.chr_base.specs.declared.atom.Atom.{Atom}
use Rattle.chr_base.specs.declared.term.Term.{Term}
use Rattle.chr_base.specs.declared.term.Term.TheVariants.{Variable}
use Rattle.chr_base.specs.declared.term.Pattern.{Pattern}
use Rattle.chr_base.specs.declared.rule.Rule.{Rule}
use Rattle.chr_base.specs.Atoms.{atom_cmp}
use Rattle.chr_base.specs.FinBag.{total}
use Rattle.chr_base.specs.RuleTests.{is_bound_in, terms_of}
use Rattle.chr_base.specs.Rules.{Valuation, atom_at, atoms_at, heads_of}
use Rattle.chr_base.specs.Stores.{store_of, count}
use Rattle.chr_base.proofs.Atoms.{atom_total}
use Rattle.chr_base.proofs.FinBags.{count-of_list}
use Rattle.chr_base.proofs.Instances.{body_known}
use Rattle.chr_base.proofs.Stores.{same_store}
use Rattle.chr_types.specs.OrderTypes.{In}
use Rattle.chr_types.proofs.Members.{in_first, in_second}
use Rattle.chr_confluence.proofs.SortMoves.{all_in}
use Rattle.chr_confluence.specs.Unifiers.{Substitution}
use Rattle.chr_confluence.specs.Overlaps.{variables_of, renamed_apart}
use Rattle.chr_confluence.specs.Representatives.{assignment, free_variables, left_at, right_at}
use Rattle.chr_confluence.proofs.Numbered.{head_variable, occurs_in}
use Rattle.chr_overlaps.specs.EqualSides.{HaveEqualSides}
use Rattle.chr_overlaps.specs.working.Tables.{are_below, class_pattern}
use Rattle.chr_overlaps.proofs.Bounds.{shifted_room}
use Rattle.chr_overlaps.proofs.HeadsAt.{class_atoms}

-- ---- terms of a rule are below its table's length

in_terms : (t : Term) (p : Pattern) (ps : List Pattern) → In p ps → In t p.args.items → In t (terms_of ps)
in_terms t p [] i j = elim i [ ]
in_terms t p (q ∷ ps) (inl e) j = in_first t q.args.items (terms_of ps) (subst (λ (r : Pattern). In t r.args.items) e j)
in_terms t p (q ∷ ps) (inr i) j = in_second t q.args.items (terms_of ps) (in_terms t p ps i j)

pub body_below : (r : Rule) (k n : ℕ) (p : Pattern) → k + variables_of r < n → In p r.body.items
    → are_below n (map (renamed_apart k) p.args.items) ≡ true
body_below r k n p l i =
    let known = all_in (λ (q : Pattern). list_all (is_bound_in (heads_of r)) q.args.items) r.body.items
    (body_known r) p i in
    shifted_room k (variables_of r) n p.args.items l (λ x j.
    (head_variable r x (occurs_in x (heads_of r) (all_in (is_bound_in (heads_of r)) p.args.items known
    (Variable x) j))).1)

pub removed_below : (r : Rule) (k n : ℕ) (p : Pattern) → k + variables_of r < n → In p r.removed.items
    → are_below n (map (renamed_apart k) p.args.items) ≡ true
removed_below r k n p l i =
    shifted_room k (variables_of r) n p.args.items l (λ x j.
    (head_variable r x (in_terms (Variable x) p (heads_of r) (in_second p r.kept.items r.removed.items i) j)).1)

-- ---- the same patterns in another order

counted_without : (f : Atom → ℕ) (v : Valuation) (ps : List Pattern) (i : ℕ) (p : Pattern) → slice_get ps i ≡ Some p
    → total f (atoms_at v ps) ≡ f (atom_at v p) + total f (atoms_at v (remove ps i))
counted_without f v [] i p e = absurd cc
counted_without f v (q ∷ ps) zero p e = ap (λ (r : Pattern). f (atom_at v r) + total f (atoms_at v ps))
    (same_Some q p e)
counted_without f v (q ∷ ps) (suc i) p e = let ih = counted_without f v ps i p e in omega (arith, ih)

same_without : (v : Valuation) (p : Pattern) (left right : List Pattern) (i : ℕ) → slice_get right i ≡ Some p
    → store_of (atoms_at v left) ≡ store_of (atoms_at v (remove right i)) → store_of (atoms_at v (p ∷ left))
    ≡ store_of (atoms_at v right)
same_without v p left right i found same = same_store _ _ (λ q. (
    let a = count-of_list atom_total (atoms_at v (p ∷ left)) q in
    let b = count-of_list atom_total (atoms_at v left) q in
    let c = count-of_list atom_total (atoms_at v (remove right i)) q in
    let d = count-of_list atom_total (atoms_at v right) q in
    let e = counted_without (λ x. cond (eq_by_cmp atom_cmp q x) 1 0) v right i p found in
    let h = ap (λ s. count s q) same in
    omega (arith, a, b, c, d, e, h)))

pub same_behind : (v : Valuation) (p : Pattern) (left right : List Pattern) (i : ℕ) → 1 ≤ length left
    → p ≡ get_or left 0 p → slice_get right i ≡ Some p
    → store_of (atoms_at v (drop 1 left)) ≡ store_of (atoms_at v (remove right i)) → store_of (atoms_at v left)
    ≡ store_of (atoms_at v right)
same_behind v p [] right i l e found same = absurd (omega (arith, l))
same_behind v p (q ∷ left) right i l e found same = same_without v q left right i (found ∙ ap Some e) same

-- ---- both sides

-- patterns of both rules in their classes, at values of these, are the instances' atoms
changed_atoms : (r1 r2 : Rule) (σ : Substitution) (zs : List ℤ) (ps qs : List Pattern)
    → atoms_at (assignment (free_variables σ r1 r2) zs)
    (map (class_pattern σ 0) ps ++ map (class_pattern σ (variables_of r1)) qs)
    ≡ atoms_at (left_at σ r1 r2 zs) ps ++ atoms_at (right_at σ r1 r2 zs) qs
changed_atoms r1 r2 σ zs ps qs =
    let fs = free_variables σ r1 r2 in
    map-append (atom_at (assignment fs zs)) (map (class_pattern σ 0) ps) (map (class_pattern σ (variables_of r1)) qs)
    ∙ (λ i. (class_atoms σ 0 fs zs ps ∙ (λ j. atoms_at (λ x. left_at σ r1 r2 zs (zero-add x j)) ps)) i
    ++ class_atoms σ (variables_of r1) fs zs qs i)

changed_other : (r1 r2 : Rule) (σ : Substitution) (zs : List ℤ) (ps qs : List Pattern)
    → atoms_at (assignment (free_variables σ r1 r2) zs)
    (map (class_pattern σ (variables_of r1)) qs ++ map (class_pattern σ 0) ps)
    ≡ atoms_at (right_at σ r1 r2 zs) qs ++ atoms_at (left_at σ r1 r2 zs) ps
changed_other r1 r2 σ zs ps qs =
    let fs = free_variables σ r1 r2 in
    map-append (atom_at (assignment fs zs)) (map (class_pattern σ (variables_of r1)) qs) (map (class_pattern σ 0) ps)
    ∙ (λ i. class_atoms σ (variables_of r1) fs zs qs i
    ++ (class_atoms σ 0 fs zs ps ∙ (λ j. atoms_at (λ x. left_at σ r1 r2 zs (zero-add x j)) ps)) i)

pub have_equal_sides : (r1 r2 : Rule) (σ : Substitution) (left right : List Pattern)
    → left ≡ map (class_pattern σ 0) r1.body.items ++ map (class_pattern σ (variables_of r1)) r2.removed.items
    → right ≡ map (class_pattern σ (variables_of r1)) r2.body.items ++ map (class_pattern σ 0) r1.removed.items
    → ((v : Valuation) → store_of (atoms_at v left) ≡ store_of (atoms_at v right)) → HaveEqualSides r1 r2 σ
have_equal_sides r1 r2 σ left right l r same zs =
    let v = assignment (free_variables σ r1 r2) zs in
    sym (ap store_of ((λ i. atoms_at v (l i)) ∙ changed_atoms r1 r2 σ zs r1.body.items r2.removed.items))
    ∙ same v
    ∙ ap store_of ((λ i. atoms_at v (r i)) ∙ changed_other r1 r2 σ zs r1.removed.items r2.body.items)
