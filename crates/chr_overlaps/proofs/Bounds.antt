-- The variables of a rule's heads are less than any bound on their number.
use Rattle.std.specs.Prelude.{◌≡◌, ℕ, zero, suc, ◌+◌, ◌<◌, ◌≤◌, Bool, true, false, ◌&&◌, nat_lt, List, [], ◌∷◌, ◌++◌}
use Rattle.std.specs.Prelude.{length, get_or, map}
use Rattle.std.specs.List.{list_all}
use mathlib.Core.Bool.{true≢false}
use Rattle.std.proofs.Common.{refl, sym, ap, subst, ◌∙◌, arith, inl, inr}
use Rattle.std.proofs.lemmas.Bool.{and_parts, leb-true}
use Rattle.std.proofs.lemmas.Bool.Decides.{nat_tests}
use Rattle.std.proofs.lemmas.List.{length-map}
use Rattle.std.proofs.lemmas.List.Folds.{list_all_at}
use Rattle.chr_base.specs.declared.term.Term.{Term}
use Rattle.chr_base.specs.declared.term.Term.TheVariants.{Variable, Constant}
use Rattle.chr_base.specs.declared.term.Comparison.{Comparison}
use Rattle.chr_base.specs.declared.term.Pattern.{Pattern}
use Rattle.chr_base.specs.declared.rule.Rule.{Rule}
use Rattle.chr_base.specs.Rules.{heads_of, no_pattern}
use Rattle.chr_base.specs.RuleTests.{terms_of, is_bound_in}
use Rattle.chr_base.specs.Names.{is_label}
use Rattle.std.specs.Option.{option_map}
use Rattle.std.specs.Prelude.{nat_le}
use Rattle.chr_base.specs.declared.limits.TheConstants.{MAX_COMPARISONS, MAX_BODY}
use Rattle.chr_base.proofs.Instances.{guard_known, few_rule}
use Rattle.chr_types.specs.OrderTypes.{In}
use Rattle.chr_types.proofs.Members.{in_first, in_second}
use Rattle.chr_confluence.specs.Overlaps.{variables_of, renamed_apart}
use Rattle.chr_confluence.proofs.Numbered.{head_variable, occurs_in}
use Rattle.chr_overlaps.specs.working.Tables.{is_below, are_below}

-- a head's arguments are among the terms of all heads
in_heads : (x : ℕ) (ps : List Pattern) (i : ℕ) → In (Variable x) (get_or ps i no_pattern).args.items
    → In (Variable x) (terms_of ps)
in_heads x [] i h = absurd h
in_heads x (p ∷ ps) zero h = in_first (Variable x) p.args.items (terms_of ps) h
in_heads x (p ∷ ps) (suc i) h = in_second (Variable x) p.args.items (terms_of ps) (in_heads x ps i h)

pub shifted_room : (k n m : ℕ) (ts : List Term) → k + n < m → ((x : ℕ) → In (Variable x) ts → x ≤ n)
    → are_below m (map (renamed_apart k) ts) ≡ true
shifted_room k n m [] l h = refl
shifted_room k n m (Constant c ∷ ts) l h = shifted_room k n m ts l (λ x i. h x (inr i))
shifted_room k n m (Variable y ∷ ts) l h =
    let one : y ≤ n = h y (inl refl) in
    let here : nat_lt (k + y) m ≡ true = grind (arith, nat_tests) in
    rw here (shifted_room k n m ts l (λ x i. h x (inr i)))

room : (n m : ℕ) (ts : List Term) → n < m → ((x : ℕ) → In (Variable x) ts → x ≤ n) → are_below m ts ≡ true
room n m [] l h = refl
room n m (Constant c ∷ ts) l h = room n m ts l (λ x i. h x (inr i))
room n m (Variable y ∷ ts) l h =
    let one : y ≤ n = h y (inl refl) in
    let here : nat_lt y m ≡ true = grind (arith, nat_tests) in
    rw here (room n m ts l (λ x i. h x (inr i)))

at_most : (r : Rule) (i x : ℕ) → In (Variable x) (get_or (heads_of r) i no_pattern).args.items → x ≤ variables_of r
at_most r i x h = (head_variable r x (in_heads x (heads_of r) i h)).1

-- the arguments of a head, as they are and renamed_apart
pub args_below : (r : Rule) (n i : ℕ) → variables_of r < n → are_below n (get_or (heads_of r) i no_pattern).args.items
    ≡ true
args_below r n i l = room (variables_of r) n (get_or (heads_of r) i no_pattern).args.items l (at_most r i)

pub shifted_below : (r : Rule) (k n i : ℕ) → k + variables_of r < n
    → are_below n (map (renamed_apart k) (get_or (heads_of r) i no_pattern).args.items) ≡ true
shifted_below r k n i l = shifted_room k (variables_of r) n (get_or (heads_of r) i no_pattern).args.items l
    (at_most r i)

-- the terms of a guard, renamed apart
bound_below : (r : Rule) (k n : ℕ) (t : Term) → k + variables_of r < n → is_bound_in (heads_of r) t ≡ true
    → is_below n (renamed_apart k t) ≡ true
bound_below r k n (Constant c) l h = refl
bound_below r k n (Variable x) l h =
    let most : x ≤ variables_of r = (head_variable r x (occurs_in x (heads_of r) h)).1 in
    grind (arith, nat_tests)

held_at : {X : Type 0} (p : X → Bool) (xs : List X) (i : ℕ) (d : X) → i < length xs → list_all p xs ≡ true
    → p (get_or xs i d) ≡ true
held_at p xs i d l h = elim (p (get_or xs i d)) as (λ b. p (get_or xs i d) ≡ b → b ≡ true) [
  | true ↦ λ _. refl
  | false ↦ λ e. absurd (true≢false (sym h ∙ list_all_at p xs i d l e))
] refl

pub comparisons_below : (r : Rule) (k n i : ℕ) (cs : List Comparison) (d : Comparison) → cs ≡ r.guard.items
    → i < length cs → k + variables_of r < n
    → (is_below n (renamed_apart k (get_or cs i d).left) ≡ true)
    × (is_below n (renamed_apart k (get_or cs i d).right) ≡ true)
comparisons_below r k n i cs d e less l =
    let known : list_all (λ c. is_bound_in (heads_of r) c.left && is_bound_in (heads_of r) c.right) cs ≡ true =
    subst (λ ds. list_all (λ c. is_bound_in (heads_of r) c.left && is_bound_in (heads_of r) c.right) ds ≡ true)
    (sym e) (guard_known r) in
    let both = held_at (λ c. is_bound_in (heads_of r) c.left && is_bound_in (heads_of r) c.right) cs i d less known in
    let parts = and_parts (is_bound_in (heads_of r) (get_or cs i d).left)
    (is_bound_in (heads_of r) (get_or cs i d).right) both in
    (bound_below r k n _ l parts.0, bound_below r k n _ l parts.1)

-- a guard has few comparisons
pub guard_few : (r : Rule) → length r.guard.items ≤ MAX_COMPARISONS
guard_few r =
    let a = and_parts (is_label (option_map (λ n. n.bytes) r.name) && nat_le (length r.guard.items) MAX_COMPARISONS)
    (nat_le (length r.body.items) MAX_BODY) (few_rule r) in
    leb-true (length r.guard.items) MAX_COMPARISONS (and_parts (is_label (option_map (λ n. n.bytes) r.name)) _ a.0).1

pub joint_guards_few : (r1 r2 : Rule) (f : Comparison → Comparison) (gs hs : List Comparison) → gs ≡ [] → hs ≡ gs
    ++ map f r1.guard.items → length hs + length r2.guard.items ≤ MAX_COMPARISONS + MAX_COMPARISONS
joint_guards_few r1 r2 f gs hs none e =
    let n = ap length (e ∙ (λ i. none i ++ map f r1.guard.items)) in
    let m = length-map r1.guard.items f in
    let one = guard_few r1 in
    let two = guard_few r2 in
    omega (arith, n, m, one, two)
