-- What an instance's heads have in common with those that are known: the values of a key, and tests.
use Rattle.std.proofs.Common.{◌≡◌, ℕ, ◌-◌, ◌≤◌, Bool, arith, List, [], ◌∷◌, take, drop, map, length, get_or, true, refl}
use Rattle.std.proofs.Common.{sym, ap, ◌∙◌}
use Rattle.std.specs.Prelude.{pos}
use Rattle.std.specs.List.{list_all}
use Rattle.std.specs.Ordering.{int_cmp}
use Rattle.std.proofs.Math.ListN.{get_or-map}
use Rattle.std.proofs.lemmas.List.{length-map, take_all}
use Rattle.std.proofs.lemmas.Bool.{and_from, and_parts, eq-eqb}
use Rattle.chr_base.specs.declared.atom.Atom.{Atom}
use Rattle.chr_base.specs.declared.term.Term.{Term}
use Rattle.chr_base.specs.declared.term.Term.TheVariants as term
use Rattle.chr_base.specs.declared.term.Pattern.{Pattern}
use Rattle.chr_base.specs.declared.rule.Rule.{Rule}
use Rattle.chr_base.specs.Rules.{Valuation, HasInstance, term_value, compares, atom_at, heads_at, heads_of, no_pattern}
use Rattle.chr_base.specs.Rules.{has_shape}
use Rattle.chr_plans.specs.declared.key.Source.{Source}
use Rattle.chr_plans.specs.declared.key.Source.TheVariants.{Constant, Argument}
use Rattle.chr_plans.specs.declared.key.Key.{Key}
use Rattle.chr_plans.specs.declared.key.Test.{Test}
use Rattle.chr_plans.specs.declared.key.Limit.{Limit}
use Rattle.chr_plans.specs.declared.rows.Seat.{Seat}
use Rattle.chr_plans.specs.Keys.{source_value, passes, allows, key_of, argument}
use Rattle.chr_plans.specs.Seats.{head}
use Rattle.chr_plans.specs.Plans.{pattern_at, IsReady, AreKeys, AreTests, AreLimits, columns_of}
use Rattle.chr_plans.specs.working.Searching.{AgreeAtKnown}

-- what is read past the last term
abbrev pub no_term : Term
no_term = term.Constant (pos 0)

-- the term of the head at a place in a column
abbrev pub term_at : Rule → ℕ → ℕ → Term
term_at r q c = get_or (pattern_at r q).args.items c no_term

-- the head at a place, and its argument in a column
pub head_value : (r : Rule) (v : Valuation) (q : ℕ) → head (heads_at v r) q ≡ atom_at v (pattern_at r q)
head_value r v q = get_or-map (atom_at v) (heads_of r) q no_pattern

pub argument_value : (r : Rule) (v : Valuation) (hs : List Atom) (q c : ℕ) → heads_at v r ≡ hs → argument (head hs q) c
    ≡ term_value v (term_at r q c)
argument_value r v hs q c e =
    ap (λ as'. argument (head as' q) c) (sym e) ∙ ap (λ a. argument a c) (head_value r v q)
    ∙ get_or-map (term_value v) (pattern_at r q).args.items c no_term

-- heads that are the same give a source the same value
same_value : (places : List ℕ) (p n : ℕ) (hs heads : List Atom) (ss seats : List Seat) (s : Source)
    → AgreeAtKnown places p n hs ss heads seats → IsReady places p n s
    → source_value hs s ≡ source_value heads s
same_value places p n hs heads ss seats (Constant c) same is = refl
same_value places p n hs heads ss seats (Argument q c) same is = ap (λ a. argument a c) (same q is).0

-- the head at a place has the values of the key
pub key_known : (r : Rule) (places : List ℕ) (p n q : ℕ) (hs heads : List Atom) (ss seats : List Seat) (ks : List Key)
    → HasInstance r hs → AgreeAtKnown places p n hs ss heads seats → AreKeys r places p n q ks
    → key_of (columns_of ks) (head hs q) ≡ map (λ k. source_value heads k.source) ks
key_known r places p n q hs heads ss seats [] h same are = refl
key_known r places p n q hs heads ss seats (k ∷ ks) h same are =
    let one : argument (head hs q) k.column ≡ source_value heads k.source =
    are.1 hs h ∙ same_value places p n hs heads ss seats k.source same are.0 in
    let more = key_known r places p n q hs heads ss seats ks h same are.2 in
    λ i. one i ∷ more i

-- the heads that are known pass the tests
pub tests_known : (r : Rule) (places : List ℕ) (p n : ℕ) (hs heads : List Atom) (ss seats : List Seat) (ts : List Test)
    → HasInstance r hs → AgreeAtKnown places p n hs ss heads seats → AreTests r places p n ts
    → list_all (passes heads) ts ≡ true
tests_known r places p n hs heads ss seats [] h same are = refl
tests_known r places p n hs heads ss seats (t ∷ ts) h same are =
    let left = same_value places p n hs heads ss seats t.left same are.0 in
    let right = same_value places p n hs heads ss seats t.right same are.1 in
    let one : passes heads t ≡ true = sym (λ i. compares t.cmp (int_cmp (left i) (right i))) ∙ are.2 hs h in
    and_from (passes heads t) _ one (tests_known r places p n hs heads ss seats ts h same are.3)

-- the limits allow the head at a place
pub limits_known : (r : Rule) (places : List ℕ) (p n q : ℕ) (hs heads : List Atom) (ss seats : List Seat)
    (ls : List Limit)
    → HasInstance r hs → AgreeAtKnown places p n hs ss heads seats → AreLimits r places p n q ls
    → list_all (allows heads (head hs q)) ls ≡ true
limits_known r places p n q hs heads ss seats [] h same are = refl
limits_known r places p n q hs heads ss seats (l ∷ ls) h same are =
    let value = same_value places p n hs heads ss seats l.source same are.0 in
    let one : allows heads (head hs q) l ≡ true = sym (ap
    (λ x. compares l.cmp (int_cmp (argument (head hs q) l.column) x)) value) ∙ are.1 hs h in
    and_from (allows heads (head hs q) l) _ one (limits_known r places p n q hs heads ss seats ls h same are.2)

-- what all items pass, the first passes and the rest
pub first_and_rest : {X : Type 0} (f : X → Bool) (xs : List X) (d : X) → 1 ≤ length xs → list_all f xs ≡ true
    → (f (get_or xs 0 d) ≡ true) × (list_all f (take (length xs - 1) (drop 1 xs)) ≡ true)
first_and_rest f [] d l e = absurd (omega (arith, l))
first_and_rest f (x ∷ xs) d l e =
    let w = and_parts (f x) _ e in
    (w.0, ap (list_all f) (take_all (length (x ∷ xs) - 1) xs (omega arith)) ∙ w.1)

-- the head at a place has the shape of its pattern
pub shape_known : (r : Rule) (v : Valuation) (q : ℕ) (hs : List Atom) → heads_at v r ≡ hs
    → has_shape (pattern_at r q) (head hs q) ≡ true
shape_known r v q hs e =
    ap (λ as'. has_shape (pattern_at r q) (head as' q)) (sym e) ∙ ap (has_shape (pattern_at r q)) (head_value r v q)
    ∙ shape v (pattern_at r q)
  where
    shape : (v : Valuation) (p : Pattern) → has_shape p (atom_at v p) ≡ true
    shape v p =
        and_from _ _ (eq-eqb p.symbol.0 p.symbol.0 refl)
        (eq-eqb (length p.args.items) _ (sym (length-map p.args.items (term_value v))))
