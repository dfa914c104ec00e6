-- The clauses of declarations and weights are read as the declarations that they were written for.
use Rattle.std.proofs.Common.{◌≡◌, ℕ, suc, ◌+◌, ◌≤◌, List, [], ◌∷◌, ◌++◌, length, map, Bool, true, false, not, cond}
use Rattle.std.proofs.Common.{◌||◌, ◌&&◌, nat_lt, nat_le, nat_eq, Option, Some, None, option_map, option_and_then}
use Rattle.std.proofs.Common.{unwrap_or, is_some, is_none, refl, sym, ap, ◌∙◌, subst, append_assoc, length-append}
use Rattle.std.proofs.Common.{arith}
use Rattle.std.specs.Prelude.{decimal}
use Rattle.std.specs.List.{list_any, list_all}
use Rattle.std.specs.Str.{bytes_eq}
use Rattle.std.proofs.lemmas.Bool.{false≢true, leb-true, eqb-true, eq-eqb, or_parts, and_from, and_parts, or_from}
use Rattle.std.proofs.lemmas.Bool.{not-true}
use Rattle.std.proofs.lemmas.Bool.Decides.{nat_tests}
use Rattle.std.proofs.lemmas.List.{length-map}
use Rattle.std.proofs.lemmas.List.Folds.{list_any-append}
use Rattle.std.proofs.lemmas.Option.{same_Some}
use Rattle.std.proofs.lemmas.Slice.Eq.{bytes_eq-Decides}
use Rattle.chr_base.specs.declared.limits.TheConstants.{MAX_ARITY, MAX_NAME, MAX_SYMBOLS, MAX_WEIGHT}
use Rattle.chr_base.specs.declared.weight.Weight.{Weight}
use Rattle.chr_base.specs.Names as base
use Rattle.chr_base.specs.ProgramTests.{Declaration, with_weight, declares, are_distinct, is_in_range}
use Rattle.chr_base.specs.Weights.{default_weight, is_weight}
use Rattle.chr_syntax.specs.Clauses.{Symbol}
use Rattle.chr_read.specs.declared.fault.Fault.{Fault}
use Rattle.chr_read.specs.Numbers.{arity_of, weight_named_by, weight_outside, number_of, without_zeros, small}
use Rattle.chr_base.specs.Sameness.{Parts}
use Rattle.chr_read.specs.CanonicalTexts.{is_default}
use Rattle.chr_read.specs.Meanings.{Progress, nothing}
use Rattle.chr_read.specs.Faults.{is_long, place_of_symbol, comes_twice, is_same_symbol, symbol_over}
use Rattle.chr_read.specs.working.RuleParts.{place_of, is_among, is_declared_already, comes_again, weight_bad}
use Rattle.chr_read.specs.working.TextsRead.{fault_in}
use Rattle.chr_read.specs.Reading.{declared_symbol, with_form}
use Rattle.chr_read.proofs.Decimals.{arity_back, second_back, weight_back, weight_number}
use Rattle.chr_read.proofs.EndedTexts.{after, AreFaultless}
use Rattle.chr_read.proofs.Numbering.{itself}
use Rattle.chr_read.proofs.PlainBytes.{from_test}
use Rattle.chr_read.proofs.Positions.{place, position_is}
use Rattle.chr_read.proofs.RuleParts.{twice_is}
use Rattle.chr_read.proofs.WrittenForms.{written_symbol, written_second, written_weight, declaration_forms}
use Rattle.chr_read.proofs.WrittenForms.{weight_forms}
use Rattle.chr_base.specs.Names.{is_lower, is_word_byte}
use Rattle.chr_syntax.specs.Lexemes.{IsWord}

abbrev pub state : List Declaration → List Parts → List ℕ → Progress
state ds rs ws = record { meaning = record { declarations = ds; rules = rs }; weighed = ws }

-- where the first test of a list doesn't pass, its fault is none, and the other tests tell
pub pass : (b : Bool) (n : Fault) (rest : Option Fault) → b ≡ false → rest ≡ None → cond b (Some n) rest ≡ None
pass true n rest h g = absurd (false≢true (sym h))
pass false n rest h g = g

-- ---- what a declaration's parts are

pub record InRange (d : Declaration) : Type 0 where
  pub name : base.is_name d.name ≡ true
  pub short : length d.name ≤ MAX_NAME
  pub arity : d.arity ≤ MAX_ARITY
  pub weight : is_weight d.weight ≡ true
  pub first : d.weight.first ≤ MAX_WEIGHT
  pub second : d.weight.second ≤ MAX_WEIGHT

pub in_range : (d : Declaration) → is_in_range d ≡ true → InRange d
in_range d h =
    let w = d.weight in
    let b = and_parts (base.is_name d.name && nat_le (length d.name) MAX_NAME && nat_le d.arity MAX_ARITY)
    (is_weight w) h in
    let c = and_parts (base.is_name d.name && nat_le (length d.name) MAX_NAME) (nat_le d.arity MAX_ARITY) b.0 in
    let e = and_parts (base.is_name d.name) (nat_le (length d.name) MAX_NAME) c.0 in
    let f = and_parts (nat_le w.first MAX_WEIGHT && nat_le w.second MAX_WEIGHT)
    (not (nat_eq w.first 0 && nat_eq w.second 0)) b.1 in
    let g = and_parts (nat_le w.first MAX_WEIGHT) (nat_le w.second MAX_WEIGHT) f.0 in
    record {
      name = e.0;
      short = leb-true _ _ e.1;
      arity = leb-true _ _ c.1;
      weight = b.1;
      first = leb-true _ _ g.0;
      second = leb-true _ _ g.1;
    }

pub name_is_word : (w : List ℕ) → base.is_name w ≡ true → IsWord is_lower w
name_is_word w h = by w (and_parts (base.is_word w) _ h).0
  where
    by : (w : List ℕ) → base.is_word w ≡ true → IsWord is_lower w
    by [] h = absurd (false≢true h)
    by (b ∷ bs) h = let e = and_parts (base.is_lower b) (list_all base.is_word_byte bs) h in
        (e.0, from_test is_word_byte bs e.1)

pub name_is_unreserved : (w : List ℕ) → base.is_name w ≡ true → base.is_reserved w ≡ false
name_is_unreserved w h = not-true (base.is_reserved w) (and_parts (base.is_word w) (not (base.is_reserved w)) h).1

pub name_is_short : (w : List ℕ) → length w ≤ MAX_NAME → is_long w ≡ false
name_is_short w l = grind (arith, nat_tests)

-- ---- places

pub place_skip : {A : Type 0} (p : A → Bool) (xs : List A) (y : A) (ys : List A) → list_any p xs ≡ false → p y ≡ true
    → place p (xs ++ y ∷ ys) ≡ Some (length xs)
place_skip p [] y ys h g = ap (λ b. cond b (Some 0) (option_map suc (place p ys))) g
place_skip p (x ∷ xs) y ys h g =
    let n = or_parts (p x) (list_any p xs) h in
    ap (λ b. cond b (Some 0) (option_map suc (place p (xs ++ y ∷ ys)))) n.0
    ∙ ap (option_map suc) (place_skip p xs y ys n.1 g)

pub turned : (a b : Declaration) → declares a.name a.arity b ≡ false → declares b.name b.arity a ≡ false
turned a b h = by (declares b.name b.arity a) refl
  where
    by : (t : Bool) → declares b.name b.arity a ≡ t → declares b.name b.arity a ≡ false
    by false e = e
    by true e =
        let p = and_parts (bytes_eq b.name a.name) (nat_eq b.arity a.arity) e in
        let n : a.name ≡ b.name = sym ((bytes_eq-Decides b.name a.name).0 p.0) in
        let same : bytes_eq a.name b.name ≡ true = subst (λ w. bytes_eq a.name w ≡ true) n (itself a.name) in
        absurd (false≢true (sym h ∙ and_from (bytes_eq a.name b.name) _ same
        (eq-eqb a.arity b.arity (sym (eqb-true b.arity a.arity p.1)))))

pub declares_itself : (d : Declaration) → declares d.name d.arity d ≡ true
declares_itself d = and_from (bytes_eq d.name d.name) (nat_eq d.arity d.arity) (itself d.name)
    (eq-eqb d.arity d.arity refl)

-- ---- one clause declares all

abbrev pub plain : Declaration → Declaration
plain d = record { name = d.name; arity = d.arity; weight = default_weight }

unknown : (s : Symbol) → is_declared_already [] s ≡ false
unknown s = by (arity_of s.arity)
  where
    by : (o : Option ℕ) → is_some (option_and_then (place_of [] s.name) o) ≡ false
    by None = refl
    by (Some n) = ap is_some (position_is (declares s.name n) [])

none_known : (ss : List Symbol) → list_any (is_declared_already []) ss ≡ false
none_known [] = refl
none_known (s ∷ ss) = or_from (is_declared_already [] s) (list_any (is_declared_already []) ss) (unknown s)
    (none_known ss)

other_symbol : (a b : Declaration) → a.arity ≤ MAX_ARITY → b.arity ≤ MAX_ARITY → declares a.name a.arity b ≡ false
    → is_same_symbol (written_symbol a) (written_symbol b) ≡ false
other_symbol a b l m h = by (is_same_symbol (written_symbol a) (written_symbol b)) refl
  where
    by : (t : Bool) → is_same_symbol (written_symbol a) (written_symbol b) ≡ t → is_same_symbol (written_symbol a)
        (written_symbol b) ≡ false
    by false e = e
    by true e =
        let p = and_parts (bytes_eq a.name b.name) (bytes_eq (without_zeros (decimal a.arity))
        (without_zeros (decimal b.arity))) e in
        let digits = (bytes_eq-Decides (without_zeros (decimal a.arity)) (without_zeros (decimal b.arity))).0 p.1 in
        let arity : a.arity ≡ b.arity = same_Some a.arity b.arity
        (sym (arity_back a.arity l) ∙ ap small digits ∙ arity_back b.arity m) in
        absurd (false≢true (sym h ∙ and_from (bytes_eq a.name b.name) _ p.0 (eq-eqb a.arity b.arity arity)))

-- none of the declarations ds has the symbol of one of es
abbrev AreApart : List Declaration → List Declaration → Type 0
AreApart [] ds = Unit {0}
AreApart (e ∷ es) ds = (list_any (declares e.name e.arity) ds ≡ false) × (e.arity ≤ MAX_ARITY) × AreApart es ds

none_seen : (es : List Declaration) (d : Declaration) (ds : List Declaration) → d.arity ≤ MAX_ARITY
    → AreApart es (d ∷ ds) → (list_any (λ e. is_same_symbol e (written_symbol d)) (map written_symbol es) ≡ false)
    × AreApart es ds
none_seen [] d ds l h = (refl, tt)
none_seen (e ∷ es) d ds l h =
    let n = or_parts (declares e.name e.arity d) (list_any (declares e.name e.arity) ds) h.0 in
    let m = none_seen es d ds l h.2 in
    (or_from (is_same_symbol (written_symbol e) (written_symbol d)) _ (other_symbol e d h.1 l n.0) m.0, (n.1, h.1, m.1))

none_again : (es ds : List Declaration) → AreApart es ds → list_all is_in_range ds ≡ true → are_distinct ds ≡ true
    → comes_again (map written_symbol es) (map written_symbol ds) ≡ false
none_again es [] h r u = refl
none_again es (d ∷ ds) h r u =
    let range = and_parts (is_in_range d) (list_all is_in_range ds) r in
    let few = (in_range d range.0).arity in
    let first = none_seen es d ds few h in
    let distinct = and_parts (not (list_any (declares d.name d.arity) ds)) (are_distinct ds) u in
    or_from (list_any (λ e. is_same_symbol e (written_symbol d)) (map written_symbol es)) _ first.0
    (none_again (d ∷ es) ds (not-true (list_any (declares d.name d.arity) ds) distinct.0, few, first.1) range.1
    distinct.1)

none_over : (ds : List Declaration) → list_all is_in_range ds ≡ true → list_any symbol_over (map written_symbol ds)
    ≡ false
none_over [] h = refl
none_over (d ∷ ds) h =
    let e = and_parts (is_in_range d) (list_all is_in_range ds) h in
    let r = in_range d e.0 in
    or_from (symbol_over (written_symbol d)) _ (or_from (is_long d.name) _ (name_is_short d.name r.short)
    (ap is_none (arity_back d.arity r.arity))) (none_over ds e.1)

all_declared : (ds : List Declaration) → list_all is_in_range ds ≡ true → map declared_symbol (map written_symbol ds)
    ≡ map plain ds
all_declared [] h = refl
all_declared (d ∷ ds) h =
    let e = and_parts (is_in_range d) (list_all is_in_range ds) h in
    let a = ap (λ o. unwrap_or o 0) (arity_back d.arity (in_range d e.0).arity) in
    let more = all_declared ds e.1 in
    λ i. record { name = d.name; arity = a i; weight = default_weight } ∷ more i

pub declarations_back : (ds : List Declaration) → length ds ≤ MAX_SYMBOLS → list_all is_in_range ds ≡ true
    → are_distinct ds ≡ true
    → AreFaultless nothing (declaration_forms ds) × (after nothing (declaration_forms ds) ≡ state (map plain ds) [] [])
declarations_back [] l r u = (tt, refl)
declarations_back (d ∷ ds) l r u =
    let ss = map written_symbol (d ∷ ds) in
    let long = length-map (d ∷ ds) written_symbol in
    let room : nat_lt MAX_SYMBOLS (0 + length ss) ≡ false = grind (arith, nat_tests) in
    let twice = or_from (list_any (is_declared_already []) ss) (comes_twice ss) (none_known ss)
    (sym (twice_is ss) ∙ none_again [] (d ∷ ds) tt r u) in
    let over = or_from (nat_lt MAX_SYMBOLS (0 + length ss)) (list_any symbol_over ss) room (none_over (d ∷ ds) r) in (
      (
        pass (list_any (is_declared_already []) ss || comes_twice ss) _ _ twice
            (pass (nat_lt MAX_SYMBOLS (0 + length ss) || list_any symbol_over ss) _ _ over refl),
        tt,
      ),
      ap (λ x. state x [] []) (all_declared (d ∷ ds) r),
    )

-- ---- a clause for each weight

apart : (pre : List Declaration) (d : Declaration) (ds : List Declaration) → are_distinct (pre ++ d ∷ ds) ≡ true
    → list_any (declares d.name d.arity) pre ≡ false
apart [] d ds h = refl
apart (e ∷ pre) d ds h =
    let p = and_parts (not (list_any (declares e.name e.arity) (pre ++ d ∷ ds))) (are_distinct (pre ++ d ∷ ds)) h in
    let n = or_parts (list_any (declares e.name e.arity) pre) _
    (sym (list_any-append (declares e.name e.arity) pre (d ∷ ds)) ∙ not-true _ p.0) in
    or_from (declares d.name d.arity e) _ (turned e d (or_parts (declares e.name e.arity d) _ n.1).0)
    (apart pre d ds p.1)

weight_at : (pre : List Declaration) (d : Declaration) (ds : List Declaration) (w : Weight)
    → with_weight (pre ++ d ∷ ds) (length pre) w ≡ pre ++ record d { weight = w } ∷ ds
weight_at [] d ds w = refl
weight_at (e ∷ pre) d ds w = ap (λ l. e ∷ l) (weight_at pre d ds w)

symbol_place : (pre : List Declaration) (d : Declaration) (ds : List Declaration) → InRange d
    → list_any (declares d.name d.arity) pre ≡ false
    → place_of_symbol (pre ++ plain d ∷ ds) (written_symbol d) ≡ Some (length pre)
symbol_place pre d ds r h =
    ap (option_and_then (place_of (pre ++ plain d ∷ ds) d.name)) (arity_back d.arity r.arity)
    ∙ position_is (declares d.name d.arity) (pre ++ plain d ∷ ds) ∙ place_skip (declares d.name d.arity) pre
    (plain d) ds h (declares_itself d)

default_is : (w : Weight) → is_default w ≡ true → w ≡ default_weight
default_is w h =
    let p = and_parts (nat_eq w.first 1) (nat_eq w.second 0) h in
    let first = eqb-true w.first 1 p.0 in let second = eqb-true w.second 0 p.1 in
    λ i. record { first = first i; second = second i }

-- each place that has had a weight is less than n
abbrev AreBefore : List ℕ → ℕ → Type 0
AreBefore ws n = (i : ℕ) → n ≤ i → list_any (nat_eq i) ws ≡ false

one_more : (ws : List ℕ) (n : ℕ) → AreBefore ws n → AreBefore (ws ++ n ∷ []) (n + 1)
one_more ws n h i l =
    let e : nat_eq i n ≡ false = grind (arith, nat_tests) in
    list_any-append (nat_eq i) ws (n ∷ []) ∙ or_from (list_any (nat_eq i) ws) _ (h i (omega (arith, l)))
    (or_from (nat_eq i n) false e refl)

still : (ws : List ℕ) (n : ℕ) → AreBefore ws n → AreBefore ws (n + 1)
still ws n h i l = h i (omega (arith, l))

abbrev pub Weighed : Progress → List Declaration → List Declaration → Type 0
Weighed q rest ds = AreFaultless q (weight_forms rest) × (ws : List ℕ) × (after q (weight_forms rest) ≡ state ds [] ws)

weights_from : (pre rest : List Declaration) (ws : List ℕ) → AreBefore ws (length pre) → list_all is_in_range rest
    ≡ true → are_distinct (pre ++ rest) ≡ true → Weighed (state (pre ++ map plain rest) [] ws) rest (pre ++ rest)
weights_from pre [] ws b r u = (tt, ws, refl)
weights_from pre (d ∷ rest) ws b r u =
    by (is_default d.weight) refl
    (λ vs c. subst (λ ds. Weighed (state ((pre ++ d ∷ []) ++ map plain rest) [] vs) rest ds)
    (append_assoc pre (d ∷ []) rest)
    (weights_from (pre ++ d ∷ []) rest vs c range.1 (subst (λ l. are_distinct l ≡ true)
    (sym (append_assoc pre (d ∷ []) rest)) u)))
  where
    range : (is_in_range d ≡ true) × (list_all is_in_range rest ≡ true)
    range = and_parts (is_in_range d) (list_all is_in_range rest) r

    good : InRange d
    good = in_range d range.0

    longer : length (pre ++ d ∷ []) ≡ length pre + 1
    longer = length-append pre (d ∷ [])

    here : List Declaration
    here = pre ++ plain d ∷ map plain rest

    placed : place_of_symbol here (written_symbol d) ≡ Some (length pre)
    placed = symbol_place pre d (map plain rest) good (apart pre d rest u)

    first : List ℕ
    first = decimal d.weight.first

    second : Option (List ℕ)
    second = written_second d.weight

    named : weight_named_by first second ≡ Some d.weight
    named = weight_back d.weight good.first good.second good.weight

    inside : weight_outside first second ≡ false
    inside = or_from (is_none (number_of first)) _ (ap is_none (weight_number d.weight.first good.first))
        (ap is_none (second_back d.weight good.second))

    faultless : fault_in (state here [] ws) (written_weight d) ≡ None
    faultless =
        pass (is_none (place_of_symbol here (written_symbol d))) _ _ (ap is_none placed)
        (pass (weight_outside first second) _ _ inside
        (pass (weight_bad (state here [] ws) (written_symbol d) first second) _ _
        (or_from (is_none (weight_named_by first second)) _ (ap is_none named)
        (ap (is_among ws) placed ∙ b (length pre) (omega arith))) refl))

    made : with_form (state here [] ws) (written_weight d) ≡ state ((pre ++ d ∷ []) ++ map plain rest) []
        (ws ++ length pre ∷ [])
    made =
        (λ i. state (with_weight here (unwrap_or (placed i) 0) (unwrap_or (named i) default_weight)) []
        (ws ++ unwrap_or (placed i) 0 ∷ []))
        ∙ ap (λ ds. state ds [] (ws ++ length pre ∷ []))
        (weight_at pre (plain d) (map plain rest) d.weight ∙ sym (append_assoc pre (d ∷ []) (map plain rest)))

    by : (t : Bool) → is_default d.weight ≡ t
        → ((vs : List ℕ) → AreBefore vs (length (pre ++ d ∷ []))
        → Weighed (state ((pre ++ d ∷ []) ++ map plain rest) [] vs) rest (pre ++ d ∷ rest))
        → AreFaultless (state here [] ws) (cond t (weight_forms rest) (written_weight d ∷ weight_forms rest))
        × (vs : List ℕ) × (after (state here [] ws) (cond t (weight_forms rest) (written_weight d ∷ weight_forms rest))
        ≡ state (pre ++ d ∷ rest) [] vs)
    by true e more =
        let one = default_is d.weight e in
        let same : (pre ++ d ∷ []) ++ map plain rest ≡ here = append_assoc pre (d ∷ []) (map plain rest)
        ∙ (λ i. pre ++ record d { weight = one i } ∷ map plain rest) in
        subst (λ ds. Weighed (state ds [] ws) rest (pre ++ d ∷ rest)) same
        (more ws (subst (AreBefore ws) (sym longer) (still ws (length pre) b)))
    by false e more =
        let w = subst (λ q. Weighed q rest (pre ++ d ∷ rest)) (sym made)
        (more (ws ++ length pre ∷ []) (subst (AreBefore (ws ++ length pre ∷ [])) (sym longer)
        (one_more ws (length pre) b))) in
        ((faultless, w.0), w.1, w.2)

pub weights_back : (ds : List Declaration) → list_all is_in_range ds ≡ true → are_distinct ds ≡ true
    → Weighed (state (map plain ds) [] []) ds ds
weights_back ds r u = weights_from [] ds [] (λ i l. refl) r u
