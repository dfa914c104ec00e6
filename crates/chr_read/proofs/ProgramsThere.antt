-- Each text that is a program has a value of the type of programs with its meaning.
use Rattle.std.proofs.Common.{◌≡◌, ℕ, ◌+◌, ◌-◌, ◌<◌, ◌≤◌, List, [], ◌∷◌, ◌++◌, length, map, Bool, true, false, not}
use Rattle.std.proofs.Common.{cond, ◌&&◌, nat_lt, nat_le, Option, Some, None, is_some, is_none, unwrap_or}
use Rattle.std.proofs.Common.{option_and_then, position, refl, sym, ap, subst, ◌∙◌, arith, length-append, append_assoc}
use Rattle.std.specs.Prelude.{IsTrue}
use Rattle.std.specs.List.{AllByRecursion, list_all}
use Rattle.std.proofs.lemmas.Bool.{false≢true, and_from, and_parts, or_parts, not-true}
use Rattle.std.proofs.lemmas.Bool.Decides.{nat_tests}
use Rattle.std.proofs.lemmas.List.{append-nil, length-map, map-append}
use Rattle.std.proofs.lemmas.List.Folds.{list_all-append}
use Rattle.std.proofs.lemmas.Option.{none-some, same_Some}
use Rattle.indexmap.specs.Layout.{hash_map}
use Rattle.chr_base.specs.declared.limits.TheConstants.{MAX_ARITY, MAX_NAME, MAX_RULES, MAX_SYMBOLS}
use Rattle.chr_base.specs.declared.program.Program.{Program}
use Rattle.chr_base.specs.declared.program.Symbol.{Symbol as TableSymbol}
use Rattle.chr_base.specs.declared.rule.Rule as base
use Rattle.chr_base.specs.declared.weight.Weight.{Weight}
use Rattle.chr_base.specs.Names.{is_name}
use Rattle.chr_base.specs.ProgramTests.{Declaration, declared, declares, fits, is_program}
use Rattle.chr_base.specs.Programs.{declarations, rules_of}
use Rattle.chr_base.specs.RuleTests.{is_in_bounds, is_rule}
use Rattle.chr_base.specs.Sameness.{Parts, parts_of}
use Rattle.chr_base.specs.Weights.{default_weight, is_weight}
use Rattle.chr_base.proofs.Declared.{keep, kept_by, new_in_range, symbol_pushed}
use Rattle.chr_base.proofs.Made.{vec_of}
use Rattle.chr_base.proofs.Weighing.{still_program}
use Rattle.chr_syntax.specs.Clauses.{Atom, Form, Rule, Symbol, declare, propagation, rule, use_module, weight}
use Rattle.chr_syntax.specs.Grammar.{IsForm, IsUnreserved, OneOrMore}
use Rattle.chr_syntax.specs.Lexemes.{AreClause}
use Rattle.chr_read.specs.declared.fault.Fault.{Fault}
use Rattle.chr_read.specs.declared.fault.Fault.TheVariants as fault
use Rattle.chr_read.specs.Faults.{fault_test, is_long, symbol_over}
use Rattle.chr_read.specs.Meanings.{Meaning, Progress, meaning_of, nothing}
use Rattle.chr_read.specs.NamesOfForms.{has_names}
use Rattle.chr_read.specs.Numbers.{arity_of, small, weight_named_by, without_zeros}
use Rattle.chr_read.specs.ProgramTexts.{HasFault, IsProgramText, Makes}
use Rattle.chr_read.specs.Reading.{declared_symbol, with_form}
use Rattle.chr_read.specs.Resolving.{resolved}
use Rattle.chr_read.specs.working.Adding.{can_declare, can_declare_all}
use Rattle.chr_read.specs.working.RuleParts.{is_declared_already, place_of}
use Rattle.chr_read.specs.working.TextsRead.{by_number, fault_in, first_of}
use Rattle.chr_read.proofs.FaultLess.{declare_faultless, rule_faultless}
use Rattle.chr_read.proofs.NamesText.{names_names}
use Rattle.chr_read.proofs.Numbers.{named_is_weight}
use Rattle.chr_read.proofs.Resolved.{resolved_fits, resolved_in_bounds, resolved_is_rule}

-- ---- a program of given declarations and rules

entries_of : List Declaration → List (TableSymbol × Weight)
entries_of [] = []
entries_of (d ∷ ds) = (record { name = record { bytes = d.name; spare = [] }; arity = d.arity }, d.weight)
    ∷ entries_of ds

entries_back : (ds : List Declaration) → map declared (entries_of ds) ≡ ds
unfolding entries_of
entries_back [] = refl
entries_back (d ∷ ds) = ap (λ es. d ∷ es) (entries_back ds)

program_of : (ds : List Declaration) (rs : List base.Rule) → IsTrue (is_program ds rs) → (p : Program)
    × (declarations p ≡ ds) × (rules_of p ≡ rs)
program_of ds rs h =
    let few = (kept_by ds rs h).rules in (
      record {
        symbols = hash_map (entries_of ds) (record { initial = record { state = 0 } }) 0;
        rules = vec_of rs (omega (arith, few));
        well_formed = subst (λ es. IsTrue (is_program es rs)) (sym (entries_back ds)) h;
      },
      entries_back ds,
      refl,
    )

-- ---- a rule of given parts

rule_of : (d : Parts) → is_rule d.kept d.removed d.guard d.body ≡ true
    → is_in_bounds d.name (d.kept ++ d.removed) d.guard d.body ≡ true → (r : base.Rule) × (parts_of r ≡ d)
rule_of d h = by d.name
  where
    by : (name : Option (List ℕ)) → is_in_bounds name (d.kept ++ d.removed) d.guard d.body ≡ true → (r : base.Rule)
        × (parts_of r ≡ record { name = name; kept = d.kept; removed = d.removed; guard = d.guard; body = d.body })
    by None b = (
      record {
        name = None;
        kept = record { items = d.kept };
        removed = record { items = d.removed };
        guard =
            record { items = d.guard };
        body = record { items = d.body };
        well_formed = h;
        bounded = b;
      },
      refl,
    )
    by (Some w) b = (
      record {
        name = Some (record { bytes = w; spare = [] });
        kept = record { items = d.kept };
        removed = record { items = d.removed };
        guard = record { items = d.guard };
        body = record { items = d.body };
        well_formed = h;
        bounded = b;
      },
      refl,
    )

-- ---- clauses without faults

none_passes : (p : Fault → Bool) (ns : List Fault) → AllByRecursion (λ n. p n ≡ true → ⊥) ns → first_of p ns ≡ None
none_passes p [] h = refl
none_passes p (n ∷ ns) h = by (p n) refl (none_passes p ns h.1)
  where
    by : (b : Bool) → p n ≡ b → first_of p ns ≡ None → cond b (Some n) (first_of p ns) ≡ None
    by true t more = absurd (h.0 t)
    by false t more = more

faultless : (q : Progress) (c : List ℕ) (f : Form) → AreClause f c → ((n : Fault) → ¬ (HasFault q c n)) → fault_in q f
    ≡ None
faultless q c f a none =
    none_passes (λ n. fault_test n q f) by_number (
      λ t. none fault.Propagation (f, a, t),
      (
        λ t. none fault.Undeclared (f, a, t),
        (
          λ t. none fault.DeclaredTwice (f, a, t),
          (
            λ t. none fault.Limit (f, a, t),
            (
              λ t. none fault.Unbound (f, a, t),
              (
                λ t. none fault.NumberRange (f, a, t),
                (λ t. none fault.WeightFault (f, a, t), tt),
              ),
            ),
          ),
        ),
      ),
    )

-- some rules make a program of what the clauses so far have made
record IsBuilt (m : Meaning) : Type 0 where
  rules : List base.Rule
  program : IsTrue (is_program m.declarations rules)
  same : map parts_of rules ≡ m.rules

-- ---- symbols

small_fits : (digits : List ℕ) (n : ℕ) → small digits ≡ Some n → n ≤ MAX_ARITY
small_fits [] n h = let e = same_Some 0 n h in omega (arith, e)
small_fits (b ∷ c ∷ bs) n h = absurd (none-some n h)
small_fits (b ∷ []) n h = by (nat_le 49 b && nat_le b (48 + MAX_ARITY)) refl h
  where
    by : (t : Bool) → (nat_le 49 b && nat_le b (48 + MAX_ARITY)) ≡ t → cond t (Some (b - 48)) None ≡ Some n
        → n ≤ MAX_ARITY
    by false e g = absurd (none-some n g)
    by true e g =
        let is = same_Some _ _ g in
        let high : nat_le b (48 + MAX_ARITY) ≡ true = (and_parts (nat_le 49 b) (nat_le b (48 + MAX_ARITY)) e).1 in
        let most : b ≤ 48 + MAX_ARITY = grind (arith, nat_tests) in
        omega (arith, is, most)

is_nothing : (o : Option ℕ) → is_some o ≡ false → o ≡ None
is_nothing None h = refl
is_nothing (Some i) h = absurd (false≢true (sym h))

symbol_built : (ds : List Declaration) (rs : List base.Rule) (s : Symbol) → IsTrue (is_program ds rs) → can_declare ds s
    ≡ true → is_name s.name ≡ true → IsTrue (is_program (ds ++ declared_symbol s ∷ []) rs)
symbol_built ds rs s h can named = by (arity_of s.arity) refl
  where
    first : (nat_lt (length ds) MAX_SYMBOLS && not (symbol_over s)) ≡ true
    first = (and_parts _ (not (is_declared_already ds s)) can).0

    room : length ds < MAX_SYMBOLS
    room = let l : nat_lt (length ds) MAX_SYMBOLS ≡ true = (and_parts _ (not (symbol_over s)) first).0 in
        grind (arith, nat_tests)

    over : (is_long s.name ≡ false) × (is_none (arity_of s.arity) ≡ false)
    over = or_parts _ _ (not-true (symbol_over s) (and_parts (nat_lt (length ds) MAX_SYMBOLS) _ first).1)

    short : length s.name ≤ MAX_NAME
    short = let l : nat_lt MAX_NAME (length s.name) ≡ false = over.0 in grind (arith, nat_tests)

    fresh : is_some (option_and_then (place_of ds s.name) (arity_of s.arity)) ≡ false
    fresh = not-true (is_declared_already ds s) (and_parts (nat_lt (length ds) MAX_SYMBOLS && not (symbol_over s)) _
        can).1

    by : (o : Option ℕ) → arity_of s.arity ≡ o → IsTrue (is_program (ds ++ declared_symbol s ∷ []) rs)
    by None e = absurd (false≢true (sym over.1 ∙ ap is_none e))
    by (Some n) e =
        let d : Declaration = record { name = s.name; arity = n; weight = default_weight } in
        let is : declared_symbol s ≡ d = ap (λ (o : Option ℕ). record {
          name = s.name;
          arity = unwrap_or o 0;
          weight =
              default_weight;
        }) e in
        let none : position (declares s.name n) ds ≡ None =
        is_nothing _ (sym (ap (λ o. is_some (option_and_then (place_of ds s.name) o)) e) ∙ fresh) in
        subst (λ x. IsTrue (is_program (ds ++ x ∷ []) rs)) (sym is)
        (symbol_pushed ds (ds ++ d ∷ []) rs d refl h room
        (new_in_range s.name n named short (small_fits (without_zeros s.arity) n e)) none)

symbols_built : (ds : List Declaration) (rs : List base.Rule) (ss : List Symbol) → IsTrue (is_program ds rs)
    → can_declare_all ds ss ≡ true → list_all is_name (map (λ (s : Symbol). s.name) ss) ≡ true
    → IsTrue (is_program (ds ++ map declared_symbol ss) rs)
symbols_built ds rs [] h can named = subst (λ es. IsTrue (is_program es rs)) (sym (append-nil ds)) h
symbols_built ds rs (s ∷ ss) h can named =
    let c = and_parts (can_declare ds s) (can_declare_all (ds ++ declared_symbol s ∷ []) ss) can in
    let n = and_parts (is_name s.name) _ named in
    let more = symbols_built (ds ++ declared_symbol s ∷ []) rs ss (symbol_built ds rs s h c.0 n.0) c.1 n.1 in
    subst (λ es. IsTrue (is_program es rs)) (append_assoc ds (declared_symbol s ∷ []) (map declared_symbol ss)) more

-- ---- weights

weight_fits : (first : List ℕ) (second : Option (List ℕ))
    → is_weight (unwrap_or (weight_named_by first second) default_weight) ≡ true
weight_fits first second = by (weight_named_by first second) refl
  where
    by : (o : Option Weight) → weight_named_by first second ≡ o → is_weight (unwrap_or o default_weight) ≡ true
    by None e = refl
    by (Some w) e = named_is_weight first second w e

-- ---- rules

rule_built : (ds : List Declaration) (rs : List base.Rule) (r : base.Rule) → IsTrue (is_program ds rs)
    → length rs < MAX_RULES → fits ds r ≡ true → IsTrue (is_program ds (rs ++ r ∷ []))
rule_built ds rs r h room fit =
    let k = kept_by ds rs h in
    keep ds (rs ++ r ∷ []) (record {
      symbols = k.symbols;
      rules = (let a = length-append rs (r ∷ []) in omega (arith, a, room));
      ranges = k.ranges;
      distinct = k.distinct;
      fitting = list_all-append (fits ds) rs (r ∷ []) ∙ and_from _ _ k.fitting (and_from _ _ fit refl);
    })

at_least_one : {A : Type 0} (P : A → Type 0) (xs : List A) → OneOrMore P xs → 0 < length xs
at_least_one P [] h = absurd h
at_least_one P (x ∷ xs) h = omega arith

some_removed : (r : Rule) → IsForm (rule r) → 0 < length r.removed
some_removed r h = at_least_one (λ (a : Atom). IsUnreserved a.name) r.removed h.2

-- ---- one clause after another

form_built : (q : Progress) (c : List ℕ) (f : Form) → AreClause f c → fault_in q f ≡ None → IsBuilt q.meaning
    → IsBuilt (with_form q f).meaning
form_built q c use_module a none b = b
form_built q c (propagation r) a none b = b
form_built q c (declare ss) a none b = record {
  rules = b.rules;
  program = symbols_built q.meaning.declarations b.rules ss b.program (declare_faultless q ss none)
      (names_names (declare ss) c a);
  same = b.same;
}
form_built q c (weight s first second) a none b = record {
  rules = b.rules;
  program = still_program q.meaning.declarations _ b.rules _ _ refl (weight_fits first second) b.program;
  same = b.same;
}
form_built q c (rule r) a none b =
    let ds = q.meaning.declarations in
    let free = rule_faultless q r none in
    let some = some_removed r a.1 in
    let named : has_names (rule r) ≡ true = names_names (rule r) c a in
    let made = rule_of (resolved ds r) (resolved_is_rule ds r free.2 free.3 some)
    (resolved_in_bounds ds r free.2 named) in
    let room : length b.rules < MAX_RULES = (let few : nat_le MAX_RULES (length q.meaning.rules) ≡ false = free.1 in
    let l = length-map b.rules parts_of in let m = ap length b.same in grind (arith, nat_tests)) in
    record {
      rules = b.rules ++ made.0 ∷ [];
      program = rule_built ds b.rules made.0 b.program room (resolved_fits ds r made.0 made.1 free.0);
      same = map-append parts_of b.rules (made.0 ∷ []) ∙ (λ i. b.same i ++ made.1 i ∷ []);
    }

makes_built : (q : Progress) (cs : List (List ℕ)) (r : Progress) → Makes q cs r → IsBuilt q.meaning → IsBuilt r.meaning
makes_built q [] r is b = subst (λ (p : Progress). IsBuilt p.meaning) is b
makes_built q (c ∷ cs) r m b = makes_built (with_form q m.0) cs r m.3
    (form_built q c m.0 m.1 (faultless q c m.0 m.1 m.2) b)

nothing_built : IsBuilt nothing.meaning
nothing_built = record { rules = []; program = refl; same = refl }

pub program_there : (text : List ℕ) (m : Meaning) → IsProgramText text m → (p : Program) × (meaning_of p ≡ m)
program_there text m h =
    let q = h.3 in
    let b = makes_built nothing h.1 q h.5 nothing_built in
    let p = program_of q.meaning.declarations b.rules b.program in (
      p.0,
      (λ i. record { declarations = p.1 i; rules = map parts_of (p.2 i) })
          ∙ (λ i. record { declarations = q.meaning.declarations; rules = b.same i }) ∙ sym h.7,
    )
