-- The canonical text of a program is read as the program.
use Rattle.std.proofs.Common.{◌≡◌, ℕ, ◌+◌, ◌*◌, ◌<◌, ◌≤◌, List, [], ◌∷◌, ◌++◌, length, map, Bool, true, false, not}
use Rattle.std.proofs.Common.{cond, ◌==◌, ◌||◌, ◌&&◌, nat_lt, nat_le, Option, Some, None, Ok, option_map, is_some, refl}
use Rattle.std.proofs.Common.{sym, ap, ◌∙◌, subst, append_assoc, append-nil, length-append, arith}
use Rattle.std.specs.Prelude.{decimal}
use Rattle.std.specs.List.{list_any, list_all, AllByRecursion}
use Rattle.std.specs.Str.{bytes_eq}
use Rattle.std.proofs.lemmas.Bool.{false≢true, eqb-true, and_from, and_parts, or_right, or_left, or_from}
use Rattle.std.proofs.lemmas.Bool.Decides.{nat_tests}
use Rattle.std.proofs.lemmas.List.{length-map}
use Rattle.std.proofs.lemmas.List.Folds.{list_any-append}
use Rattle.std.proofs.lemmas.Option.{none-some, same_Some}
use Rattle.std.specs.Str.Parse.{starts_with_minus}
use Rattle.chr_base.specs.declared.limits.TheConstants.{MAX_ARITY, MAX_BODY, MAX_COMPARISONS, MAX_HEADS, MAX_NAME}
use Rattle.chr_base.specs.declared.limits.TheConstants.{MAX_RULES, MAX_SYMBOLS, MAX_VARIABLES}
use Rattle.chr_base.specs.declared.term.Term as base
use Rattle.chr_base.specs.declared.term.Term.TheVariants.{Variable, Constant}
use Rattle.chr_base.specs.declared.term.Comparison as base_comparison
use Rattle.chr_base.specs.declared.term.Pattern.{Pattern}
use Rattle.chr_base.specs.declared.rule.Rule as base_rule
use Rattle.chr_base.specs.declared.program.Program.{Program}
use Rattle.chr_base.specs.Names as names
use Rattle.chr_base.specs.RuleTests as rules
use Rattle.chr_base.specs.RuleTests.{occurs, is_bound_in, is_closed, terms_of, numbered, is_numbered, is_valued}
use Rattle.chr_base.specs.RuleTests.{are_valued}
use Rattle.chr_base.specs.Rules.{heads_of}
use Rattle.chr_base.proofs.Terms.{terms_of-append}
use Rattle.chr_base.proofs.Instances.{sized_rule, closed_rule, numbered_rule, few_rule, valued_rule}
use Rattle.chr_base.specs.Programs.{declarations, rules_of}
use Rattle.chr_base.specs.ProgramTests.{Declaration, is_declared, fits, are_distinct, is_in_range}
use Rattle.chr_syntax.specs.Clauses.{Rule, rule}
use Rattle.chr_syntax.specs.Grammar.{spelled, IsSymbol, OneOrMore, IsForm}
use Rattle.chr_syntax.specs.working.Spellings.{IsLabel, IsAtom, IsItem}
use Rattle.chr_syntax.specs.Bytes.{pieces}
use Rattle.chr_base.specs.Names.{is_lower, is_digit}
use Rattle.chr_syntax.specs.working.Tokens.{tokens_of}
use Rattle.chr_syntax.specs.Lexemes.{IsWord}
use Rattle.chr_read.specs.declared.reader.TheConstants.{MAX_TEXT}
use Rattle.chr_read.specs.CanonicalTexts.{declaration_clauses, weight_clause, weight_clauses, is_default, rule_clause}
use Rattle.chr_read.specs.CanonicalTexts.{clauses, canonical}
use Rattle.chr_base.specs.Sameness.{Parts, parts_of}
use Rattle.chr_read.specs.Meanings.{Progress, nothing, meaning_of}
use Rattle.chr_read.specs.Faults.{present, is_undeclared, is_anonymous, rule_atoms, right_terms}
use Rattle.chr_read.specs.Faults.{written_terms as terms_in, rule_over, is_unbound, is_outside}
use Rattle.chr_read.specs.working.RuleParts.{any_undeclared, rule_undeclared, parts_of_atom_over, comparison_over}
use Rattle.chr_read.specs.working.RuleParts.{label_over, has_long_lists, parts_over, some_part_over, stands_in}
use Rattle.chr_read.specs.working.RuleParts.{term_unbound, atom_unbound, comparison_unbound, rule_unbound, atom_outside}
use Rattle.chr_read.specs.working.RuleParts.{comparison_outside, rule_outside}
use Rattle.chr_read.specs.working.TextsRead.{fault_in, meaning_in, pieces_read, text_read}
use Rattle.chr_read.specs.Faults as faults
use Rattle.chr_read.specs.Reading.{with_form}
use Rattle.chr_read.specs.Resolving.{after_heads, heads, body_atom, resolved_comparison, names_of, resolved}
use Rattle.chr_read.proofs.Decimals.{decimal_digits}
use Rattle.chr_read.proofs.DeclarationsBack.{pass, state, InRange, in_range, name_is_word, name_is_unreserved}
use Rattle.chr_read.proofs.DeclarationsBack.{name_is_short, plain, declarations_back, weights_back}
use Rattle.chr_read.proofs.EndedTexts.{AreClauses, clauses_append, after, AreFaultless, after_append, faultless_append}
use Rattle.chr_read.proofs.EndedTexts.{no_comments, ended_read}
use Rattle.chr_read.proofs.NamesText.{front, back}
use Rattle.chr_read.proofs.NumberedNames.{first_names, variable_name}
use Rattle.chr_read.proofs.RuleParts.{undeclared_is, over_is, unbound_is, outside_is}
use Rattle.chr_read.proofs.Numbering.{itself}
use Rattle.chr_read.proofs.RulesBack.{each_so, tested, none_pass, any_pass, same_each, present_map, present_body}
use Rattle.chr_read.proofs.RulesBack.{placed, Good, writable, within, inside, bounds, numbered_split, good_term}
use Rattle.chr_read.proofs.RulesBack.{GoodAtom, atom_within, atom_inside, atom_declared, atom_writable, atom_form}
use Rattle.chr_read.proofs.RulesBack.{body_atom_back, heads_back, GoodComparison, comparison_back}
use Rattle.chr_read.specs.RoundTrips.{ProgramsComeBack}
use Rattle.chr_read.proofs.TextsRead.{programs, short_read}
use Rattle.chr_read.proofs.WrittenForms.{written_term, written_atom, written_comparison, written_body, written_rule}
use Rattle.chr_read.proofs.WrittenForms.{written_symbol, written_weight, declaration_forms, weight_forms, rule_forms}
use Rattle.chr_read.proofs.WrittenTokens.{IsWritableComparison, IsWritableRule, IsWritableSymbol, rule_tokens}
use Rattle.chr_read.proofs.WrittenTokens.{declaration_tokens, weight_tokens}

-- ---- what is known of a rule of a program

record GoodRule (ds : List Declaration) (r : base_rule.Rule) : Type 0 where
  pub n : ℕ
  pub few : n ≤ MAX_VARIABLES
  pub count : numbered 0 (terms_of (heads_of r)) ≡ Some n
  pub kept : AllByRecursion (GoodAtom ds n) r.kept.items
  pub removed : AllByRecursion (GoodAtom ds n) r.removed.items
  pub guard : AllByRecursion (GoodComparison n) r.guard.items
  pub body : AllByRecursion (GoodAtom ds n) r.body.items

some_of : (o : Option ℕ) → is_some o ≡ true → (n : ℕ) × (o ≡ Some n)
some_of None h = absurd (false≢true h)
some_of (Some n) h = (n, refl)

valued_terms : (ps : List Pattern) → are_valued ps ≡ true → list_all is_valued (terms_of ps) ≡ true
valued_terms [] h = refl
valued_terms (p ∷ ps) h = let e = and_parts (list_all is_valued p.args.items) (are_valued ps) h in
    chain p.args.items (terms_of ps) e.0 (valued_terms ps e.1)
  where
    chain : (xs ys : List base.Term) → list_all is_valued xs ≡ true → list_all is_valued ys ≡ true
        → list_all is_valued (xs ++ ys) ≡ true
    chain [] ys h g = g
    chain (x ∷ xs) ys h g = let e = and_parts (is_valued x) (list_all is_valued xs) h in
        and_from (is_valued x) _ e.0 (chain xs ys e.1 g)

few_terms : (ds : List Declaration) (ps : List Pattern) → list_all is_in_range ds ≡ true → list_all (is_declared ds) ps
    ≡ true → length (terms_of ps) ≤ MAX_ARITY * length ps
few_terms ds [] r h = omega arith
few_terms ds (p ∷ ps) r h =
    let e = and_parts (is_declared ds p) (list_all (is_declared ds) ps) h in
    let q = placed ds p r e.0 in
    let a = length-append p.args.items (terms_of ps) in let b = few_terms ds ps r e.1 in let t = q.takes in let s =
    q.range.arity in
    omega (arith, a, b, t, s)

declared_both : (ds : List Declaration) (ps qs : List Pattern) → list_all (is_declared ds) ps ≡ true
    → list_all (is_declared ds) qs ≡ true → list_all (is_declared ds) (ps ++ qs) ≡ true
declared_both ds [] qs h g = g
declared_both ds (p ∷ ps) qs h g = let e = and_parts (is_declared ds p) (list_all (is_declared ds) ps) h in
    and_from (is_declared ds p) _ e.0 (declared_both ds ps qs e.1 g)

-- the heads
head_atoms : (ds : List Declaration) (n : ℕ) (ps : List Pattern) → list_all is_in_range ds ≡ true
    → list_all (is_declared ds) ps ≡ true → AllByRecursion (Good n) (terms_of ps) → AllByRecursion (GoodAtom ds n) ps
head_atoms ds n [] r h g = tt
head_atoms ds n (p ∷ ps) r h g =
    let e = and_parts (is_declared ds p) (list_all (is_declared ds) ps) h in (
      record { placed = placed ds p r e.0; args = front (Good n) p.args.items (terms_of ps) g },
      head_atoms ds n ps r e.1
          (back (Good n) p.args.items (terms_of ps) g),
    )

-- the body
body_terms : (n : ℕ) (hs : List Pattern) → AllByRecursion (Good n) (terms_of hs) → (ts : List base.Term)
    → list_all (is_bound_in hs) ts ≡ true → list_all is_valued ts ≡ true → AllByRecursion (Good n) ts
body_terms n hs g [] k v = tt
body_terms n hs g (t ∷ ts) k v =
    let a = and_parts (is_bound_in hs t) (list_all (is_bound_in hs) ts) k in let b =
    and_parts (is_valued t) (list_all is_valued ts) v in (good_term n hs g t a.0 b.0, body_terms n hs g ts a.1 b.1)

body_atoms : (ds : List Declaration) (n : ℕ) (hs ps : List Pattern) → list_all is_in_range ds ≡ true
    → AllByRecursion (Good n) (terms_of hs) → list_all (is_declared ds) ps ≡ true
    → list_all (λ p. list_all (is_bound_in hs) p.args.items) ps ≡ true → are_valued ps ≡ true
    → AllByRecursion (GoodAtom ds n) ps
body_atoms ds n hs [] r g h k v = tt
body_atoms ds n hs (p ∷ ps) r g h k v =
    let e = and_parts (is_declared ds p) (list_all (is_declared ds) ps) h in
    let a = and_parts (list_all (is_bound_in hs) p.args.items)
    (list_all (λ p. list_all (is_bound_in hs) p.args.items) ps) k in
    let b = and_parts (list_all is_valued p.args.items) (are_valued ps) v in (
      record { placed = placed ds p r e.0; args = body_terms n hs g p.args.items a.0 b.0 },
      body_atoms ds n hs ps r g e.1 a.1 b.1,
    )

guard_terms : (n : ℕ) (hs : List Pattern) → AllByRecursion (Good n) (terms_of hs)
    → (cs : List base_comparison.Comparison)
    → list_all (λ c. is_bound_in hs c.left && is_bound_in hs c.right) cs ≡ true
    → list_all (λ c. is_valued c.left && is_valued c.right) cs ≡ true → AllByRecursion (GoodComparison n) cs
guard_terms n hs g [] k v = tt
guard_terms n hs g (c ∷ cs) k v =
    let a = and_parts (is_bound_in hs c.left && is_bound_in hs c.right)
    (list_all (λ c. is_bound_in hs c.left && is_bound_in hs c.right) cs) k in
    let b = and_parts (is_valued c.left && is_valued c.right) (list_all (λ c. is_valued c.left && is_valued c.right) cs)
    v in
    let x = and_parts (is_bound_in hs c.left) (is_bound_in hs c.right) a.0 in let y =
    and_parts (is_valued c.left) (is_valued c.right) b.0 in (
      record { left = good_term n hs g c.left x.0 y.0; right = good_term n hs g c.right x.1 y.1 },
      guard_terms n hs g cs a.1 b.1,
    )

good_rule : (ds : List Declaration) (r : base_rule.Rule) → list_all is_in_range ds ≡ true → fits ds r ≡ true
    → GoodRule ds r
good_rule ds r range fit =
    let hs = heads_of r in
    let f = and_parts (list_all (is_declared ds) r.kept.items && list_all (is_declared ds) r.removed.items)
    (list_all (is_declared ds) r.body.items) fit in
    let g = and_parts (list_all (is_declared ds) r.kept.items) (list_all (is_declared ds) r.removed.items) f.0 in
    let v = and_parts (are_valued hs && list_all (λ c. is_valued c.left && is_valued c.right) r.guard.items)
    (are_valued r.body.items) (valued_rule r) in
    let w = and_parts (are_valued hs) (list_all (λ c. is_valued c.left && is_valued c.right) r.guard.items) v.0 in
    let k = and_parts (list_all (λ c. is_bound_in hs c.left && is_bound_in hs c.right) r.guard.items)
    (list_all (λ p. list_all (is_bound_in hs) p.args.items) r.body.items) (closed_rule r) in
    let s = some_of (numbered 0 (terms_of hs)) (numbered_rule r) in
    let b = bounds 0 s.0 (terms_of hs) s.1 (valued_terms hs w.0) in
    let good = b.good in
    let z = (and_parts (nat_lt 0 (length r.removed.items))
    (nat_le (length r.kept.items + length r.removed.items) MAX_HEADS) (sized_rule r)).1 in
    let heads : length hs ≤ MAX_HEADS = (let a = length-append r.kept.items r.removed.items in
    let c : length r.kept.items + length r.removed.items ≤ MAX_HEADS = grind (arith, nat_tests) in
    omega (arith, a, c)) in
    let most = few_terms ds hs range (declared_both ds r.kept.items r.removed.items g.0 g.1) in
    let split : AllByRecursion (Good s.0) (terms_of r.kept.items ++ terms_of r.removed.items) =
    subst (AllByRecursion (Good s.0)) (terms_of-append r.kept.items r.removed.items) good in
    record {
      n = s.0;
      few = (let m = b.most in omega (arith, m, most, heads));
      count = s.1;
      kept = head_atoms ds s.0 r.kept.items range g.0 (front (Good s.0) (terms_of r.kept.items)
          (terms_of r.removed.items) split);
      removed = head_atoms ds s.0 r.removed.items range g.1
          (back (Good s.0) (terms_of r.kept.items) (terms_of r.removed.items) split);
      guard = guard_terms s.0 hs good r.guard.items k.0 w.1;
      body = body_atoms ds s.0 hs r.body.items range good f.1 k.1 v.1;
    }

-- ---- variables of guard and body are bound

either_any : (a b : Bool) → (a || b) ≡ true → (c d : Bool) → (a ≡ true → c ≡ true) → (b ≡ true → d ≡ true) → (c || d)
    ≡ true
either_any true b h c d f g = or_left c d (f refl)
either_any false b h c d f g = or_right c d (g h)

term_stands : (x : ℕ) (t : base.Term) → rules.is_variable x t ≡ true → faults.is_named (variable_name x)
    (written_term t) ≡ true
term_stands x (Variable y) h = subst (λ z. bytes_eq (variable_name x) (variable_name z) ≡ true) (eqb-true x y h)
    (itself (variable_name x))
term_stands x (Constant c) h = h

stands : (ds : List Declaration) (x : ℕ) (ps : List Pattern) → occurs x ps ≡ true
    → stands_in (variable_name x) (map (written_atom ds) ps) ≡ true
stands ds x ps h =
    any_pass (λ p. list_any (rules.is_variable x) p.args.items)
    (λ a. list_any (faults.is_named (variable_name x)) a.args) (written_atom ds)
    (λ p g. any_pass (rules.is_variable x) (faults.is_named (variable_name x)) written_term
    (term_stands x) p.args.items g) ps h

term_bound : (ds : List Declaration) (r : base_rule.Rule) (t : base.Term) → is_bound_in (heads_of r) t ≡ true
    → term_unbound (written_rule ds r) (written_term t) ≡ false
term_bound ds r (Variable x) h =
    let w = written_rule ds r in
    ap not (either_any (occurs x r.kept.items) (occurs x r.removed.items)
    (sym (list_any-append (λ p. list_any (rules.is_variable x) p.args.items) r.kept.items r.removed.items) ∙ h)
    (stands_in (variable_name x) w.kept) (stands_in (variable_name x) w.removed) (stands ds x r.kept.items)
    (stands ds x r.removed.items))
term_bound ds r (Constant c) h = refl

-- ---- a rule has no fault

module _ (ds : List Declaration) (r : base_rule.Rule) (u : are_distinct ds ≡ true) (g : GoodRule ds r) where
  abbrev w : Rule
  w = written_rule ds r

  undeclared : rule_undeclared ds w ≡ false
  undeclared =
      or_from (any_undeclared ds w.kept) _ (none_pass (is_undeclared ds) (written_atom ds) (GoodAtom ds g.n)
      (atom_declared ds g.n u) r.kept.items g.kept)
      (or_from (any_undeclared ds w.removed) _ (none_pass (is_undeclared ds) (written_atom ds) (GoodAtom ds g.n)
      (atom_declared ds g.n u) r.removed.items g.removed)
      (ap (any_undeclared ds) (present_body ds r.body.items) ∙ none_pass (is_undeclared ds) (written_atom ds)
      (GoodAtom ds g.n) (atom_declared ds g.n u) r.body.items g.body))

  comparisons : present w.guard ≡ map written_comparison r.guard.items
  comparisons = present_map written_comparison r.guard.items

  abbrev labelled : Bool
  labelled = names.is_label (option_map (λ n. n.bytes) r.name)

  limits : (labelled ≡ true) × (length r.guard.items ≤ MAX_COMPARISONS) × (length r.body.items ≤ MAX_BODY)
  limits =
      let a = and_parts (labelled && nat_le (length r.guard.items) MAX_COMPARISONS)
      (nat_le (length r.body.items) MAX_BODY) (few_rule r) in
      let b = and_parts labelled (nat_le (length r.guard.items) MAX_COMPARISONS) a.0 in
      (b.0, (let b1 = b.1 in grind (arith, nat_tests)), (let a1 = a.1 in grind (arith, nat_tests)))

  few_lists : has_long_lists w ≡ false
  few_lists =
      let z = (and_parts (nat_lt 0 (length r.removed.items))
      (nat_le (length r.kept.items + length r.removed.items) MAX_HEADS) (sized_rule r)).1 in
      let k = length-map r.kept.items (written_atom ds) in
      let m = length-map r.removed.items (written_atom ds) in
      let c : length (present w.guard) ≤ MAX_COMPARISONS =
      (let e = ap length comparisons in let f = length-map r.guard.items written_comparison in let l = limits.1 in
      omega (arith, e, f, l)) in
      let b : length (present w.body) ≤ MAX_BODY = (let e = ap length (present_body ds r.body.items) in let f =
      length-map r.body.items (written_atom ds) in let l = limits.2 in omega (arith, e, f, l)) in
      or_from (nat_lt MAX_HEADS (length w.kept + length w.removed)) _ (grind (arith, nat_tests))
      (or_from (nat_lt MAX_COMPARISONS (length (present w.guard))) (nat_lt MAX_BODY (length (present w.body)))
      (grind (arith, nat_tests)) (grind (arith, nat_tests)))

  label_short : (o : Option (List ℕ)) → names.is_label o ≡ true → label_over o ≡ false
  label_short None h = refl
  label_short (Some v) h = name_is_short v (let e1 = (and_parts (names.is_name v) (nat_le (length v) MAX_NAME) h).1 in
      grind (arith, nat_tests))

  few_parts : parts_over w ≡ false
  few_parts =
      let over = λ (c : base_comparison.Comparison) (h : GoodComparison g.n c). or_from _ _
      (within g.n g.few c.left h.left) (within g.n g.few c.right h.right) in
      or_from (list_any parts_of_atom_over w.kept) _ (none_pass parts_of_atom_over (written_atom ds) (GoodAtom ds g.n)
      (atom_within ds g.n g.few) r.kept.items g.kept)
      (or_from (list_any parts_of_atom_over w.removed) _
      (none_pass parts_of_atom_over (written_atom ds) (GoodAtom ds g.n) (atom_within ds g.n g.few) r.removed.items
      g.removed)
      (or_from (list_any comparison_over (present w.guard)) _
      (ap (list_any comparison_over) comparisons ∙ none_pass comparison_over written_comparison
      (GoodComparison g.n) over r.guard.items g.guard)
      (ap (list_any parts_of_atom_over) (present_body ds r.body.items) ∙ none_pass parts_of_atom_over (written_atom ds)
      (GoodAtom ds g.n) (atom_within ds g.n g.few) r.body.items g.body)))

  not_over : some_part_over w ≡ false
  not_over = or_from (has_long_lists w) _ few_lists (or_from (label_over w.label) _
      (label_short (option_map (λ n. n.bytes) r.name) limits.0) few_parts)

  not_unbound : rule_unbound w ≡ false
  not_unbound =
      let hs = heads_of r in
      let k = and_parts (list_all (λ c. is_bound_in hs c.left && is_bound_in hs c.right) r.guard.items)
      (list_all (λ p. list_all (is_bound_in hs) p.args.items) r.body.items) (closed_rule r) in
      or_from (list_any (comparison_unbound w) (present w.guard)) _
      (ap (list_any (comparison_unbound w)) comparisons
      ∙ none_pass (comparison_unbound w) written_comparison
      (λ c. (is_bound_in hs c.left && is_bound_in hs c.right) ≡ true)
      (λ c h. (let e = and_parts (is_bound_in hs c.left) (is_bound_in hs c.right) h in
      or_from _ _ (term_bound ds r c.left e.0) (term_bound ds r c.right e.1))) r.guard.items
      (tested (λ c. is_bound_in hs c.left && is_bound_in hs c.right)
      (λ c. (is_bound_in hs c.left && is_bound_in hs c.right) ≡ true) (λ c h. h) r.guard.items k.0))
      (ap (list_any (atom_unbound w)) (present_body ds r.body.items)
      ∙ none_pass (atom_unbound w) (written_atom ds) (λ p. list_all (is_bound_in hs) p.args.items ≡ true)
      (λ p h. none_pass (term_unbound w) written_term (λ t. is_bound_in hs t ≡ true) (term_bound ds r) p.args.items
      (tested (is_bound_in hs) (λ t. is_bound_in hs t ≡ true) (λ t e. e) p.args.items h)) r.body.items
      (tested (λ p. list_all (is_bound_in hs) p.args.items) (λ p. list_all (is_bound_in hs) p.args.items ≡ true)
      (λ p h. h) r.body.items k.1))

  not_outside : rule_outside w ≡ false
  not_outside =
      let out = λ (c : base_comparison.Comparison) (h : GoodComparison g.n c). or_from _ _ (inside g.n c.left h.left)
      (inside g.n c.right h.right) in
      or_from (list_any atom_outside w.kept) _ (none_pass atom_outside (written_atom ds) (GoodAtom ds g.n)
      (atom_inside ds g.n) r.kept.items g.kept)
      (or_from (list_any atom_outside w.removed) _ (none_pass atom_outside (written_atom ds) (GoodAtom ds g.n)
      (atom_inside ds g.n) r.removed.items g.removed)
      (or_from (list_any comparison_outside (present w.guard)) _
      (ap (list_any comparison_outside) comparisons ∙ none_pass comparison_outside written_comparison
      (GoodComparison g.n) out r.guard.items g.guard)
      (ap (list_any atom_outside) (present_body ds r.body.items) ∙ none_pass atom_outside (written_atom ds)
      (GoodAtom ds g.n) (atom_inside ds g.n) r.body.items g.body)))

  rule_faultless : (q : Progress) → q.meaning.declarations ≡ ds → length q.meaning.rules < MAX_RULES
      → fault_in q (rule w) ≡ None
  rule_faultless q is l =
      let room : nat_le MAX_RULES (length q.meaning.rules) ≡ false = grind (arith, nat_tests) in
      pass (list_any (is_undeclared q.meaning.declarations) (rule_atoms w)) _ _
      (sym (undeclared_is q.meaning.declarations w) ∙ ap (λ d. rule_undeclared d w) is ∙ undeclared)
      (pass (nat_le MAX_RULES (length q.meaning.rules) || rule_over w) _ _
      (or_from (nat_le MAX_RULES (length q.meaning.rules)) _ room (sym (over_is w) ∙ not_over))
      (pass (list_any (is_unbound w) (right_terms w)) _ _ (sym (unbound_is w) ∙ not_unbound)
      (pass (list_any is_outside (terms_in w)) _ _ (sym (outside_is w) ∙ not_outside) refl)))

  -- ---- what is written for a rule is resolved to the rule

  rule_back : resolved ds w ≡ parts_of r
  rule_back =
      let s = numbered_split 0 g.n (terms_of r.kept.items) (terms_of r.removed.items)
      (ap (numbered 0) (sym (terms_of-append r.kept.items r.removed.items)) ∙ g.count) in
      let v = (and_parts (are_valued (heads_of r)) (list_all (λ c. is_valued c.left && is_valued c.right) r.guard.items)
      (and_parts (are_valued (heads_of r) && list_all (λ c. is_valued c.left && is_valued c.right) r.guard.items)
      (are_valued r.body.items) (valued_rule r)).0).0 in
      let vs = valued_parts r.kept.items r.removed.items v in
      let b = (bounds s.0 g.n (terms_of r.removed.items) s.2 (valued_terms r.removed.items vs.1)).least in
      let few : s.0 ≤ MAX_VARIABLES = (let f = g.few in omega (arith, b, f)) in
      let good_kept = good_at s.0 r.kept.items g.kept s.1 (valued_terms r.kept.items vs.0) in
      let k = heads_back ds 0 s.0 r.kept.items few (omega arith) u good_kept (valued_terms r.kept.items vs.0) s.1 in
      let m = heads_back ds s.0 g.n r.removed.items g.few few u g.removed (valued_terms r.removed.items vs.1) s.2 in
      let removed : heads ds (after_heads [] w.kept) w.removed ≡ r.removed.items = ap (λ ns. heads ds ns w.removed) k.1
      ∙ m.0 in
      let all : names_of w ≡ first_names g.n = ap (λ ns. after_heads ns w.removed) k.1 ∙ m.1 in
      let guard : map (resolved_comparison (names_of w)) (present w.guard) ≡ r.guard.items
      = (λ i. map (resolved_comparison (all i)) (comparisons i))
      ∙ same_each (resolved_comparison (first_names g.n)) written_comparison (GoodComparison g.n)
      (comparison_back g.n g.few) r.guard.items g.guard in
      let body : map (body_atom ds (names_of w)) (present w.body) ≡ r.body.items
      = (λ i. map (body_atom ds (all i)) (present_body ds r.body.items i)) ∙ same_each (body_atom ds (first_names g.n))
      (written_atom ds) (GoodAtom ds g.n) (body_atom_back ds g.n g.few u) r.body.items g.body in
      λ i. record {
        name = option_map (λ n. n.bytes) r.name;
        kept = k.0 i;
        removed = removed i;
        guard = guard i;
        body =
            body i;
      }
    where
      valued_parts : (ps qs : List Pattern) → are_valued (ps ++ qs) ≡ true → (are_valued ps ≡ true)
          × (are_valued qs ≡ true)
      valued_parts [] qs h = (refl, h)
      valued_parts (p ∷ ps) qs h =
          let e = and_parts (list_all is_valued p.args.items) (are_valued (ps ++ qs)) h in let m =
          valued_parts ps qs e.1 in (and_from (list_all is_valued p.args.items) _ e.0 m.0, m.1)

      fewer : (n : ℕ) (ps : List Pattern) → AllByRecursion (GoodAtom ds g.n) ps → AllByRecursion (Good n) (terms_of ps)
          → AllByRecursion (GoodAtom ds n) ps
      fewer n [] h t = tt
      fewer n (p ∷ ps) h t = (
        record { placed = h.0.placed; args = front (Good n) p.args.items (terms_of ps) t },
        fewer n ps h.1 (back (Good n) p.args.items (terms_of ps) t),
      )

      good_at : (n : ℕ) (ps : List Pattern) → AllByRecursion (GoodAtom ds g.n) ps → numbered 0 (terms_of ps) ≡ Some n
          → list_all is_valued (terms_of ps) ≡ true → AllByRecursion (GoodAtom ds n) ps
      good_at n ps h e v = fewer n ps h (bounds 0 n (terms_of ps) e v).good

  -- ---- what is written for a rule is a form

  rule_form : IsForm (rule w)
  rule_form = (
    label_form (option_map (λ n. n.bytes) r.name) limits.0,
    mapped (written_atom ds) (GoodAtom ds g.n) IsAtom (atom_form ds g.n) r.kept.items g.kept,
    some_mapped r.removed.items (let z = (and_parts (nat_lt 0 (length r.removed.items))
        (nat_le (length r.kept.items + length r.removed.items) MAX_HEADS) (sized_rule r)).0 in grind (arith, nat_tests))
        g.removed,
    body_form r.body.items g.body,
  )
    where
      label_form : (o : Option (List ℕ)) → names.is_label o ≡ true → IsLabel o
      label_form None h = tt
      label_form (Some v) h = name_is_unreserved v (and_parts (names.is_name v) (nat_le (length v) MAX_NAME) h).0

      mapped : {A B : Type 0} (f : A → B) (P : A → Type 0) (Q : B → Type 0) → ((x : A) → P x → Q (f x)) → (xs : List A)
          → AllByRecursion P xs → AllByRecursion Q (map f xs)
      mapped f P Q h [] a = tt
      mapped f P Q h (x ∷ xs) a = (h x a.0, mapped f P Q h xs a.1)

      some_mapped : (ps : List Pattern) → 0 < length ps → AllByRecursion (GoodAtom ds g.n) ps
          → OneOrMore IsAtom (map (written_atom ds) ps)
      some_mapped [] l h = absurd (omega arith)
      some_mapped (p ∷ ps) l h = mapped (written_atom ds) (GoodAtom ds g.n) IsAtom (atom_form ds g.n) (p ∷ ps) h

      body_form : (ps : List Pattern) → AllByRecursion (GoodAtom ds g.n) ps → OneOrMore IsItem (written_body ds ps)
      body_form [] h = (tt, tt)
      body_form (p ∷ ps) h = mapped (λ a. Some (written_atom ds a)) (GoodAtom ds g.n) IsItem (atom_form ds g.n)
          (p ∷ ps) h

  rule_writable : IsWritableRule ds r
  rule_writable = record {
    label = λ v e. label_word (option_map (λ n. n.bytes) r.name) v e limits.0;
    kept = each_so (GoodAtom ds g.n) _ (atom_writable ds g.n g.few) r.kept.items g.kept;
    some = (let z = (and_parts (nat_lt 0 (length r.removed.items))
        (nat_le (length r.kept.items + length r.removed.items) MAX_HEADS) (sized_rule r)).0 in
        grind (arith, nat_tests));
    removed = each_so (GoodAtom ds g.n) _ (atom_writable ds g.n g.few) r.removed.items g.removed;
    guard = each_so (GoodComparison g.n) IsWritableComparison
        (λ c h. record { left = writable g.n g.few c.left h.left; right = writable g.n g.few c.right h.right })
        r.guard.items g.guard;
    body = each_so (GoodAtom ds g.n) _ (atom_writable ds g.n g.few) r.body.items g.body;
  }
    where
      label_word : (o : Option (List ℕ)) (v : List ℕ) → o ≡ Some v → names.is_label o ≡ true → IsWord is_lower v
      label_word None v e h = absurd (none-some v e)
      label_word (Some x) v e h = subst (IsWord is_lower) (same_Some x v e)
          (name_is_word x (and_parts (names.is_name x) (nat_le (length x) 32) h).0)

-- ---- all rules

rules_clauses : (ds : List Declaration) (rs : List base_rule.Rule) → list_all is_in_range ds ≡ true → are_distinct ds
    ≡ true → list_all (fits ds) rs ≡ true → AreClauses (map (rule_clause ds) rs) (rule_forms ds rs)
rules_clauses ds [] range u h = tt
rules_clauses ds (r ∷ rs) range u h =
    let e = and_parts (fits ds r) (list_all (fits ds) rs) h in let g = good_rule ds r range e.0 in
    (rule_tokens ds r (rule_writable ds r u g), rule_form ds r u g, rules_clauses ds rs range u e.1)

abbrev Ruled : List Declaration → List Parts → List ℕ → List base_rule.Rule → Type 0
Ruled ds made ws rs = AreFaultless (state ds made ws) (rule_forms ds rs)
    × (after (state ds made ws) (rule_forms ds rs) ≡ state ds (made ++ map parts_of rs) ws)

rules_back : (ds : List Declaration) (made : List Parts) (ws : List ℕ) (rs : List base_rule.Rule)
    → list_all is_in_range ds ≡ true → are_distinct ds ≡ true → list_all (fits ds) rs ≡ true
    → length made + length rs ≤ MAX_RULES → Ruled ds made ws rs
rules_back ds made ws [] range u h l = (tt, ap (λ x. state ds x ws) (sym (append-nil made)))
rules_back ds made ws (r ∷ rs) range u h l =
    let e = and_parts (fits ds r) (list_all (fits ds) rs) h in
    let g = good_rule ds r range e.0 in
    let a = length-append made (parts_of r ∷ []) in
    let more = rules_back ds (made ++ parts_of r ∷ []) ws rs range u e.1 (omega (arith, a, l)) in
    let step : state ds (made ++ parts_of r ∷ []) ws ≡ with_form (state ds made ws) (rule (written_rule ds r)) =
    ap (λ x. state ds (made ++ x ∷ []) ws) (sym (rule_back ds r u g)) in
    let faultless = rule_faultless ds r u g (state ds made ws) refl (omega (arith, l)) in (
      (faultless, subst (λ q. AreFaultless q (rule_forms ds rs)) step more.0),
      ap (λ q. after q (rule_forms ds rs)) (sym step) ∙ more.1
          ∙ ap (λ x. state ds x ws) (append_assoc made (parts_of r ∷ []) (map parts_of rs)),
    )

-- ---- all declarations

digits_are_positive : (w : List ℕ) → list_all is_digit w ≡ true → starts_with_minus w ≡ false
digits_are_positive [] h = refl
digits_are_positive (b ∷ bs) h =
    let d = (and_parts (is_digit b) (list_all is_digit bs) h).0 in let n : (b == 45) ≡ false =
    grind (arith, nat_tests) in n

symbol_form : (d : Declaration) → InRange d → IsSymbol (written_symbol d)
symbol_form d r = let a = r.arity in (
  name_is_unreserved d.name r.name,
  digits_are_positive (decimal d.arity)
      (decimal_digits d.arity (omega (arith, a))),
)

symbol_writable : (d : Declaration) → InRange d → IsWritableSymbol d
symbol_writable d r = let a = r.arity in record { word = name_is_word d.name r.name; arity = omega (arith, a) }

declaration_is : (ds : List Declaration) → list_all is_in_range ds ≡ true → AreClauses (declaration_clauses ds)
    (declaration_forms ds)
declaration_is [] h = tt
declaration_is (d ∷ ds) h = (
  declaration_tokens d ds (tested is_in_range IsWritableSymbol
      (λ e k. symbol_writable e (in_range e k)) (d ∷ ds) h),
  symbols (d ∷ ds) h,
  tt,
)
  where
    symbols : (ds : List Declaration) → list_all is_in_range ds ≡ true → AllByRecursion IsSymbol (map written_symbol ds)
    symbols [] h = tt
    symbols (d ∷ ds) h = let e = and_parts (is_in_range d) (list_all is_in_range ds) h in
        (symbol_form d (in_range d e.0), symbols ds e.1)

weights_are : (ds : List Declaration) → list_all is_in_range ds ≡ true
    → AreClauses (weight_clauses ds) (weight_forms ds)
weights_are [] h = tt
weights_are (d ∷ ds) h =
    let e = and_parts (is_in_range d) (list_all is_in_range ds) h in let r = in_range d e.0 in let m = r.first in
    let n = r.second in
    by (is_default d.weight) (
      weight_tokens d (symbol_writable d r) record {
        first = omega (arith, m);
        second =
            omega (arith, n);
      },
      symbol_form d r,
    ) (weights_are ds e.1)
  where
    by : (t : Bool) → (tokens_of (weight_clause d) ≡ Some (spelled (written_weight d))) × IsForm (written_weight d)
        → AreClauses (weight_clauses ds) (weight_forms ds)
        → AreClauses (cond t (weight_clauses ds) (weight_clause d ∷ weight_clauses ds))
        (cond t (weight_forms ds) (written_weight d ∷ weight_forms ds))
    by true one more = more
    by false one more = (one.0, one.1, more)

-- ---- the text

comes_back : (p : Program) → length (canonical (declarations p) (rules_of p)) ≤ MAX_TEXT
    → text_read (canonical (declarations p) (rules_of p)) ≡ Ok (meaning_of p)
comes_back p short =
    let ds = declarations p in let rs = rules_of p in
    let a = and_parts (nat_le (length ds) MAX_SYMBOLS && nat_le (length rs) MAX_RULES && list_all is_in_range ds
    && are_distinct ds) (list_all (fits ds) rs) p.well_formed in
    let b = and_parts (nat_le (length ds) MAX_SYMBOLS && nat_le (length rs) MAX_RULES && list_all is_in_range ds)
    (are_distinct ds) a.0 in
    let c = and_parts (nat_le (length ds) MAX_SYMBOLS && nat_le (length rs) MAX_RULES) (list_all is_in_range ds) b.0 in
    let e = and_parts (nat_le (length ds) MAX_SYMBOLS) (nat_le (length rs) MAX_RULES) c.0 in
    let few : length ds ≤ MAX_SYMBOLS = (let e0 = e.0 in grind (arith, nat_tests)) in
    let few_rules : 0 + length rs ≤ MAX_RULES = (let e1 = e.1 in grind (arith, nat_tests)) in
    let range = c.1 in let u = b.1 in
    let first = declarations_back ds few range u in
    let second = weights_back ds range u in
    let third = rules_back ds [] second.1 rs range u a.1 few_rules in
    let later = weight_forms ds ++ rule_forms ds rs in
    let forms = declaration_forms ds ++ later in
    let are = clauses_append (declaration_clauses ds) (declaration_forms ds)
    (weight_clauses ds ++ map (rule_clause ds) rs) later (declaration_is ds range)
    (clauses_append (weight_clauses ds) (weight_forms ds) (map (rule_clause ds) rs) (rule_forms ds rs)
    (weights_are ds range) (rules_clauses ds rs range u a.1)) in
    let faultless = faultless_append nothing (declaration_forms ds) later first.0
    (subst (λ q. AreFaultless q later) (sym first.1)
    (faultless_append (state (map plain ds) [] []) (weight_forms ds) (rule_forms ds rs) second.0
    (subst (λ q. AreFaultless q (rule_forms ds rs)) (sym second.2) third.0))) in
    let end : after nothing forms ≡ state ds (map parts_of rs) second.1
    = after_append nothing (declaration_forms ds) later ∙ ap (λ q. after q later) first.1
    ∙ after_append (state (map plain ds) [] []) (weight_forms ds) (rule_forms ds rs)
    ∙ ap (λ q. after q (rule_forms ds rs)) second.2 ∙ third.1 in
    short_read (canonical ds rs) short ∙ ap (λ t. meaning_in (pieces_read 1 nothing (pieces t)))
    (no_comments (clauses ds rs) forms are)
    ∙ ap meaning_in (ended_read false 1 nothing (clauses ds rs) forms are faultless) ∙ ap (λ q. Ok q.meaning) end

pub round_trip : ProgramsComeBack
round_trip p short = (programs (canonical (declarations p) (rules_of p)) (meaning_of p)).0 (comes_back p short)
