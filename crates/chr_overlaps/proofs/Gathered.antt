-- Constants gathered from terms, one after another.
use Rattle.std.specs.Prelude.{◌≡◌, ℕ, zero, suc, ℤ, ◌+◌, ◌<◌, ◌≤◌, ◌<ℤ◌, List, [], ◌∷◌, ◌++◌, ◌⊎◌, length, get_or, take}
use Rattle.std.specs.Prelude.{insert, Some, slice_get}
use Rattle.std.proofs.Common.{refl, sym, ap, subst, ◌∙◌, arith, inl, inr, append_assoc}
use Rattle.std.proofs.lemmas.List.{take_more, append-nil}
use Rattle.std.proofs.lemmas.Int.{ints}
use Rattle.chr_base.specs.declared.term.Term.{Term}
use Rattle.chr_base.specs.declared.term.Term.TheVariants.{Variable, Constant}
use Rattle.chr_base.specs.declared.term.Pattern.{Pattern}
use Rattle.chr_base.specs.declared.term.Comparison.{Comparison}
use Rattle.chr_base.specs.declared.rule.Rule.{Rule}
use Rattle.chr_base.specs.RuleTests.{terms_of}
use Rattle.chr_types.specs.OrderTypes.{In, Rises, IsValue}
use Rattle.chr_types.proofs.Members.{in_at, in_first, in_second, in_either}
use Rattle.chr_confluence.specs.Constants.{AreConstants, guard_terms, rule_terms}
use Rattle.chr_base.proofs.Terms.{terms_of-append}
use Rattle.chr_overlaps.specs.working.Gathering.{AreConstantsIn, Gathers, all_terms}

-- one constant more, at its place
in_inserted : (cs : List ℤ) (i : ℕ) (c d : ℤ) → In d (insert cs i c) → (d ≡ c) ⊎ In d cs
in_inserted cs zero c d h = h
in_inserted [] (suc i) c d h = h
in_inserted (x ∷ cs) (suc i) c d h = elim h as (λ _. (d ≡ c) ⊎ ((d ≡ x) ⊎ In d cs)) [
  | inl e ↦ inr (inl e)
  | inr j ↦ elim (in_inserted cs i c d j) as (λ _. (d ≡ c) ⊎ ((d ≡ x) ⊎ In d cs))
      [ inl e ↦ inl e | inr k ↦ inr (inr k) ]
]

inserted_in : (cs : List ℤ) (i : ℕ) (c : ℤ) → i ≤ length cs → In c (insert cs i c)
inserted_in cs zero c l = inl refl
inserted_in [] (suc i) c l = absurd (omega (arith, l))
inserted_in (x ∷ cs) (suc i) c l = inr (inserted_in cs i c (omega (arith, l)))

still_in : (cs : List ℤ) (i : ℕ) (c d : ℤ) → In d cs → In d (insert cs i c)
still_in cs zero c d h = inr h
still_in [] (suc i) c d h = absurd h
still_in (x ∷ cs) (suc i) c d h = elim h as (λ _. (d ≡ x) ⊎ In d (insert cs i c))
    [ inl e ↦ inl e | inr j ↦ inr (still_in cs i c d j) ]

less_all : (c x : ℤ) (cs : List ℤ) → c <ℤ x → Rises (x ∷ cs) → (d : ℤ) → In d (x ∷ cs) → c <ℤ d
less_all c x cs l r d h = elim h as (λ _. c <ℤ d) [
  | inl e ↦ subst (λ y. c <ℤ y) (sym e) l
  | inr j ↦
      (let m = r.0 d j in omega (arith, ints, l, m))
]

rises_inserted : (cs : List ℤ) (i : ℕ) (c : ℤ) → Rises cs → ((k : ℕ) → k < i → get_or cs k c <ℤ c)
    → (i < length cs → c <ℤ get_or cs i c) → i ≤ length cs → Rises (insert cs i c)
rises_inserted [] zero c r b a l = ((λ d h. absurd h), tt)
rises_inserted (x ∷ cs) zero c r b a l = (less_all c x cs (a (omega arith)) r, r)
rises_inserted [] (suc i) c r b a l = absurd (omega (arith, l))
rises_inserted (x ∷ cs) (suc i) c r b a l = (
  λ d h. elim (in_inserted cs i c d h) as (λ _. x <ℤ d)
      [ inl e ↦ subst (λ y. x <ℤ y) (sym e) (b 0 (omega arith)) | inr j ↦ r.0 d j ],
  rises_inserted cs i c r.1 (λ k h. b (suc k) (omega (arith, h))) (λ h. a (omega (arith, h))) (omega (arith, l)),
)

pub constant_there : (cs : List ℤ) (c : ℤ) → In c cs → Gathers (Constant c ∷ []) cs cs
constant_there cs c h before is = record {
  rise = is.rise;
  values = is.values;
  stand = λ d j. in_first (Constant d) before (Constant c ∷ []) (is.stand d j);
  all = λ d j. elim (in_either (Constant d) before (Constant c ∷ []) j) as (λ _. In d cs) [
    | inl k ↦ is.all d k
    | inr k ↦ elim k as (λ _. In d cs) [
      | inl e ↦ (let q : Constant d ≡ Constant c = e in let same : c ≡ d = cc in
          subst (λ z. In z cs) same h)
      | inr n ↦ absurd n
    ]
  ];
}

pub constant_inserted : (cs ds : List ℤ) (i : ℕ) (c : ℤ) → IsValue c → i ≤ length cs
    → ((k : ℕ) → k < i → get_or cs k c <ℤ c) → (i < length cs → c <ℤ get_or cs i c) → ds ≡ insert cs i c
    → Gathers (Constant c ∷ []) cs ds
constant_inserted cs ds i c v l b a e before is =
    subst (AreConstantsIn (before ++ Constant c ∷ [])) (sym e) (record {
      rise = rises_inserted cs i c is.rise b a l;
      values = λ d j. elim (in_inserted cs i c d j) as (λ _. IsValue d)
          [ inl f ↦ subst IsValue (sym f) v | inr k ↦ is.values d k ];
      stand = λ d j. elim (in_inserted cs i c d j) as (λ _. In (Constant d) (before ++ Constant c ∷ [])) [
        | inl f ↦ in_second (Constant d) before (Constant c ∷ []) (inl (ap Constant f))
        | inr k ↦ in_first (Constant d) before (Constant c ∷ []) (is.stand d k)
      ];
      all = λ d j. elim (in_either (Constant d) before (Constant c ∷ []) j) as (λ _. In d (insert cs i c)) [
        | inl k ↦ still_in cs i c d (is.all d k)
        | inr k ↦ elim k as (λ _. In d (insert cs i c)) [
          | inl f ↦ (let q : Constant d ≡ Constant c = f in let same : c ≡ d = cc in
              subst (λ z. In z (insert cs i c)) same (inserted_in cs i c l))
          | inr n ↦ absurd n
        ]
      ];
    })

pub variable_passed : (x : ℕ) (cs : List ℤ) → Gathers (Variable x ∷ []) cs cs
variable_passed x cs before is = record {
  rise = is.rise;
  values = is.values;
  stand = λ d j. in_first (Constant d) before (Variable x ∷ []) (is.stand d j);
  all = λ d j. elim (in_either (Constant d) before (Variable x ∷ []) j) as (λ _. In d cs) [
    | inl k ↦ is.all d k
    | inr k ↦ elim k as (λ _. In d cs) [ inl e ↦ absurd (let q : Constant d ≡ Variable x = e in cc) | inr n ↦ absurd n ]
  ];
}

pub constant_gathered : (t : Term) (c : ℤ) (cs ds : List ℤ) → t ≡ Constant c → Gathers (Constant c ∷ []) cs ds
    → Gathers (t ∷ []) cs ds
constant_gathered t c cs ds e g = subst (λ u. Gathers (u ∷ []) cs ds) (sym e) g

pub term_passed : (t : Term) (cs : List ℤ) → ((c : ℤ) → t ≡ Constant c → ⊥) → Gathers (t ∷ []) cs cs
term_passed (Variable x) cs n = variable_passed x cs
term_passed (Constant c) cs n = absurd (n c refl)

-- from one list of terms, and then from another
pub gathered_both : (ts us : List Term) (cs ds es : List ℤ) → Gathers ts cs ds → Gathers us ds es
    → Gathers (ts ++ us) cs es
gathered_both ts us cs ds es g h before is = subst (λ xs. AreConstantsIn xs es) (append_assoc before ts us)
    (h (before ++ ts) (g before is))

guard_terms-append : (as' bs : List Comparison) → guard_terms (as' ++ bs) ≡ guard_terms as' ++ guard_terms bs
guard_terms-append [] bs = refl
guard_terms-append (a ∷ as') bs = ap (λ ts. a.left ∷ a.right ∷ ts) (guard_terms-append as' bs)

all_terms-append : (rs ss : List Rule) → all_terms (rs ++ ss) ≡ all_terms rs ++ all_terms ss
all_terms-append [] ss = refl
all_terms-append (r ∷ rs) ss = ap (λ ts. rule_terms r ++ ts) (all_terms-append rs ss)
    ∙ sym (append_assoc (rule_terms r) (all_terms rs) (all_terms ss))

-- one item more of a list
pub term_gathered : (ts : List Term) (i : ℕ) (d : Term) (cs ds es : List ℤ) → i < length ts → Gathers (take i ts) cs ds
    → Gathers (get_or ts i d ∷ []) ds es → Gathers (take (i + 1) ts) cs es
term_gathered ts i d cs ds es l g h = subst (λ us. Gathers us cs es) (sym (take_more ts i d l))
    (gathered_both (take i ts) (get_or ts i d ∷ []) cs ds es g h)

pub pattern_gathered : (ps : List Pattern) (i : ℕ) (d : Pattern) (cs ds es : List ℤ) → i < length ps
    → Gathers (terms_of (take i ps)) cs ds → Gathers (get_or ps i d).args.items ds es
    → Gathers (terms_of (take (i + 1) ps)) cs es
pattern_gathered ps i d cs ds es l g h =
    let e : terms_of (take (i + 1) ps) ≡ terms_of (take i ps) ++ (get_or ps i d).args.items =
    ap terms_of (take_more ps i d l) ∙ terms_of-append (take i ps) (get_or ps i d ∷ [])
    ∙ ap (λ ts. terms_of (take i ps) ++ ts) (append-nil (get_or ps i d).args.items) in
    subst (λ us. Gathers us cs es) (sym e) (gathered_both (terms_of (take i ps)) (get_or ps i d).args.items cs ds es g
    h)

pub comparison_gathered : (as' : List Comparison) (i : ℕ) (d : Comparison) (cs ds es : List ℤ) → i < length as'
    → Gathers (guard_terms (take i as')) cs ds → Gathers ((get_or as' i d).left ∷ (get_or as' i d).right ∷ []) ds es
    → Gathers (guard_terms (take (i + 1) as')) cs es
comparison_gathered as' i d cs ds es l g h =
    let e : guard_terms (take (i + 1) as') ≡ guard_terms (take i as')
    ++ ((get_or as' i d).left ∷ (get_or as' i d).right ∷ []) = ap guard_terms (take_more as' i d l)
    ∙ guard_terms-append (take i as') (get_or as' i d ∷ []) in
    subst (λ us. Gathers us cs es) (sym e) (gathered_both (guard_terms (take i as'))
    ((get_or as' i d).left ∷ (get_or as' i d).right ∷ []) cs ds es g h)

pub rule_gathered : (r : Rule) (as' bs cs ds es : List ℤ) → Gathers (terms_of r.kept.items) as' bs
    → Gathers (terms_of r.removed.items) bs cs → Gathers (guard_terms r.guard.items) cs ds
    → Gathers (terms_of r.body.items) ds es → Gathers (rule_terms r) as' es
rule_gathered r as' bs cs ds es k m g b =
    let heads : Gathers (terms_of (r.kept.items ++ r.removed.items)) as' cs =
    subst (λ us. Gathers us as' cs) (sym (terms_of-append r.kept.items r.removed.items))
    (gathered_both (terms_of r.kept.items) (terms_of r.removed.items) as' bs cs k m) in
    gathered_both (terms_of (r.kept.items ++ r.removed.items) ++ guard_terms r.guard.items)
    (terms_of r.body.items) as' ds es
    (gathered_both (terms_of (r.kept.items ++ r.removed.items)) (guard_terms r.guard.items) as' cs ds heads g) b

pub rules_gathered : (rs : List Rule) (i : ℕ) (d : Rule) (cs ds : List ℤ) → i < length rs
    → AreConstantsIn (all_terms (take i rs)) cs → Gathers (rule_terms (get_or rs i d)) cs ds
    → AreConstantsIn (all_terms (take (i + 1) rs)) ds
rules_gathered rs i d cs ds l is g =
    let e : all_terms (take (i + 1) rs) ≡ all_terms (take i rs) ++ rule_terms (get_or rs i d) =
    ap all_terms (take_more rs i d l) ∙ all_terms-append (take i rs) (get_or rs i d ∷ [])
    ∙ ap (λ ts. all_terms (take i rs) ++ ts) (append-nil (rule_terms (get_or rs i d))) in
    subst (λ ts. AreConstantsIn ts ds) (sym e) (g (all_terms (take i rs)) is)

pub none_yet : AreConstantsIn [] []
none_yet = record { rise = tt; values = λ v h. absurd h; stand = λ c h. absurd h; all = λ c h. absurd h }

-- the terms of all rules are those of some rule
pub of_some_rule : (rs : List Rule) (t : Term) → In t (all_terms rs) → (i : ℕ) × (r : Rule) × (slice_get rs i ≡ Some r)
    × In t (rule_terms r)
of_some_rule [] t h = absurd h
of_some_rule (r ∷ rs) t h = elim (in_either t (rule_terms r) (all_terms rs) h) as (λ _. (i : ℕ) × (s : Rule)
    × (slice_get (r ∷ rs) i ≡ Some s) × In t (rule_terms s)) [
      | inl j ↦ (0, r, refl, j)
      | inr j ↦ (let w = of_some_rule rs t j in (suc w.0, w.1, w.2, w.3))
    ]

of_all_rules : (rs : List Rule) (t : Term) (i : ℕ) (r : Rule) → slice_get rs i ≡ Some r → In t (rule_terms r)
    → In t (all_terms rs)
of_all_rules [] t i r e h = absurd cc
of_all_rules (s ∷ rs) t zero r e h = in_first t (rule_terms s) (all_terms rs)
    (let q : s ≡ r = cc in subst (λ x. In t (rule_terms x)) (sym q) h)
of_all_rules (s ∷ rs) t (suc i) r e h = in_second t (rule_terms s) (all_terms rs) (of_all_rules rs t i r e h)

pub all_gathered : (rs : List Rule) (cs : List ℤ) → AreConstantsIn (all_terms rs) cs → AreConstants rs cs
all_gathered rs cs is = record {
  rise = is.rise;
  stand = λ c h. of_some_rule rs (Constant c) (is.stand c h);
  all = λ c h. is.all c (of_all_rules rs (Constant c) h.0 h.1 h.2 h.3);
}
