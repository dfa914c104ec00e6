-- The fault of a clause that is found is its least.
use Rattle.std.proofs.Common.{◌≡◌, ◌≤◌, ℕ, List, [], ◌∷◌, Bool, true, false, cond, ◌&&◌, ◌⊎◌, inl, inr, nat_le, nat_eq}
use Rattle.std.proofs.Common.{Option, Some, None, Result, Ok, Err, refl, sym, ap, ◌∙◌, subst, arith}
use Rattle.std.proofs.lemmas.Bool.{false≢true, and_parts}
use Rattle.std.proofs.lemmas.Bool.Decides.{nat_tests}
use Rattle.std.proofs.lemmas.Option.{none-some, same_Some}
use Rattle.std.specs.List.{list_all}
use Rattle.chr_syntax.specs.Bytes.{is_layout, is_text}
use Rattle.chr_syntax.specs.Clauses.{Form}
use Rattle.chr_syntax.specs.working.Forms.{clause_of}
use Rattle.chr_syntax.specs.Lexemes.{AreClause}
use Rattle.chr_syntax.proofs.Lexed.{read_is, clauses_read}
use Rattle.chr_syntax.specs.declared.fault.RestFault.TheVariants as rest
use Rattle.chr_syntax.proofs.Laws.{none_fits}
use Rattle.chr_read.specs.declared.fault.Fault.{Fault}
use Rattle.chr_read.specs.declared.fault.Fault.TheVariants as fault
use Rattle.chr_read.specs.Numbers.{number_of_fault}
use Rattle.chr_read.specs.Meanings.{Progress}
use Rattle.chr_read.specs.Faults.{fault_test}
use Rattle.chr_read.specs.working.TextsRead.{by_number, first_of, fault_in, checked, formed, clause_read, with_rest}
use Rattle.chr_read.specs.working.TextsRead.{fault_of_rest, rest_read}
use Rattle.chr_read.specs.Reading.{with_form}
use Rattle.chr_read.specs.ProgramTexts.{HasFault, HasRestFault, IsLeast}

-- ---- answers

pub same_error : {A E : Type 0} (a b : E) → ◌≡◌ {A = Result A E} (Err a) (Err b) → a ≡ b
same_error {A = A} {E = E} a b h = ap error h
  where
    error : Result A E → E
    error (Ok x) = a
    error (Err e) = e

pub same_ok : {A E : Type 0} (a b : A) → ◌≡◌ {A = Result A E} (Ok a) (Ok b) → a ≡ b
same_ok {A = A} {E = E} a b h = ap value h
  where
    value : Result A E → A
    value (Ok x) = x
    value (Err e) = a

pub no_error : {A E : Type 0} (a : A) (e : E) → ◌≡◌ {A = Result A E} (Ok a) (Err e) → ⊥
no_error {A = A} {E = E} a e h = false≢true (ap fails h)
  where
    fails : Result A E → Bool
    fails (Ok x) = false
    fails (Err y) = true

-- ---- a fault is known by its number

abbrev pub fault_of : ℕ → Fault
fault_of k =
    cond (nat_eq k 1) fault.BadByte (cond (nat_eq k 3) fault.Syntax
    (cond (nat_eq k 4) fault.Propagation (cond (nat_eq k 5) fault.Undeclared
    (cond (nat_eq k 6) fault.DeclaredTwice (cond (nat_eq k 7) fault.Limit
    (cond (nat_eq k 8) fault.Unbound (cond (nat_eq k 9) fault.NumberRange
    (cond (nat_eq k 10) fault.WeightFault fault.Unended))))))))

numbered_so : (n : Fault) → fault_of (number_of_fault n) ≡ n
numbered_so fault.BadByte = refl
numbered_so fault.Syntax = refl
numbered_so fault.Propagation = refl
numbered_so fault.Undeclared = refl
numbered_so fault.DeclaredTwice = refl
numbered_so fault.Limit = refl
numbered_so fault.Unbound = refl
numbered_so fault.NumberRange = refl
numbered_so fault.WeightFault = refl
numbered_so fault.Unended = refl

same_number : (n m : Fault) → number_of_fault n ≡ number_of_fault m → n ≡ m
same_number n m h = sym (numbered_so n) ∙ ap fault_of h ∙ numbered_so m

-- there is one least fault
pub one_least : (Has : Fault → Type 0) (n m : Fault) → IsLeast Has n → IsLeast Has m → n ≡ m
one_least Has n m p q = same_number n m (omega (arith, p.1 m q.0, q.1 n p.0))

-- ---- the first in a rising list

abbrev pub below : Fault → List Fault → Bool
below n ns = list_all (λ m. nat_le (number_of_fault n) (number_of_fault m)) ns

abbrev pub rising : List Fault → Bool
rising [] = true
rising (n ∷ ns) = below n ns && rising ns

abbrev pub Among : Fault → List Fault → Type 0
Among m [] = ⊥
Among m (n ∷ ns) = (m ≡ n) ⊎ Among m ns

below_each : (n m : Fault) (ns : List Fault) → below n ns ≡ true → Among m ns → number_of_fault n ≤ number_of_fault m
below_each n m [] h a = absurd a
below_each n m (x ∷ xs) h a =
    let p = and_parts (nat_le (number_of_fault n) (number_of_fault x)) (below n xs) h in
    elim a [ inl e ↦ let k = ap number_of_fault e in grind (arith, nat_tests) | inr b ↦ below_each n m xs p.1 b ]

first_least : (p : Fault → Bool) (ns : List Fault) (n : Fault) → rising ns ≡ true → first_of p ns ≡ Some n
    → (p n ≡ true) × ((m : Fault) → Among m ns → p m ≡ true → number_of_fault n ≤ number_of_fault m)
first_least p [] n r h = absurd (none-some n h)
first_least p (x ∷ xs) n r h = by (p x) refl h (first_least p xs n (and_parts (below x xs) (rising xs) r).1)
  where
    at_front : (p x ≡ true) → (m : Fault) → Among m (x ∷ xs) → p m ≡ true → number_of_fault x ≤ number_of_fault m
    at_front e m a pm = elim a [
      | inl s ↦ let k = ap number_of_fault s in
          omega (arith, k)
      | inr b ↦ below_each x m xs (and_parts (below x xs) (rising xs) r).0 b
    ]

    by : (b : Bool) → p x ≡ b → cond b (Some x) (first_of p xs) ≡ Some n
        → (first_of p xs ≡ Some n → (p n ≡ true) × ((m : Fault) → Among m xs → p m ≡ true
        → number_of_fault n ≤ number_of_fault m))
        → (p n ≡ true) × ((m : Fault) → Among m (x ∷ xs) → p m ≡ true → number_of_fault n ≤ number_of_fault m)
    by true e h later =
        let P : Fault → Type 0 = λ y. (p y ≡ true) × ((m : Fault) → Among m (x ∷ xs) → p m ≡ true
        → number_of_fault y ≤ number_of_fault m) in
        subst P (same_Some x n h) (e, at_front e)
    by false e h later =
        let i = later h in
        (i.0, λ m a pm. elim a [ inl s ↦ absurd (false≢true (sym e ∙ ap p (sym s) ∙ pm)) | inr b ↦ i.1 m b pm ])

first_none : (p : Fault → Bool) (ns : List Fault) → first_of p ns ≡ None → (m : Fault) → Among m ns → p m ≡ false
first_none p [] h m a = absurd a
first_none p (x ∷ xs) h m a = by (p x) refl h (first_none p xs)
  where
    by : (b : Bool) → p x ≡ b → cond b (Some x) (first_of p xs) ≡ None
        → (first_of p xs ≡ None → (m : Fault) → Among m xs → p m ≡ false) → p m ≡ false
    by true e h later = absurd (none-some x (sym h))
    by false e h later = elim a [ inl s ↦ ap p s ∙ e | inr b ↦ later h m b ]

-- a fault of forms is in the list, and no other fault passes its test
listed : (m : Fault) → Among m by_number ⊎ ((q : Progress) (f : Form) → fault_test m q f ≡ false)
listed fault.BadByte = inr (λ q f. refl)
listed fault.Syntax = inr (λ q f. refl)
listed fault.Propagation = inl (inl refl)
listed fault.Undeclared = inl (inr (inl refl))
listed fault.DeclaredTwice = inl (inr (inr (inl refl)))
listed fault.Limit = inl (inr (inr (inr (inl refl))))
listed fault.Unbound = inl (inr (inr (inr (inr (inl refl)))))
listed fault.NumberRange = inl (inr (inr (inr (inr (inr (inl refl))))))
listed fault.WeightFault = inl (inr (inr (inr (inr (inr (inr (inl refl)))))))
listed fault.Unended = inr (λ q f. refl)

in_order : rising by_number ≡ true
in_order = refl

least_in : (q : Progress) (f : Form) (n : Fault) → fault_in q f ≡ Some n
    → (fault_test n q f ≡ true) × ((m : Fault) → fault_test m q f ≡ true → number_of_fault n ≤ number_of_fault m)
least_in q f n h =
    let l = first_least (λ m. fault_test m q f) by_number n in_order h in
    (l.0, λ m t. elim (listed m) [ inl a ↦ l.1 m a t | inr never ↦ absurd (false≢true (sym (never q f) ∙ t)) ])

none_in : (q : Progress) (f : Form) → fault_in q f ≡ None → (m : Fault) → fault_test m q f ≡ false
none_in q f h m = elim (listed m) [ inl a ↦ first_none (λ n. fault_test n q f) by_number h m a | inr never ↦ never q f ]

-- ---- the faults of a clause that has a form

one_form : (c : List ℕ) (f g : Form) → AreClause f c → AreClause g c → f ≡ g
one_form c f g a b = same_Some f g (sym (clauses_read c f a) ∙ clauses_read c g b)

has : (q : Progress) (c : List ℕ) (f : Form) (m : Fault) → AreClause f c → fault_test m q f ≡ true → HasFault q c m
has q c f fault.BadByte a t = absurd (false≢true t)
has q c f fault.Syntax a t = absurd (false≢true t)
has q c f fault.Propagation a t = (f, a, t)
has q c f fault.Undeclared a t = (f, a, t)
has q c f fault.DeclaredTwice a t = (f, a, t)
has q c f fault.Limit a t = (f, a, t)
has q c f fault.Unbound a t = (f, a, t)
has q c f fault.NumberRange a t = (f, a, t)
has q c f fault.WeightFault a t = (f, a, t)
has q c f fault.Unended a t = absurd (false≢true t)

its : (q : Progress) (c : List ℕ) (f : Form) (m : Fault) → AreClause f c
    → ((g : Form) × AreClause g c × (fault_test m q g ≡ true)) → fault_test m q f ≡ true
its q c f m a h = ap (fault_test m q) (one_form c f h.0 a h.1) ∙ h.2

had : (q : Progress) (c : List ℕ) (f : Form) (m : Fault) → is_text c ≡ true → AreClause f c → HasFault q c m
    → fault_test m q f ≡ true
had q c f fault.BadByte text a h = absurd (false≢true (sym h ∙ text))
had q c f fault.Syntax text a h = absurd (h f a)
had q c f fault.Propagation text a h = its q c f fault.Propagation a h
had q c f fault.Undeclared text a h = its q c f fault.Undeclared a h
had q c f fault.DeclaredTwice text a h = its q c f fault.DeclaredTwice a h
had q c f fault.Limit text a h = its q c f fault.Limit a h
had q c f fault.Unbound text a h = its q c f fault.Unbound a h
had q c f fault.NumberRange text a h = its q c f fault.NumberRange a h
had q c f fault.WeightFault text a h = its q c f fault.WeightFault a h
had q c f fault.Unended text a h = absurd h

at_least_one : (m : Fault) → 1 ≤ number_of_fault m
at_least_one fault.BadByte = omega arith
at_least_one fault.Syntax = omega arith
at_least_one fault.Propagation = omega arith
at_least_one fault.Undeclared = omega arith
at_least_one fault.DeclaredTwice = omega arith
at_least_one fault.Limit = omega arith
at_least_one fault.Unbound = omega arith
at_least_one fault.NumberRange = omega arith
at_least_one fault.WeightFault = omega arith
at_least_one fault.Unended = omega arith

at_least_three : (q : Progress) (c : List ℕ) → is_text c ≡ true → (m : Fault) → HasFault q c m → 3 ≤ number_of_fault m
at_least_three q c text fault.BadByte h = absurd (false≢true (sym h ∙ text))
at_least_three q c text fault.Syntax h = omega arith
at_least_three q c text fault.Propagation h = omega arith
at_least_three q c text fault.Undeclared h = omega arith
at_least_three q c text fault.DeclaredTwice h = omega arith
at_least_three q c text fault.Limit h = omega arith
at_least_three q c text fault.Unbound h = omega arith
at_least_three q c text fault.NumberRange h = omega arith
at_least_three q c text fault.WeightFault h = omega arith
at_least_three q c text fault.Unended h = omega arith

-- ---- a clause

abbrev pub ClauseMeans : Progress → List ℕ → Result Progress Fault → Type 0
ClauseMeans q c (Ok r) = (f : Form) × AreClause f c × ((n : Fault) → ¬ (HasFault q c n)) × (with_form q f ≡ r)
ClauseMeans q c (Err n) = IsLeast (HasFault q c) n

with_fault : (q : Progress) (c : List ℕ) (f : Form) → is_text c ≡ true → AreClause f c
    → ClauseMeans q c (checked q f (fault_in q f))
with_fault q c f text a = by (fault_in q f) refl
  where
    by : (o : Option Fault) → fault_in q f ≡ o → ClauseMeans q c (checked q f o)
    by None is = (f, a, λ n h. false≢true (sym (none_in q f is n) ∙ had q c f n text a h), refl)
    by (Some n) is = let l = least_in q f n is in (has q c f n a l.0, λ m h. l.1 m (had q c f m text a h))

pub clause_means : (q : Progress) (c : List ℕ) → ClauseMeans q c (clause_read q c)
unfolding clause_read
clause_means q c = by (is_text c) refl (clause_of c) refl
  where
    by : (b : Bool) → is_text c ≡ b → (o : Option Form) → clause_of c ≡ o
        → ClauseMeans q c (cond b (formed q o) (Err fault.BadByte))
    by false text o is = (text, λ m h. at_least_one m)
    by true text None is = (none_fits c is, at_least_three q c text)
    by true text (Some f) is = with_fault q c f text (read_is c f is)

pub good : (q : Progress) (c : List ℕ) (f : Form) → AreClause f c → ((n : Fault) → ¬ (HasFault q c n)) → clause_read q c
    ≡ Ok (with_form q f)
good q c f a none = by (clause_read q c) refl (clause_means q c)
  where
    by : (r : Result Progress Fault) → clause_read q c ≡ r → ClauseMeans q c r → clause_read q c ≡ Ok (with_form q f)
    by (Ok r) is m = is ∙ ap Ok (sym m.3 ∙ ap (with_form q) (one_form c m.0 f m.1 a))
    by (Err n) is m = absurd (none n m.0)

pub bad : (q : Progress) (c : List ℕ) (n : Fault) → IsLeast (HasFault q c) n → clause_read q c ≡ Err n
bad q c n l = by (clause_read q c) refl (clause_means q c)
  where
    by : (r : Result Progress Fault) → clause_read q c ≡ r → ClauseMeans q c r → clause_read q c ≡ Err n
    by (Ok r) is m = absurd (m.2 n l.0)
    by (Err k) is m = is ∙ ap Err (one_least (HasFault q c) k n m l)

-- ---- the rest

abbrev pub RestMeans : Progress → List ℕ → Result Progress Fault → Type 0
RestMeans q c (Ok r) = ((n : Fault) → ¬ (HasRestFault c n)) × (q ≡ r)
RestMeans q c (Err n) = IsLeast (HasRestFault c) n

no_rest_fault : (c : List ℕ) → is_text c ≡ true → list_all is_layout c ≡ true → (n : Fault) → ¬ (HasRestFault c n)
no_rest_fault c text layout fault.BadByte h = false≢true (sym h ∙ text)
no_rest_fault c text layout fault.Unended h = false≢true (sym h ∙ layout)
no_rest_fault c text layout fault.Syntax h = h
no_rest_fault c text layout fault.Propagation h = h
no_rest_fault c text layout fault.Undeclared h = h
no_rest_fault c text layout fault.DeclaredTwice h = h
no_rest_fault c text layout fault.Limit h = h
no_rest_fault c text layout fault.Unbound h = h
no_rest_fault c text layout fault.NumberRange h = h
no_rest_fault c text layout fault.WeightFault h = h

unended_least : (c : List ℕ) → is_text c ≡ true → (m : Fault) → HasRestFault c m → 11 ≤ number_of_fault m
unended_least c text fault.BadByte h = absurd (false≢true (sym h ∙ text))
unended_least c text fault.Unended h = omega arith
unended_least c text fault.Syntax h = absurd h
unended_least c text fault.Propagation h = absurd h
unended_least c text fault.Undeclared h = absurd h
unended_least c text fault.DeclaredTwice h = absurd h
unended_least c text fault.Limit h = absurd h
unended_least c text fault.Unbound h = absurd h
unended_least c text fault.NumberRange h = absurd h
unended_least c text fault.WeightFault h = absurd h

pub rest_means : (q : Progress) (c : List ℕ) → RestMeans q c (rest_read q c)
unfolding rest_read
rest_means q c = by (is_text c) refl (list_all is_layout c) refl
  where
    by : (b : Bool) → is_text c ≡ b → (l : Bool) → list_all is_layout c ≡ l
        → RestMeans q c (with_rest q (fault_of_rest (cond b (cond l None (Some rest.Unended)) (Some rest.BadByte))))
    by false text l is = (text, λ m h. at_least_one m)
    by true text true is = (no_rest_fault c text is, refl)
    by true text false is = (is, unended_least c text)

pub good_rest : (q : Progress) (c : List ℕ) → ((n : Fault) → ¬ (HasRestFault c n)) → rest_read q c ≡ Ok q
good_rest q c none = by (rest_read q c) refl (rest_means q c)
  where
    by : (r : Result Progress Fault) → rest_read q c ≡ r → RestMeans q c r → rest_read q c ≡ Ok q
    by (Ok r) is m = is ∙ ap Ok (sym m.1)
    by (Err n) is m = absurd (none n m.0)

pub bad_rest : (q : Progress) (c : List ℕ) (n : Fault) → IsLeast (HasRestFault c) n → rest_read q c ≡ Err n
bad_rest q c n l = by (rest_read q c) refl (rest_means q c)
  where
    by : (r : Result Progress Fault) → rest_read q c ≡ r → RestMeans q c r → rest_read q c ≡ Err n
    by (Ok r) is m = absurd (m.0 n l.0)
    by (Err k) is m = is ∙ ap Err (one_least (HasRestFault c) k n m l)
