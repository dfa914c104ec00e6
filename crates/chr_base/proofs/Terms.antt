-- The terms of atoms as a rule writes them.
use Rattle.std.proofs.Common.{◌≡◌, List, [], ◌∷◌, ◌++◌, refl, sym, ap, ◌∙◌, append_assoc}
use Rattle.std.specs.Prelude.{ℕ, ◌+◌, Bool, true, false, ◌&&◌, cond, nat_eq, nat_lt, nat_le, Option, Some, None}
use Rattle.std.specs.Prelude.{is_some}
use Rattle.std.specs.Option.{option_and_then}
use Rattle.chr_base.specs.declared.term.Term.{Term}
use Rattle.chr_base.specs.declared.term.Term.TheVariants.{Variable, Constant}
use Rattle.chr_base.specs.declared.term.Pattern.{Pattern}
use Rattle.chr_base.specs.RuleTests.{numbered, terms_of}

pub terms_of-append : (ps qs : List Pattern) → terms_of (ps ++ qs) ≡ terms_of ps ++ terms_of qs
terms_of-append [] qs = refl
terms_of-append (p ∷ ps) qs = ap (λ ts. p.args.items ++ ts) (terms_of-append ps qs)
    ∙ sym (append_assoc p.args.items (terms_of ps) (terms_of qs))

-- ---- variables counted in two parts

pub numbered-append : (n : ℕ) (ts us : List Term) → numbered n (ts ++ us) ≡ option_and_then (λ m. numbered m us)
    (numbered n ts)
numbered-append n [] us = refl
numbered-append n (Constant c ∷ ts) us = numbered-append n ts us
numbered-append n (Variable x ∷ ts) us = by (nat_eq x (n + 1)) (nat_lt 0 x && nat_le x n)
    (numbered-append (n + 1) ts us) (numbered-append n ts us)
  where
    by : (a b : Bool) → numbered (n + 1) (ts ++ us) ≡ option_and_then (λ m. numbered m us) (numbered (n + 1) ts)
        → numbered n (ts ++ us) ≡ option_and_then (λ m. numbered m us) (numbered n ts)
        → cond a (numbered (n + 1) (ts ++ us)) (cond b (numbered n (ts ++ us)) None)
        ≡ option_and_then (λ m. numbered m us) (cond a (numbered (n + 1) ts) (cond b (numbered n ts) None))
    by true b p q = p
    by false true p q = q
    by false false p q = refl

-- where the variables of two lists in a row are numbered, those of the first list are
pub first_numbered : (n : ℕ) (ts us : List Term) → is_some (numbered n (ts ++ us)) ≡ true → is_some (numbered n ts)
    ≡ true
first_numbered n ts us h = by (numbered n ts) (rw (numbered-append n ts us) at h)
  where
    by : (o : Option ℕ) → is_some (option_and_then (λ m. numbered m us) o) ≡ true → is_some o ≡ true
    by None h = h
    by (Some m) h = refl

-- after the first part the second is counted on
pub then_numbered : (n m : ℕ) (ts us : List Term) → numbered n ts ≡ Some m → numbered n (ts ++ us) ≡ numbered m us
then_numbered n m ts us e = numbered-append n ts us ∙ ap (option_and_then (λ k. numbered k us)) e
