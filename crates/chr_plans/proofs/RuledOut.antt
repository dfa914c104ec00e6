-- Heads with other constants than an atom has.
use Rattle.std.specs.Prelude.{◌≡◌, ℕ, ℤ, ◌-◌, ◌≤◌, List, [], ◌∷◌, map, length, get_or, take, drop, Bool}
use Rattle.std.specs.Prelude.{true, false, not}
use Rattle.std.specs.Bool.{OnTrue, OnFalse}
use Rattle.std.proofs.Common.{sym, ap, ◌∙◌, arith}
use Rattle.std.proofs.lemmas.List.{take_all}
use Rattle.chr_base.specs.declared.atom.Atom.{Atom}
use Rattle.chr_base.specs.declared.rule.Rule.{Rule}
use Rattle.chr_base.specs.declared.term.Term.{Term}
use Rattle.chr_base.specs.Rules.{Valuation, term_value}
use Rattle.chr_plans.specs.Plans.{pattern_at}
use Rattle.chr_plans.specs.Rows.{Tables}
use Rattle.chr_plans.specs.Seats.{NoPartners, head}
use Rattle.chr_plans.proofs.Values.{head_value}

-- no valuation gives the terms these values
abbrev pub Differ : List Term → List ℤ → Type 0
Differ ts xs = (v : Valuation) → ¬ (map (term_value v) ts ≡ xs)

pub first_differs : (ts : List Term) (xs : List ℤ) (t : Term) (x : ℤ) → 1 ≤ length ts → 1 ≤ length xs
    → ((v : Valuation) → ¬ (term_value v (get_or ts 0 t) ≡ get_or xs 0 x)) → Differ ts xs
first_differs [] xs t x some more other v e = absurd (omega (arith, some))
first_differs (s ∷ ts) [] t x some more other v e = absurd (omega (arith, more))
first_differs (s ∷ ts) (y ∷ xs) t x some more other v e = other v (ap (λ zs. get_or zs 0 y) e)

pub others_differ : (ts : List Term) (xs : List ℤ) (b : Bool) → 1 ≤ length ts → 1 ≤ length xs
    → OnFalse b (Differ (take (length ts - 1) (drop 1 ts)) (take (length xs - 1) (drop 1 xs)))
    → OnFalse b (Differ ts xs)
others_differ [] xs b some more other = absurd (omega (arith, some))
others_differ (t ∷ ts) [] b some more other = absurd (omega (arith, more))
others_differ (t ∷ ts) (x ∷ xs) true some more other = tt
others_differ (t ∷ ts) (x ∷ xs) false some more other = λ v e.
    let a : take (length (t ∷ ts) - 1) ts ≡ ts = take_all (length (t ∷ ts) - 1) ts (omega arith) in
    let b : take (length (x ∷ xs) - 1) xs ≡ xs = take_all (length (x ∷ xs) - 1) xs (omega arith) in
    other v (ap (map (term_value v)) a ∙ ap (drop 1) e ∙ sym b)

-- an atom is no head whose pattern has other constants
pub no_partners : (r : Rule) (p : ℕ) (a : Atom) (b : Bool) → OnFalse b (Differ (pattern_at r p).args.items a.args.items)
    → OnTrue (not b) ((rows : Tables) → NoPartners r rows p a)
no_partners r p a true other = tt
no_partners r p a false other = λ rows heads seats s is.
    other s.instance.0 (ap (λ h. h.args.items)
    (sym (head_value r s.instance.0 p) ∙ ap (λ hs. head hs p) s.instance.1 ∙ is))
