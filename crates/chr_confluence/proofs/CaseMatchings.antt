-- The matching of a case is one of the two rules.
use Rattle.std.specs.Prelude.{◌≡◌, ℕ, zero, suc, List, [], ◌∷◌, length, Some, slice_get}
use Rattle.std.proofs.Common.{refl, sym, ap, subst, ◌∙◌}
use Rattle.chr_base.specs.declared.atom.Atom.{Atom}
use Rattle.chr_base.specs.declared.term.Pattern.{Pattern}
use Rattle.chr_base.specs.declared.rule.Rule.{Rule}
use Rattle.chr_base.specs.Rules.{Valuation, term_value, atom_at, atoms_at, heads_of}
use Rattle.std.proofs.lemmas.List.{map-append, length-map}
use Rattle.chr_confluence.specs.Matchings.{MatchedAreEqual, Matches, matches_removed}
use Rattle.chr_confluence.specs.Cases.{IsCase, both_heads}
use Rattle.chr_confluence.specs.Overlaps.{SameSymbols, IsMatching}

some_same : {A : Type 0} (x y : A) → Some x ≡ Some y → x ≡ y
some_same x y h = cc

-- an atom of an instance stands for a pattern
pub found : (v : Valuation) (qs : List Pattern) (e : ℕ) (a : Atom) → slice_get (atoms_at v qs) e ≡ Some a
    → (q : Pattern) × (slice_get qs e ≡ Some q) × (atom_at v q ≡ a)
found v [] e a h = absurd cc
found v (q ∷ qs) zero a h = (q, refl, some_same (atom_at v q) a h)
found v (q ∷ qs) (suc e) a h = found v qs e a h

pub symbols_agree : (v1 v2 : Valuation) (qs : List Pattern) (m : List ℕ) (ps : List Pattern)
    → MatchedAreEqual (atoms_at v2 qs) m (atoms_at v1 ps) → SameSymbols qs m ps
symbols_agree v1 v2 qs [] [] h = tt
symbols_agree v1 v2 qs [] (p ∷ ps) h = h
symbols_agree v1 v2 qs (e ∷ m) [] h = h
symbols_agree v1 v2 qs (zero ∷ m) (p ∷ ps) h = symbols_agree v1 v2 qs m ps h
symbols_agree v1 v2 qs (suc e ∷ m) (p ∷ ps) h =
    let f = found v2 qs e (atom_at v1 p) h.0 in (
      (
        f.0,
        f.1,
        ap (λ a. a.symbol.0) (sym f.2),
        sym (length-map p.args.items (term_value v1))
            ∙ ap (λ a. length a.args.items) (sym f.2) ∙ length-map f.0.args.items (term_value v2),
      ),
      symbols_agree v1 v2 qs m ps h.1,
    )

pub both_heads_are : (r : Rule) (v : Valuation) → both_heads r v ≡ atoms_at v (heads_of r)
both_heads_are r v = sym (map-append (atom_at v) r.kept.items r.removed.items)

touching_at : (r1 r2 : Rule) (v1 v2 : Valuation) (m : List ℕ) → matches_removed (length (atoms_at v1 r1.kept.items))
    (length (atoms_at v2 r2.kept.items)) m ≡ matches_removed (length r1.kept.items) (length r2.kept.items) m
touching_at r1 r2 v1 v2 m = let a = length-map r1.kept.items (atom_at v1) in let b =
    length-map r2.kept.items (atom_at v2) in λ i. matches_removed (a i) (b i) m

pub matching_of : (r1 r2 : Rule) (m : List ℕ) (v1 v2 : Valuation) → IsCase r1 r2 m v1 v2 → IsMatching r1 r2 m
matching_of r1 r2 m v1 v2 h = record {
  symbols = symbols_agree v1 v2 (heads_of r2) m (heads_of r1)
      (subst (λ as'. MatchedAreEqual as' m (atoms_at v1 (heads_of r1))) (both_heads_are r2 v2)
      (subst (MatchedAreEqual (both_heads r2 v2) m) (both_heads_are r1 v1) h.matches.agrees));
  apart = h.matches.apart;
  touching = sym (touching_at r1 r2 v1 v2 m) ∙ h.matches.touching;
}

pub matches_at : (r1 r2 : Rule) (m : List ℕ) (v1 v2 : Valuation) → IsMatching r1 r2 m
    → MatchedAreEqual (both_heads r2 v2) m (both_heads r1 v1)
    → Matches (atoms_at v1 r1.kept.items) (atoms_at v1 r1.removed.items) (atoms_at v2 r2.kept.items)
    (atoms_at v2 r2.removed.items) m
matches_at r1 r2 m v1 v2 is a = record {
  agrees = a;
  apart = is.apart;
  touching = touching_at r1 r2 v1 v2 m
      ∙ is.touching;
}
