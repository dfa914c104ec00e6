-- Atoms and multisets as numbers.
use Rattle.std.specs.Prelude.{◌≡◌, ℕ, ℤ, T, List}
use Rattle.std.specs.Coded.{Coded, code_by, coded×, coded_ℕ, coded_ℤ, coded_list}
use Rattle.std.specs.declared.cmp.Ordering.{Ordering}
use Rattle.std.proofs.Common.{refl}
use base.Stored.{coded_via}
use mathlib.Core.HLevel.{Σ_prop_path}
use lib.Dec.{T_prop}
use Rattle.chr_base.specs.declared.atom.Atom.{Atom}
use Rattle.chr_base.specs.FinBag.{FinBag, items, is_rising}

abbrev pub coded_atom : Coded Atom
coded_atom =
    code_by (ℕ × List ℤ) (coded× coded_ℕ (coded_list coded_ℤ)) (λ a. (a.symbol.0, a.args.items))
    (λ p. record { symbol = record { 0 = p.0 }; args = record { items = p.1 } }) (λ _. refl)

module _ {K : Type 0} {R : K → K → Ordering} where
  -- a multiset is its items, so that their code is its own
  pub same_items : (s t : FinBag R) → items s ≡ items t → s ≡ t
  unfolding items
  same_items s t e =
      let pairs : ◌≡◌ {A = (es : List K) × T (is_rising R es)} (s.list, s.sorted) (t.list, t.sorted)
      = Σ_prop_path (λ es. T_prop _) e in
      λ i. record { list = (pairs i).0; sorted = (pairs i).1 }

  abbrev pub code : Coded K → Coded (FinBag R)
  code k = coded_via (coded_list k) items same_items
