-- In which columns two facts differ.
use Rattle.std.specs.Prelude.{◌≡◌, ℤ, List, [], ◌++◌, Bool}
use Rattle.std.proofs.Common.{sym, ap, subst, ◌∙◌}
use Rattle.chr_diagnosis.specs.Beside.{AreApart}

-- what was added to nothing is all
pub apart_of : (l r xs ys : List ℤ) (old new : List Bool)
    → ((more : List Bool) × (new ≡ old ++ more) × AreApart l r more) → old ≡ [] → l ≡ xs → r ≡ ys
    → AreApart xs ys new
apart_of l r xs ys old new h none left right =
    let is : new ≡ h.0 = h.1 ∙ ap (λ zs. zs ++ h.0) none in
    subst (AreApart xs ys) (sym is)
    (subst (λ zs. AreApart xs zs h.0) right (subst (λ zs. AreApart zs r h.0) left h.2))
