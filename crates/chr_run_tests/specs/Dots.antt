-- A dot for each byte.
use Rattle.std.specs.Prelude.{◌≡◌, ℕ, List, [], ◌∷◌, ◌++◌}
use Rattle.std.proofs.Common.{ap, ◌∙◌, sym, refl}

abbrev pub dots : List ℕ → List ℕ
dots [] = []
dots (b ∷ bs) = 46 ∷ dots bs

pub dots_both : (a b : List ℕ) → dots a ++ dots b ≡ dots (a ++ b)
dots_both [] b = refl
dots_both (x ∷ xs) b = ap (λ l. 46 ∷ l) (dots_both xs b)

-- what answers a front and what answers the rest answer both
pub dots_join : (a b : List ℕ) {x y : List ℕ} → x ≡ dots a → y ≡ dots b → x ++ y ≡ dots (a ++ b)
dots_join a b {x} {y} e f = ap (λ l. l ++ y) e ∙ ap (λ l. dots a ++ l) f ∙ dots_both a b
