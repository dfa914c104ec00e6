-- Programs that differ in weights alone.
use Rattle.std.specs.Prelude.{◌≡◌, ℕ, zero, suc, List, [], ◌∷◌}
use Rattle.std.proofs.Common.{refl, ap, ◌∙◌}
use Rattle.chr_base.specs.declared.program.Program.{Program}
use Rattle.chr_base.specs.declared.weight.Weight.{Weight}
use Rattle.chr_base.specs.ProgramTests.{Declaration, with_weight}
use Rattle.chr_base.specs.Programs.{declarations, rules_of}
use Rattle.chr_base.specs.Weights.{default_weight}
use Rattle.chr_weighing.specs.Reweighing.{IsReweighed, without_weights}

pub reweighed_at : (ds : List Declaration) (i : ℕ) (w : Weight) → without_weights (with_weight ds i w)
    ≡ without_weights ds
reweighed_at [] i w = refl
reweighed_at (d ∷ ds) zero w = refl
reweighed_at (d ∷ ds) (suc i) w = ap (λ es. record d { weight = default_weight } ∷ es) (reweighed_at ds i w)

-- a program with another weight at one place is the same but for weights
pub put_at : (p q : Program) (i : ℕ) (w : Weight) → declarations q ≡ with_weight (declarations p) i w → rules_of q
    ≡ rules_of p → IsReweighed p q
put_at p q i w symbols rules = record {
  rules = rules;
  symbols = ap without_weights symbols
      ∙ reweighed_at (declarations p) i w;
}

pub reweighed_on : (p q r : Program) → IsReweighed p q → IsReweighed q r → IsReweighed p r
reweighed_on p q r h k = record { rules = k.rules ∙ h.rules; symbols = k.symbols ∙ h.symbols }

pub copied : (p q : Program) → declarations q ≡ declarations p → rules_of q ≡ rules_of p → IsReweighed p q
copied p q symbols rules = record { rules = rules; symbols = ap without_weights symbols }
