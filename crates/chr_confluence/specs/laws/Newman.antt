-- What Newman's lemma says of rules that lower a weight.
use Rattle.std.specs.Prelude.{Bool, IsTrue, ℕ, List}
use Rattle.chr_base.specs.declared.atom.Atom.{Atom}
use Rattle.chr_base.specs.declared.rule.Rule.{Rule}
use Rattle.chr_base.specs.Stores.{Store}
use Rattle.chr_base.specs.Rules.{Step}
use Rattle.chr_base.specs.Rewriting.{IsLocallyConfluent, IsNormalForm, Stays, IsConfluent}
use Rattle.chr_confluence.specs.Lowering.{RulesLower}

-- rules that lower a weight give each store a normal form
abbrev pub NormalFormsExist : Type 0
NormalFormsExist =
    (rules : List Rule) (w : Atom → ℕ) → RulesLower w rules → (s : Store) → (t : Store) × IsNormalForm (Step rules) s t

-- For the stores that pass a test which steps keep: where the ends of any two steps from one such store are joinable,
-- each such store has one normal form.
abbrev pub LocalConfluenceSuffices : Type 0
LocalConfluenceSuffices =
    (rules : List Rule) (w : Atom → ℕ) (ok : Store → Bool) → RulesLower w rules
    → Stays (Step rules) (λ s. IsTrue (ok s))
    → IsLocallyConfluent (Step rules) (λ s. IsTrue (ok s)) → IsConfluent (Step rules) (λ s. IsTrue (ok s))
