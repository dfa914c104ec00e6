-- Rules that lower a weight give normal forms, and are confluent where they are locally confluent.
use Rattle.std.specs.Prelude.{ℕ, List}
use Rattle.chr_base.specs.declared.atom.Atom.{Atom}
use Rattle.chr_base.specs.declared.rule.Rule.{Rule}
use Rattle.chr_base.specs.Stores.{Store, weight_of}
use Rattle.chr_base.specs.Rules.{Step}
use Rattle.chr_base.proofs.Steps.{step_lowers}
use Rattle.chr_base.specs.Rewriting.{IsLocallyConfluent, Stays, IsConfluent, IsNormalForm}
use Rattle.chr_base.proofs.Rewriting.{normal_form_of, newman}
use Rattle.chr_confluence.specs.Lowering.{RulesLower}
use Rattle.chr_confluence.proofs.Deciding.{steps_or_rests}

pub rests : (rules : List Rule) (w : Atom → ℕ) → RulesLower w rules → (s : Store) → (t : Store)
    × IsNormalForm (Step rules) s t
rests rules w lower s = normal_form_of (Step rules) (weight_of w) (step_lowers w rules lower) (steps_or_rests rules) s

pub confluent_over : (rules : List Rule) (w : Atom → ℕ) (ok : Store → Type 0) → RulesLower w rules
    → Stays (Step rules) ok → IsLocallyConfluent (Step rules) ok → IsConfluent (Step rules) ok
confluent_over rules w ok lower stays peaks = newman (Step rules) (weight_of w) (step_lowers w rules lower)
    (steps_or_rests rules) ok stays peaks
