-- Rules that lower a weight are confluent where they are locally confluent; the law of parts; and confluence in the
-- usual sense.
use Rattle.std.specs.Prelude.{ℕ, List, ◌≡◌}
use Rattle.chr_base.specs.declared.atom.Atom.{Atom}
use Rattle.chr_base.specs.declared.rule.Rule.{Rule}
use Rattle.chr_base.specs.FinBag as bag
use Rattle.chr_base.specs.FinBag.{◌⊕◌}
use Rattle.chr_base.specs.Stores.{Store}
use Rattle.chr_base.proofs.Stores.{plus_comm}
use Rattle.chr_base.specs.Rules.{Step}
use Rattle.chr_base.proofs.Steps.{grows}
use Rattle.chr_base.specs.Rewriting.{IsLocallyConfluent, IsNormalForm, Reaches}
use Rattle.chr_base.proofs.Rewriting.{reaches_on, parts_reach, rest_reaches}
use Rattle.chr_base.specs.Values.{HasValues}
use Rattle.chr_confluence.specs.Confluence.{Confluent}
use Rattle.chr_confluence.specs.Lowering.{RulesLower}
use Rattle.chr_confluence.specs.laws.Parts.{whole, AreRested}
use Rattle.chr_confluence.proofs.ValuesStay.{values_stay}
use Rattle.chr_confluence.proofs.Newman.{rests, confluent_over}
use Rattle.chr_confluence.specs.laws.Joinability.{ReachedAreJoinable}
use Rattle.std.proofs.Common.{sym, subst, ◌∙◌}

pub confluent : (rules : List Rule) (w : Atom → ℕ) → RulesLower w rules → IsLocallyConfluent (Step rules) HasValues
    → Confluent rules
confluent rules w lower peaks = confluent_over rules w HasValues lower (values_stay rules) peaks

pub rested : (rules : List Rule) (ss ts : List Store) (t : Store) → AreRested rules ss ts
    → IsNormalForm (Step rules) (whole rules ts) t → IsNormalForm (Step rules) (whole rules ss) t
rested rules ss ts t h p = (
  reaches_on (Step rules) (whole rules ss) (whole rules ts) t
      (parts_reach (Step rules) bag.empty ◌⊕◌ (grows rules) plus_comm ss ts h) p.0,
  p.1,
)

-- the normal forms of two stores that one store reaches are equal
pub joinable : (rules : List Rule) (w : Atom → ℕ) → RulesLower w rules → Confluent rules → ReachedAreJoinable rules
joinable rules w lower one s t u values p q =
    let a = rests rules w lower t in
    let b = rests rules w lower u in
    let same : a.0 ≡ b.0 =
    one s a.0 b.0 values (reaches_on (Step rules) s t a.0 p a.1.0, a.1.1)
    (reaches_on (Step rules) s u b.0 q b.1.0, b.1.1) in
    (a.0, a.1.0, subst (Reaches (Step rules) u) (sym same) b.1.0)

-- two normal forms that are joinable are equal, since no step leads on from them
pub one_normal_form : (rules : List Rule) → ReachedAreJoinable rules → Confluent rules
one_normal_form rules joins s t u values p q =
    let j = joins s t u values p.0 q.0 in
    rest_reaches (Step rules) j.1.0 t j.0 p.1 j.1.1 ∙ sym (rest_reaches (Step rules) j.2.0 u j.0 q.1 j.2.1)
