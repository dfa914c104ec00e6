-- Any two proofs that rules are confluent are equal, so a type may keep one; and what refutes confluence.
use Rattle.std.specs.Prelude.{◌≡◌, List}
use base.Stored.{Coded-set}
use Rattle.chr_base.specs.declared.rule.Rule.{Rule}
use Rattle.chr_base.specs.working.Codes.{coded_atom, code}
use Rattle.chr_base.specs.Stores.{Store}
use Rattle.chr_base.specs.Rules.{Step}
use Rattle.chr_base.specs.Rewriting.{IsNormalForm}
use Rattle.chr_base.proofs.Rewriting.{reaches_after}
use Rattle.chr_base.specs.Values.{HasValues}
use Rattle.chr_confluence.specs.Confluence.{Confluent}

Store-set : IsSet Store
Store-set = Coded-set (code coded_atom)

pub Confluent-prop : (rules : List Rule) → IsProp (Confluent rules)
Confluent-prop rules x y = λ i s t u values p q. Store-set t u (x s t u values p q) (y s t u values p q) i

pub not_confluent : (rules : List Rule) (s t u a b : Store) → HasValues s → Step rules s t → Step rules s u
    → IsNormalForm (Step rules) t a → IsNormalForm (Step rules) u b → (a ≡ b → ⊥) → Confluent rules → ⊥
not_confluent rules s t u a b values h g x y differ confluent =
    differ (confluent s a b values (reaches_after (Step rules) s t a h x.0, x.1)
    (reaches_after (Step rules) s u b g y.0, y.1))
