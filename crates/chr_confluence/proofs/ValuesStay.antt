-- Steps keep 64-bit values, since the constants of rules are 64-bit values.
use Rattle.std.specs.Prelude.{List}
use Rattle.std.proofs.Common.{refl}
use Rattle.chr_base.specs.declared.rule.Rule.{Rule}
use Rattle.chr_base.specs.Rules.{Step}
use Rattle.chr_base.specs.Rewriting.{Stays}
use Rattle.chr_base.specs.Values.{is_value, HasValues}
use Rattle.chr_confluence.proofs.ConstantLaws.{constants_fit}
use Rattle.chr_confluence.proofs.Rising.{values_kept}

-- steps stay within 64-bit values, since the constants of rules are 64-bit values
pub values_stay : (rules : List Rule) → Stays (Step rules) HasValues
values_stay rules s t each h = values_kept (λ x. x) is_value h.1 h.2 s t
    (λ c i. (constants_fit rules c (h.0, h.1, h.3, i), refl)) each h.4
