-- Confluence of rules.
use Rattle.std.specs.Prelude.{List}
use Rattle.chr_base.specs.declared.rule.Rule.{Rule}
use Rattle.chr_base.specs.Rules.{Step}
use Rattle.chr_base.specs.Rewriting.{IsConfluent}
use Rattle.chr_base.specs.Values.{HasValues}

-- any two normal forms of one store of 64-bit values are equal
abbrev pub Confluent : List Rule → Type 0
Confluent rules = IsConfluent (Step rules) HasValues
