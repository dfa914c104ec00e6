-- Ends of stores.
use Rattle.std.specs.Prelude.{List, Option, IfSome}
use Rattle.std.specs.List.{All}
use Rattle.chr_base.specs.declared.rule.Rule.{Rule}
use Rattle.chr_base.specs.declared.derivation.Step.{Step}
use Rattle.chr_base.specs.Stores.{Store}
use Rattle.chr_rewrite.specs.Derivations.{IsPlainComputation}
use Rattle.chr_join.specs.declared.ends.Known.{Known}

-- the plain derivation of s ends in t
abbrev pub EndsIn : List Rule → Store → Store → Type 0
EndsIn rules s t = (steps : List Step) × IsPlainComputation rules steps s t

-- each store's plain derivation ends in the end that is remembered with it
abbrev pub AreEnds : List Rule → List (Option Known) → Type 0
AreEnds rules es = All (λ e. IfSome e (λ k. EndsIn rules k.store k.end)) es
