-- There is a verdict on rules, and they determine it.
use Rattle.std.specs.Prelude.{◌≡◌, ◌⊎◌, ℕ, List, ⊤}
use Rattle.chr_base.specs.declared.atom.Atom.{Atom}
use Rattle.chr_base.specs.declared.program.Program.{Program}
use Rattle.chr_base.specs.declared.rule.Rule.{Rule}
use Rattle.chr_base.specs.Programs.{rules_of}
use Rattle.chr_weights.specs.Weights.{ProgramLowers}
use Rattle.chr_join.specs.declared.coverage.Coverage.{Coverage}
use Rattle.chr_join.specs.declared.refused.Failure.{Failure}
use Rattle.chr_join.specs.declared.refused.Cause.{Cause}
use Rattle.chr_join.specs.declared.refused.Cause.TheVariants as cause
use Rattle.chr_join.specs.Verdicts.{IsAccepted, IsAcceptedBy}
use Rattle.chr_confluence.specs.Confluence.{Confluent}
use Rattle.chr_confluence.specs.Lowering.{RulesLower}
use Rattle.chr_join.specs.Explanations.{IsRefusal, IsRefusalBy}

-- Both tell the same overlap and the same two derivations, with the same ends.
pub record SameFailure (f g : Failure) : Type 0 where
  pub overlap : f.overlap ≡ g.overlap
  pub left_start : f.left.start ≡ g.left.start
  pub left_steps : f.left.steps.items ≡ g.left.steps.items
  pub left_end : f.left_end ≡ g.left_end
  pub right_start : f.right.start ≡ g.right.start
  pub right_steps : f.right.steps.items ≡ g.right.steps.items
  pub right_end : f.right_end ≡ g.right_end

-- Both causes are of one kind and tell the same.
abbrev pub SameRefusal : Cause → Cause → Type 0
SameRefusal (cause.Fails f) (cause.Fails g) = SameFailure f g
SameRefusal (cause.TooManyTypes t) (cause.TooManyTypes u) = (t.overlap ≡ u.overlap) × (t.classes ≡ u.classes)
SameRefusal cause.Memory cause.Memory = ⊤
SameRefusal _ _ = ⊥

-- A program that lowers is accepted, or refused for a cause that is no want of memory.
abbrev pub VerdictsExist : Type 0
VerdictsExist =
    (p : Program) → ProgramLowers p
    → ((n : ℕ) × IsAccepted (rules_of p) n) ⊎ ((e : Cause) × IsRefusal (rules_of p) e × (¬ (e ≡ cause.Memory)))

-- Accepted rules have one number of cases.
abbrev pub AcceptedOnce : Type 0
AcceptedOnce =
    (coverage : Coverage) (rules : List Rule) (n m : ℕ) → IsAcceptedBy coverage rules n → IsAcceptedBy coverage rules m
    → n ≡ m

-- Rules that are refused have one cause, but for want of memory.
abbrev pub RefusedOnce : Type 0
RefusedOnce =
    (coverage : Coverage) (rules : List Rule) (e g : Cause) → IsRefusalBy coverage rules e
    → IsRefusalBy coverage rules g
    → ¬ (e ≡ cause.Memory) → ¬ (g ≡ cause.Memory) → SameRefusal e g

-- Accepted rules are refused for want of memory alone.
abbrev pub NeverBoth : Type 0
NeverBoth =
    (coverage : Coverage) (rules : List Rule) (n : ℕ) (e : Cause) → IsAcceptedBy coverage rules n
    → IsRefusalBy coverage rules e → e ≡ cause.Memory

-- Accepted rules that lower a weight are confluent.
abbrev pub AcceptedAreConfluent : Type 0
AcceptedAreConfluent =
    (coverage : Coverage) (rules : List Rule) (w : Atom → ℕ) (n : ℕ) → RulesLower w rules
    → IsAcceptedBy coverage rules n → Confluent rules

-- Rules that a failing case refuses are not confluent.
abbrev pub RefusedAreNotConfluent : Type 0
RefusedAreNotConfluent =
    (coverage : Coverage) (rules : List Rule) (f : Failure) → IsRefusalBy coverage rules (cause.Fails f)
    → ¬ (Confluent rules)
