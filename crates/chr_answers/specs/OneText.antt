-- Command lines have answers, and for a confluent program these are one text.
use Rattle.std.specs.Prelude.{◌≡◌, ℕ, List, All, replicate}
use Rattle.std.specs.FinMap as map
use Rattle.chr_base.specs.declared.rule.Rule.{Rule}
use Rattle.chr_base.specs.ProgramTests.{Declaration}
use Rattle.chr_ops.specs.Operations.{Operations, told_store}
use Rattle.chr_weights.specs.Weights.{AreLowering, weight_by}
use Rattle.chr_base.specs.Values.{HasValues}
use Rattle.chr_confluence.specs.Confluence.{Confluent}
use Rattle.chr_answers.specs.Answers.{AnswersAll}

-- for a program that lowers each line has an answer, whatever the replicas were told before
abbrev pub AnswersExist : Type 0
AnswersExist =
    (ds : List Declaration) (rules : List Rule) → AreLowering (weight_by ds) rules
    → (lines : List (List ℕ)) (old : List Operations) → (out : List ℕ) × AnswersAll ds rules lines old out

-- two texts that answer the same lines, of replicas that were told 64-bit values, are equal
abbrev pub AnswersAreOne : Type 0
AnswersAreOne =
    (ds : List Declaration) (rules : List Rule) → Confluent rules
    → (lines : List (List ℕ)) (old : List Operations) → All (λ m. HasValues (told_store m)) old → (out other : List ℕ)
    → AnswersAll ds rules lines old out → AnswersAll ds rules lines old other → out ≡ other

-- two texts that answer the same lines, of `replicas` replicas that were told nothing, are equal
abbrev pub FirstAnswersAreOne : Type 0
FirstAnswersAreOne =
    (ds : List Declaration) (rules : List Rule) → Confluent rules → (replicas : ℕ) (lines : List (List ℕ))
    (out other : List ℕ) → AnswersAll ds rules lines (replicate replicas map.empty) out
    → AnswersAll ds rules lines (replicate replicas map.empty) other → out ≡ other
