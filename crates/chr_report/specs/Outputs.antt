-- What is written for an input: the verdict on its program text, and by a run of an accepted program the answers of its
-- command lines.
use Rattle.std.specs.Prelude.{◌≡◌, ℕ, Bool, ◌⊎◌, List, [], ◌∷◌, ◌++◌, codes, length, replicate}
use Rattle.std.specs.Prelude.{Result, Ok, Err}
use Rattle.std.specs.Fmt.{decimal}
use Rattle.std.specs.FinMap as map
use Rattle.chr_base.specs.declared.rule.Rule.{Rule}
use Rattle.chr_base.specs.declared.program.Program.{Program}
use Rattle.chr_base.specs.declared.weight.Weight.{Weight}
use Rattle.chr_base.specs.ProgramTests.{Declaration, some_paired}
use Rattle.chr_base.specs.Weights.{weight_text}
use Rattle.chr_base.specs.Programs.{declarations, rules_of}
use Rattle.chr_weights.specs.Weights.{AreLowering, IsFirstNotLowered, weight_by}
use Rattle.chr_join.specs.declared.refused.Cause.{Cause}
use Rattle.chr_join.specs.declared.refused.Cause.TheVariants as cause
use Rattle.chr_join.specs.declared.coverage.Coverage.{Coverage}
use Rattle.chr_join.specs.Verdicts.{IsAcceptedBy}
use Rattle.chr_join.specs.Explanations.{IsRefusalBy}
use Rattle.chr_read.specs.Numbers.{number_of_fault}
use Rattle.chr_read.specs.ProgramTexts.{IsAnswer}
use Rattle.chr_read.specs.declared.fault.ReadFault.{ReadFault}
use Rattle.chr_read.specs.declared.fault.ReadFault.TheVariants as fault
use Rattle.chr_device.specs.declared.words.Verb.{Verb}
use Rattle.chr_device.specs.declared.words.Verb.TheVariants.{Check, Explain, Run, Serve}
use Rattle.chr_report.specs.declared.running.Status.{Status}
use Rattle.chr_report.specs.declared.running.Status.TheVariants.{Accepted, Refused}
use Rattle.chr_report.specs.declared.wanted.Wanted.{Wanted}
use Rattle.chr_answers.specs.Lines.{lines}
use Rattle.chr_report.specs.Inputs.{text_of, commands_of}
use Rattle.chr_answers.specs.Answers.{AnswersAll}
use Rattle.chr_report.specs.Overlaps.{failure_text, too_many_text}

-- the line of a text that is no program; want of memory has none
abbrev pub IsFaultLine : ReadFault → List ℕ → Type 0
IsFaultLine fault.TooLong out = out ≡ codes "refused 2" ++ 10 ∷ []
IsFaultLine (fault.Bad f k) out =
    out ≡ codes "refused " ++ decimal (number_of_fault f) ++ codes ": clause " ++ decimal k ++ 10 ∷ []
IsFaultLine fault.Memory out = ⊥

-- a rule that does not lower the weight, with the weights before and after it: both numbers of each, or the first alone
abbrev pub not_lowered_text : Bool → ℕ → Weight → Weight → List ℕ
not_lowered_text paired i before after =
    codes "refused 20: rule " ++ decimal i ++ codes "; before " ++ weight_text paired before
    ++ codes "; after " ++ weight_text paired after

-- the line of a program with a rule that does not lower the weight; both numbers are told where the second of some
-- symbol isn't 0
pub record IsRefusedByWeights (ds : List Declaration) (rules : List Rule) (out : List ℕ) : Type 0 where
  pub rule : ℕ
  pub before : Weight
  pub after : Weight
  pub first : IsFirstNotLowered ds rules rule before after
  pub out_is : out ≡ not_lowered_text (some_paired ds) rule before after ++ 10 ∷ []

-- the line of a cause for which a program is refused; want of memory is no such cause
abbrev pub IsCauseLine : List Declaration → Cause → List ℕ → Type 0
IsCauseLine ds (cause.Fails f) out = out ≡ failure_text ds f ++ 10 ∷ []
IsCauseLine ds (cause.TooManyTypes t) out = out ≡ too_many_text t ++ 10 ∷ []
IsCauseLine ds cause.Memory out = ⊥

-- the line of a program that lowers and is refused for its overlaps: for a failing case, or for an overlap with too
-- many order types, whichever comes first by the coverage
pub record IsRefusedByOverlaps (coverage : Coverage) (ds : List Declaration) (rules : List Rule) (out : List ℕ)
    : Type 0 where
  pub lowers : AreLowering (weight_by ds) rules
  pub cause : Cause
  pub first : IsRefusalBy coverage rules cause
  pub line : IsCauseLine ds cause out

abbrev pub accepted_text : ℕ → ℕ → List ℕ
accepted_text rules cases = codes "accepted: rules " ++ decimal rules ++ codes ", cases " ++ decimal cases

-- the line of a program of which no case fails, and the answers of `wanted.replicas` replicas that were told nothing
pub record IsAnswered (ds : List Declaration) (rules : List Rule) (wanted : Wanted) (commands : List (List ℕ))
    (out : List ℕ) : Type 0 where
  pub lowers : AreLowering (weight_by ds) rules
  pub cases : ℕ
  pub accepted : IsAcceptedBy wanted.coverage rules cases
  pub answers : List ℕ
  pub answered : AnswersAll ds rules commands (replicate wanted.replicas map.empty) answers
  pub out_is : out ≡ accepted_text (length rules) cases ++ 10 ∷ answers

abbrev pub IsRulesOutput : List Declaration → List Rule → Wanted → List (List ℕ) → Status → List ℕ → Type 0
IsRulesOutput ds rules wanted commands Accepted out = IsAnswered ds rules wanted commands out
IsRulesOutput ds rules wanted commands Refused out =
    IsRefusedByWeights ds rules out ⊎ IsRefusedByOverlaps wanted.coverage ds rules out

-- what is written for a text that is read to this answer
abbrev pub IsReadOutput : Result Program ReadFault → Wanted → List (List ℕ) → Status → List ℕ → Type 0
IsReadOutput (Ok p) wanted commands status out =
    IsRulesOutput (declarations p) (rules_of p) wanted commands status out
IsReadOutput (Err e) wanted commands status out = (status ≡ Refused) × IsFaultLine e out

-- the commands that are answered: none by a check and an explanation, all by a run and where they are served
abbrev pub asked : Verb → List (List ℕ) → List (List ℕ)
asked Check commands = []
asked Explain commands = []
asked Run commands = commands
asked Serve commands = commands

-- the output of an input, with its status: its program text is read to some answer, and this is written for that
abbrev pub IsOutput : Verb → Wanted → List ℕ → Status → List ℕ → Type 0
IsOutput verb wanted input status out =
    (answer : Result Program ReadFault) × IsAnswer (text_of (lines input)) answer
    × IsReadOutput answer wanted (asked verb (commands_of (lines input))) status out

-- whatever is written for the bytes that are kept is written for the input
abbrev pub Decides : List ℕ → List ℕ → Type 0
Decides kept input = (verb : Verb) (wanted : Wanted) (status : Status) (out : List ℕ) →
    IsOutput verb wanted kept status out → IsOutput verb wanted input status out
