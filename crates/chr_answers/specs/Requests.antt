-- What lines ask for.
use Rattle.std.specs.Prelude.{◌≡◌, ℕ, ◌<◌, false, List, ◌∷◌, ◌++◌, All, IfSome, Result, ⊤}
use Rattle.chr_base.specs.declared.program.Program.{Program}
use Rattle.chr_base.specs.declared.rule.Rule.{Rule}
use Rattle.chr_base.specs.ProgramTests.{Declaration}
use Rattle.chr_base.specs.Programs.{declarations}
use Rattle.chr_json.specs.Commands.{Said}
use Rattle.chr_json.specs.Lines.{is_blank_line}
use Rattle.chr_json.specs.Reads.{line_said, HasIds}
use Rattle.chr_json.specs.declared.fault.LineFault.{LineFault}
use Rattle.chr_ops.specs.Operations.{Operations}
use Rattle.chr_replica.specs.Replicas.{IsDeclared}
use Rattle.chr_answers.specs.Answers.{AnswersAt, AnswersBetween, AnswersLacks, AnswersMerge, AnswersRead}
use Rattle.chr_answers.specs.Answers.{AnswersRefusal, AnswersShow, AnswersSummary, AnswersTell}
use Rattle.chr_answers.specs.declared.ahead.Heard.{Heard}
use Rattle.chr_answers.specs.declared.request.Request.{Request}
use Rattle.chr_answers.specs.declared.request.Request.TheVariants as request
use Rattle.chr_answers.specs.Lines.{without_return}
use Rattle.chr_answers.specs.Lines.{HasNoFeed}
use Rattle.chr_answers.specs.Lines.{last_bytes}

-- the answer to what is asked for
abbrev pub AnswersRequest :
    List Declaration → List Rule → List Operations → Request → List ℕ → List Operations → Type 0
AnswersRequest ds rules old (request.Tell r op) text new = AnswersAt old r (AnswersTell op) text new
AnswersRequest ds rules old (request.Merge r ops) text new = AnswersAt old r (AnswersMerge ops.items) text new
AnswersRequest ds rules old (request.Sync a b) text new = AnswersBetween old a b text new
AnswersRequest ds rules old (request.Show r) text new = AnswersAt old r (AnswersShow ds rules) text new
AnswersRequest ds rules old (request.Summary r) text new = AnswersAt old r AnswersSummary text new
AnswersRequest ds rules old (request.Lacks r rs v) text new = AnswersAt old r (AnswersLacks ds rs.items v) text new
AnswersRequest ds rules old (request.Refused r) text new = AnswersRefusal r old text new

-- its operations are of the program's atoms, and each of its ranges has an id
abbrev pub FitsProgram : Program → Request → Type 0
FitsProgram p (request.Tell r op) = IsDeclared p op
FitsProgram p (request.Merge r ops) = All (IsDeclared p) ops.items
FitsProgram p (request.Lacks r rs v) = All HasIds rs.items
FitsProgram p (request.Sync a b) = ⊤
FitsProgram p (request.Show r) = ⊤
FitsProgram p (request.Summary r) = ⊤
FitsProgram p (request.Refused r) = ⊤

-- its answer is that of the line that said this
pub record Asks (p : Program) (said : Result Said LineFault) (q : Request) : Type 0 where
  pub fits : FitsProgram p q
  pub answers : (rules : List Rule) (old : List Operations) (text : List ℕ) (new : List Operations)
      → AnswersRequest (declarations p) rules old q text new → AnswersRead (declarations p) rules old said text new

-- the first line of a text's last bytes, `left` of them, asks for this, and `more` bytes come after its end
pub record AsksFirst (p : Program) (text : List ℕ) (left more : ℕ) (q : Request) : Type 0 where
  pub line : List ℕ
  pub first : last_bytes left text ≡ line ++ 10 ∷ last_bytes more text
  pub unended : HasNoFeed line
  pub spoken : is_blank_line (without_return line) ≡ false
  pub asks : Asks p (line_said (without_return line)) q
  pub shorter : more < left

-- what was heard of a text's line is what it asks for
abbrev pub IsHeard : Program → List ℕ → Heard → Type 0
IsHeard p text h = IfSome h.request (AsksFirst p text h.left h.more)
