-- Lines that are answered, one after another.
use Rattle.std.specs.Prelude.{◌≡◌, ◌≢◌, ◌==◌, ℕ, List, [], ◌∷◌, ◌++◌, length, All, if◌then◌else◌}
use Rattle.std.specs.List.{flat_map}
use Rattle.serde_json.specs.Written.{compact_text}
use Rattle.chr_base.specs.ProgramTests.{Declaration}
use Rattle.chr_base.specs.Programs.{declarations}
use Rattle.chr_ops.specs.Operations.{Operation}
use Rattle.chr_node_lines.specs.Asked.{line_asks}
use Rattle.chr_node_lines.specs.Replies.{reply_data}
use Rattle.chr_node_lines.specs.declared.reply.Reply.{Reply}
use Rattle.chr_node_talk.specs.Moments.{Run, Moment, Hears, next_id}
use Rattle.chr_node_talk.specs.Answers.{HeardAnswers, acknowledged_by}

-- The reply answers the line: it may take in what came in other files, and answers then what the line asks.
pub record AnswersLine (r : Run) (old : Moment) (line : List ℕ) (reply : Reply) (new : Moment) : Type 0 where
  pub now : Moment
  pub hears : Hears old now
  pub answers : HeardAnswers r now new (line_asks (declarations r.program) (next_id r old) line) reply

-- a line, its reply, and what is then
pub record Turn : Type 0 where
  pub line : List ℕ
  pub reply : Reply
  pub after : Moment

-- the lines are answered, one after another
abbrev pub AreAnswered : Run → Moment → List Turn → Moment → Type 0
AreAnswered r old [] new = new ≡ old
AreAnswered r old (t ∷ ts) new = AnswersLine r old t.line t.reply t.after × AreAnswered r t.after ts new

-- the operations that the replies acknowledge
abbrev pub acknowledged : Run → Moment → List Turn → List Operation
acknowledged r old [] = []
acknowledged r old (t ∷ ts) =
    acknowledged_by (line_asks (declarations r.program) (next_id r old) t.line) t.reply ++ acknowledged r t.after ts

-- a reply is a line of compact JSON
abbrev pub reply_line : List Declaration → Reply → List ℕ
reply_line ds p = compact_text (reply_data ds p) ++ 10 ∷ []

abbrev pub HasNoFeed : List ℕ → Type 0
HasNoFeed bytes = All (λ b. b ≢ 10) bytes

-- Bytes that come behind the beginning of a line are lines, each with its end, and the beginning of one more. Where the
-- first beginning has no line feed, none is inside a line or in the other beginning.
pub record IsCut (begun bytes : List ℕ) (ts : List Turn) (left : List ℕ) : Type 0 where
  pub are : begun ++ bytes ≡ flat_map (λ t. t.line ++ 10 ∷ []) ts ++ left
  pub lines : HasNoFeed begun → All (λ t. HasNoFeed t.line) ts
  pub rest : HasNoFeed begun → HasNoFeed left

-- The lines that end in the bytes, which come behind a beginning, are answered by the text, one after another. Another
-- beginning is left.
pub record Answered (r : Run) (old : Moment) (begun bytes text left : List ℕ) (new : Moment) : Type 0 where
  pub turns : List Turn
  pub cut : IsCut begun bytes turns left
  pub answered : AreAnswered r old turns new
  pub are : text ≡ flat_map (λ t. reply_line (declarations r.program) t.reply) turns

-- so are they, and each operation that the text acknowledges is kept
pub record Answers (r : Run) (old : Moment) (begun bytes text left : List ℕ) (new : Moment)
    (IsKept : Operation → Type 0) : Type 0 where
  pub answered : Answered r old begun bytes text left new
  pub kept : All IsKept (acknowledged r old answered.turns)

-- the end of a line that has begun and got none
abbrev pub last_end : List ℕ → List ℕ
last_end begun = if length begun == 0 then [] else 10 ∷ []
