-- Replies to what lines ask for.
use Rattle.std.specs.Prelude.{◌≡◌, ℕ, ◌-◌, List, [], ◌∷◌, ◌++◌, Result, IfOk, Some, slice_set, ⊤}
use Rattle.std.specs.declared.alloc.AllocError.{AllocError}
use Rattle.chr_base.specs.Programs.{declarations, rules_of}
use Rattle.chr_base.specs.declared.program.Program.{Program}
use Rattle.chr_base.specs.declared.rule.Rule.{Rule}
use Rattle.chr_base.specs.ProgramTests.{Declaration}
use Rattle.chr_ops.specs.Operations.{Operation, Operations}
use Rattle.chr_replica.specs.Replicas.{Replica, TellsEach}
use Rattle.chr_answers.specs.Answers.{AnswersAt, AnswersShow, held_by}
use Rattle.chr_answers.specs.declared.reply.Reply.{Reply}
use Rattle.chr_answers.specs.declared.service.Service.{Service}
use Rattle.chr_answers.specs.declared.request.Request.{Request}
use Rattle.chr_answers.specs.declared.request.Request.TheVariants as request
use Rattle.chr_answers.specs.Requests.{AnswersRequest}
use Rattle.chr_answers.specs.working.ReplyTexts.{reply_text}
use Rattle.chr_answers.specs.Services.{held, served}
use Rattle.chr_answers.specs.working.Resting.{AreAtRest}

-- Replicas of one program reply: R relates what they held, the reply's text, and what they hold then.
pub record IsAnswered (old new : Service) (R : List Operations → List ℕ → List Operations → Type 0)
    (reply : Result Reply AllocError) : Type 0 where
  pub program : new.world.accepted ≡ old.world.accepted
  pub answer : IfOk reply (λ r. R (held old) (reply_text (declarations (served old)) r) (held new))

-- the replica of a number replies, where there is one
abbrev pub IsAnsweredAt : Service → Service → ℕ → (Operations → List ℕ → Operations → Type 0)
    → Result Reply AllocError → Type 0
IsAnsweredAt old new r R reply = IsAnswered old new (λ held. AnswersAt held r R) reply

-- the replica that is to show its pool, if one is, is at rest
abbrev pub IsReadyFor : Service → Request → Type 0
IsReadyFor s (request.Show r) = AreAtRest s r
IsReadyFor s _ = ⊤

-- the text of the replica of a number, which stays as it is, has been added
pub record ShowsFrom (s : Service) (r : ℕ) (before after : List ℕ) : Type 0 where
  pub text : List ℕ
  pub answers : AnswersAt (held s) r (AnswersShow (declarations (served s)) (rules_of (served s))) text (held s)
  pub out_is : after ≡ before ++ text

-- the replica of a number, where there is one, is told these operations, one after the other
pub record HoldsMore (p : Program) (old : List Operations) (r : ℕ) (ops : List Operation) (new : List Operations)
    : Type 0 where
  pub before : Replica
  pub after : Replica
  pub there : held_by old r ≡ Some before.operations
  pub tells : TellsEach p before ops after
  pub others : new ≡ slice_set old (r - 1) after.operations

-- the answer to a request, with its line feed
pub record AddsReply (ds : List Declaration) (rules : List Rule) (old : List Operations) (q : Request)
    (before : List ℕ) (new : List Operations) (after : List ℕ) : Type 0 where
  pub text : List ℕ
  pub answers : AnswersRequest ds rules old q text new
  pub out_is : after ≡ before ++ text ++ 10 ∷ []
