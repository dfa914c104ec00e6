use Rattle.std.proofs.Common.{ℕ, List, [], ◌∷◌, sym, subst}
use Rattle.std.proofs.lemmas.List.{append-nil}
use Rattle.std.specs.String.{string_bytes}
use Rattle.chr_node_talk.specs.Lines.{Answered, AnswersLine, reply_line}
use Rattle.chr_node_talk.specs.Talks.{moment_of, run_of}
use Rattle.chr_base.specs.Programs.{declarations}
use Rattle.chr_node_talk.proofs.Turns.{part_answered, line_answered}
use Rattle.chr_node_talk.proofs.machine.NodeMachine.take.Goals as goal

pub returns-then-byte-ne10-clause-answers : goal.returns-then-byte-ne10-clause-answers
returns-then-byte-ne10-clause-answers g c =
    let old = c.args.self.now in
    let r = run_of g.H.Holder.program old.talk in
    let m = moment_of g.H.Holder.operations old.talk in (
      [],
      sym (append-nil (string_bytes c.args.text.now)),
      subst (λ (l : List ℕ). Answered r m old.begun.items (c.args.byte ∷ []) [] l m) (sym c.in_ok-push.ensures.items)
          (part_answered r m old.begun.items c.args.byte c.if-byte-ne10.true),
    )

pub returns-clause-answers : goal.returns-clause-answers
returns-clause-answers g c =
    let old = c.args.self.now in
    let r = run_of g.H.Holder.program old.talk in
    let m = moment_of g.H.Holder.operations old.talk in
    let n = moment_of g.H.Holder.operations c.answer_line.new.self in
    let a = c.in_ok-answer_line.ensures.answers in
    let text = reply_line (declarations r.program) a.0 in
    let answers : AnswersLine r m old.begun.items a.0 n =
    subst (λ (l : List ℕ). AnswersLine r m l a.0 n) c.deref.ensures.value a.1 in (
      text,
      a.2,
      subst (λ (l : List ℕ). Answered r m old.begun.items (c.args.byte ∷ []) text l n) (sym c.clear.ensures.items)
          (subst (λ (b : ℕ). Answered r m old.begun.items (b ∷ []) text [] n) (sym c.if-byte-ne10.false)
          (line_answered r m n old.begun.items a.0 answers)),
    )
