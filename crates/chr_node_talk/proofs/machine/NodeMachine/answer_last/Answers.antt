use Rattle.std.specs.Prelude.{OnOk}
use Rattle.std.proofs.Common.{◌≡◌, ◌++◌, ℕ, List, [], true, false, refl, sym, subst}
use Rattle.std.proofs.lemmas.List.{append-nil}
use Rattle.std.specs.String.{string_bytes}
use Rattle.chr_base.specs.Programs.{declarations}
use Rattle.chr_node.specs.Nodes.{IsKept}
use Rattle.chr_node_talk.specs.Lines.{Answers, last_end}
use Rattle.chr_node_talk.specs.Talks.{moment_of, run_of}
use Rattle.chr_node_talk.proofs.Turns.{none_kept, end_of}
use Rattle.chr_node_talk.proofs.machine.NodeMachine.answer_last.Goals as goal

pub returns-then-is_empty-clause-answers : goal.returns-then-is_empty-clause-answers
returns-then-is_empty-clause-answers g c =
    let talk = c.args.self.now.talk in
    let begun = c.args.self.now.begun.items in (
      [],
      sym (append-nil (string_bytes c.args.held.now)),
      none_kept (run_of g.H.Holder.program talk) (moment_of g.H.Holder.operations talk) begun (last_end begun) begun
          (IsKept (g.D.Disk.may_leave talk.node.feed.disk) (declarations (g.H.Holder.program talk.node.holder)))
          (end_of c.is_empty.result true c.as_slice.result.now begun c.if-is_empty.true c.is_empty.ensures
          c.as_slice.ensures.value)
          refl,
    )

pub returns-clause-answers : goal.returns-clause-answers
returns-clause-answers g c =
    let operations = g.H.Holder.operations in
    let program = g.H.Holder.program in
    let talk = c.args.self.now.talk in
    let begun = c.args.self.now.begun.items in
    let new = c.answer_batch.new.self in
    let held = string_bytes c.args.held.now in
    subst (λ (l : List ℕ). OnOk c.answer_batch.result ((text : List ℕ)
    × (string_bytes c.answer_batch.new.held ≡ held ++ text)
    × Answers (run_of program talk) (moment_of operations talk) begun l text new.begun.items
    (moment_of operations new.talk)
    (IsKept (g.D.Disk.may_leave new.talk.node.feed.disk) (declarations (program talk.node.holder)))))
    (sym (end_of c.is_empty.result false c.as_slice.result.now begun c.if-is_empty.false c.is_empty.ensures
    c.as_slice.ensures.value))
    c.answer_batch.ensures.answers
