use Rattle.std.proofs.Common.{◌≡◌, ◌++◌, ℕ, List, sym, ap, subst, ◌∙◌}
use Rattle.std.specs.String.{string_bytes}
use Rattle.chr_base.specs.declared.program.Program.{Program}
use Rattle.chr_base.specs.Programs.{declarations}
use Rattle.chr_ops.specs.Operations.{Operation}
use Rattle.chr_node.specs.Nodes.{IsKept, KeepsOwn}
use Rattle.chr_node.proofs.Keeping.{keeps_then}
use Rattle.chr_node_talk.specs.Lines.{Answered}
use Rattle.chr_node_talk.specs.Moments.{Moment}
use Rattle.chr_node_talk.specs.Talks.{moment_of, run_of}
use Rattle.chr_node_talk.proofs.Keeping.{keeps_where}
use Rattle.chr_node_talk.proofs.Turns.{IsOwn, answers_kept}
use Rattle.chr_node_talk.proofs.machine.NodeMachine.answer_batch.Goals as goal

pub returns-clause-answers : goal.returns-clause-answers
returns-clause-answers g c =
    let operations = g.H.Holder.operations in
    let program = g.H.Holder.program in
    let old = c.args.self.now.talk in
    let begun = c.args.self.now.begun.items in
    let bytes = c.args.bytes.now in
    let mid = c.answer_lines.new.self.talk in
    let left = c.answer_lines.new.self.begun.items in
    let node = c.commit.new.self in
    let r = run_of program old in
    let a = moment_of operations old in
    let b = moment_of operations mid in
    let n : Moment = record { operations = operations node.holder; last = node.last; shown = mid.shown } in
    let h = c.in_ok-answer_lines.ensures.answers in
    let stays = c.answer_lines.ensures.stays in
    let same : n ≡ b =
    λ i. record {
      operations = operations (c.commit.ensures.holder i);
      last = c.commit.ensures.last i;
      shown = mid.shown;
    } in
    let answered : Answered r a begun bytes h.0 left n =
    subst (λ (m : Moment). Answered r a begun bytes h.0 left m) (sym same) h.2 in
    let outcomes = g.D.Disk.may_leave node.feed.disk in
    let ds = declarations (program old.node.holder) in
    let own : KeepsOwn outcomes ds (operations node.holder) node.origin =
    subst (λ (p : Program). KeepsOwn outcomes (declarations p) (operations node.holder) node.origin)
    (ap program c.commit.ensures.holder ∙ stays.keeps.same_program)
    (c.in_ok-commit.ensures.kept (stays.keeps.owner c.requires.owner)) in
    let origins : node.origin ≡ old.node.origin = c.commit.ensures.origin ∙ stays.keeps.same_origin in
    let text : string_bytes c.answer_lines.new.text ≡ h.0 =
    h.1 ∙ ap (λ (l : List ℕ). l ++ h.0) c.new-text.ensures.bytes in (
      h.0,
      c.in_ok-push_str.ensures.bytes
          ∙ ap (λ (l : List ℕ). string_bytes c.args.held.now ++ l) (c.as_str.ensures.value ∙ text),
      answers_kept r a n begun bytes h.0 left (IsKept outcomes ds)
          (λ (o : Operation) (is : IsOwn r n o). own o is.0 (is.1 ∙ sym origins)) answered,
    )

pub returns-clause-keeps : goal.returns-clause-keeps
returns-clause-keeps g c =
    let seen = g.D.Disk.seen in
    let operations = g.H.Holder.operations in
    let program = g.H.Holder.program in
    let mid = c.answer_lines.new.self.talk in
    let clean = g.F.Folder.is_clean mid.folder in
    keeps_then seen operations program clean clean c.args.self.now.talk.node mid.node c.commit.new.self
    (λ (is : clean). is) c.answer_lines.ensures.stays.keeps
    (keeps_where seen operations program g.F.Folder.is_clean clean mid.node c.commit.new.self
    c.in_ok-commit.ensures.keeps)
