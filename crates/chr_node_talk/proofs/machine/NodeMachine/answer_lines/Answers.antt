use Rattle.std.proofs.Common.{◌≡◌, ◌+◌, ◌++◌, ℕ, List, [], ◌∷◌, take, get_or, sym, subst, ◌∙◌, ap, append_assoc}
use Rattle.std.proofs.lemmas.List.{append-nil, take_more}
use Rattle.std.specs.String.{string_bytes}
use Rattle.chr_node_talk.specs.Lines.{Answered}
use Rattle.chr_node_talk.specs.Moments.{Run}
use Rattle.chr_node_talk.specs.Talks.{moment_of, run_of}
use Rattle.chr_node_talk.proofs.Keeping.{same_run, stays_same, stays_then}
use Rattle.chr_node_talk.proofs.Turns.{none_answered, answered_then}
use Rattle.chr_node_talk.proofs.machine.NodeMachine.answer_lines.Goals as goal

pub loop-byte-init : goal.loop-byte-init
loop-byte-init g c =
    let old = c.args.self.now in
    record {
      answers = (
        [],
        sym (append-nil (string_bytes c.args.text.now)),
        none_answered (run_of g.H.Holder.program old.talk) (moment_of g.H.Holder.operations old.talk) old.begun.items,
      );
      stays = stays_same g.D.Disk.seen g.H.Holder.operations g.H.Holder.program g.F.Folder.is_clean old.talk;
    }

pub returns-in_err-take-clause-stays : goal.returns-in_err-take-clause-stays
returns-in_err-take-clause-stays g c =
    stays_then g.D.Disk.seen g.H.Holder.operations g.H.Holder.program g.F.Folder.is_clean c.args.self.now.talk
    c.loop-byte.self.talk c.take.new.self.talk c.loop-byte.invariant.stays c.take.ensures.stays

pub loop-byte-preserved : goal.loop-byte-preserved
loop-byte-preserved g c =
    let old = c.args.self.now in
    let was = c.loop-byte.self in
    let r = run_of g.H.Holder.program old.talk in
    let a = moment_of g.H.Holder.operations old.talk in
    let b = moment_of g.H.Holder.operations was.talk in
    let n = moment_of g.H.Holder.operations c.take.new.self.talk in
    let bytes = c.args.bytes.now in
    let i = c.loop-byte.byte-index in
    let byte = get_or bytes i 0 in
    let left = c.take.new.self.begun.items in
    let h = c.loop-byte.invariant.answers in
    let t = c.in_ok-take.ensures.answers in
    let more : take (i + 1) bytes ≡ take i bytes ++ byte ∷ [] = take_more bytes i 0 c.loop-byte-test.true in
    let next : Answered r b was.begun.items (byte ∷ []) t.0 left n =
    subst (λ (x : Run). Answered x b was.begun.items (byte ∷ []) t.0 left n)
    (same_run g.D.Disk.seen g.H.Holder.operations g.H.Holder.program g.F.Folder.is_clean old.talk was.talk
    c.loop-byte.invariant.stays) t.2 in
    let joined : Answered r a old.begun.items (take i bytes ++ byte ∷ []) (h.0 ++ t.0) left n =
    answered_then r a b n old.begun.items (take i bytes) h.0 was.begun.items (byte ∷ []) t.0 left h.2 next in
    record {
      answers = (
        h.0 ++ t.0,
        t.1 ∙ ap (λ (l : List ℕ). l ++ t.0) h.1 ∙ append_assoc (string_bytes c.args.text.now) h.0 t.0,
        subst (λ (l : List ℕ). Answered r a old.begun.items l (h.0 ++ t.0) left n) (sym more) joined,
      );
      stays =
          stays_then g.D.Disk.seen g.H.Holder.operations g.H.Holder.program g.F.Folder.is_clean old.talk was.talk
          c.take.new.self.talk c.loop-byte.invariant.stays c.take.ensures.stays;
    }
