use Rattle.std.proofs.Common.{Ok, refl, sym, ap, subst, ◌∙◌, inl, inr}
use Rattle.chr_node_talk.specs.Answers.{IsExpected}
use Rattle.chr_node_talk.specs.Talks.{run_of}
use Rattle.chr_node_talk.proofs.Keeping.{stays_told}
use Rattle.chr_node_talk.proofs.talk.Talk.tell_next.Goals as goal

pub returns-in-Ok-New-clause-answers : goal.returns-in-Ok-New-clause-answers
returns-in-Ok-New-clause-answers g c = λ n expected.
    let is = c.in-Ok-New.is ∙ ap Ok c.in-Ok-New.field-0-is in
    let new = c.tell.ensures.new is in (
      c.id-id.ensures,
      subst (IsExpected (run_of g.H.Holder.program c.args.self.now) n) (sym c.id-id.ensures) expected,
      record {
        origin = new.0.0;
        number = new.0.1;
        absent = new.1.0;
        operations = new.1.1;
        last = c.tell.ensures.last is;
        shown = refl;
      },
    )

pub returns-in-Ok-New-clause-stays : goal.returns-in-Ok-New-clause-stays
returns-in-Ok-New-clause-stays g c =
    stays_told g.D.Disk.seen g.H.Holder.operations g.H.Holder.program g.F.Folder.is_clean c.args.self.now
    c.tell.new.self c.tell.ensures.keeps c.tell.ensures.feed

pub returns-in-Ok-Again-clause-stays : goal.returns-in-Ok-Again-clause-stays
returns-in-Ok-Again-clause-stays g c =
    stays_told g.D.Disk.seen g.H.Holder.operations g.H.Holder.program g.F.Folder.is_clean c.args.self.now
    c.tell.new.self c.tell.ensures.keeps c.tell.ensures.feed

pub returns-in-Err-clause-stays : goal.returns-in-Err-clause-stays
returns-in-Err-clause-stays g c =
    stays_told g.D.Disk.seen g.H.Holder.operations g.H.Holder.program g.F.Folder.is_clean c.args.self.now
    c.tell.new.self c.tell.ensures.keeps c.tell.ensures.feed

pub returns-in-Ok-Again-clause-refused : goal.returns-in-Ok-Again-clause-refused
returns-in-Ok-Again-clause-refused g c =
    inr (refl, c.tell.ensures.again (c.in-Ok-Again.is ∙ ap Ok c.in-Ok-Again.field-0-is))

pub returns-in-Err-clause-refused : goal.returns-in-Err-clause-refused
returns-in-Err-clause-refused g c = inl (c.in-Err.refusal, c.in-Err.ensures.refused, c.line_refusal.ensures)
