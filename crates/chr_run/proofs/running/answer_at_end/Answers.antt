use Rattle.std.proofs.Common.{◌≡◌, [], rules, inl, inr, subst}
use Rattle.std.specs.Prelude.{string_bytes}
use Rattle.std.specs.Io.KnownBytes.{Appends}
use Rattle.std.proofs.KnownBytes.{Appends-nil}
use Rattle.chr_device.specs.Devices.{AppendsPart, inner_of}
use Rattle.chr_run.proofs.Moving.{on_err}
use Rattle.chr_run.proofs.Inputs.{if_ok, if_err}
use Rattle.chr_run.proofs.Outputs.{answers_too, ran}
use Rattle.chr_run.proofs.running.answer_at_end.Goals as goal

pub returns-in_err-answer-clause-err : goal.returns-in_err-answer-clause-err
returns-in_err-answer-clause-err g c = on_err c.from_residual.result (inl (Appends-nil _))

pub returns-clause-ok : goal.returns-clause-ok
returns-clause-ok g c =
    let none : string_bytes c.new-held.result ≡ [] = search rules in
    let first : c.new-batch.result.items ≡ [] = search rules in
    let old = g.W.Write.contents (inner_of c.args.writer.now) in
    let new = g.W.Write.contents (inner_of c.write_whole.new.writer) in
    if_ok c.write_whole.result (λ w. ran _ (Appends old new) _ _ _ _ _ c.new-source.ensures first none
    c.in_ok-answer.ensures.ok (subst (Appends old new) c.as_bytes.ensures.value w)) c.write_whole.ensures.ok

pub returns-clause-err : goal.returns-clause-err
returns-clause-err g c =
    let none : string_bytes c.new-held.result ≡ [] = search rules in
    let first : c.new-batch.result.items ≡ [] = search rules in
    let old = g.W.Write.contents (inner_of c.args.writer.now) in
    let new = g.W.Write.contents (inner_of c.write_whole.new.writer) in
    if_err c.write_whole.result (λ w. inr (answers_too _ _ (g.met.M.Machine.all _ _) _ _ _
    (ran _ (AppendsPart old new) _ _ _ _ _ c.new-source.ensures first none c.in_ok-answer.ensures.ok
    (subst (AppendsPart old new) c.as_bytes.ensures.value w)))) c.write_whole.ensures.err
