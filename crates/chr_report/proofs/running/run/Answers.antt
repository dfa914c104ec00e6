use Rattle.std.proofs.Common.{◌≡◌, ◌∙◌, subst, sym}
use Rattle.chr_device.specs.Devices.{inner_of}
use Rattle.chr_device.specs.declared.words.Verb.TheVariants.{Run}
use Rattle.chr_report.specs.Asked.{wanted_by}
use Rattle.chr_report.specs.Written.{WritesBeginning, WritesOutput}
use Rattle.chr_report.proofs.Outcomes.{if_ok}
use Rattle.chr_report.proofs.Pieces.{if_err}
use Rattle.chr_report.proofs.running.run.Goals as goal

pub returns-then-is_shared-clause-ok : goal.returns-then-is_shared-clause-ok
returns-then-is_shared-clause-ok g c =
    let from = g.R.Read.remaining (inner_of c.args.reader.now) in
    let old = g.W.Write.contents (inner_of c.args.writer.now) in
    let new = g.W.Write.contents (inner_of c.run_by_workers.new.writer) in
    let verb : Run ≡ c.args.settings.command =
    sym (c.is_shared.ensures c.if-is_shared.true) ∙ c.from_settings-asked.ensures.verb in
    let wanted = wanted_by c.args.settings in
    if_ok c.run_by_workers.result (λ s w. subst (λ v. WritesOutput from old new v wanted s) verb
    (subst (λ k. WritesOutput from old new Run k s) c.from_settings-asked.ensures.wanted w)) c.run_by_workers.ensures.ok

pub returns-then-is_shared-clause-err : goal.returns-then-is_shared-clause-err
returns-then-is_shared-clause-err g c =
    let from = g.R.Read.remaining (inner_of c.args.reader.now) in
    let old = g.W.Write.contents (inner_of c.args.writer.now) in
    let new = g.W.Write.contents (inner_of c.run_by_workers.new.writer) in
    let verb : Run ≡ c.args.settings.command =
    sym (c.is_shared.ensures c.if-is_shared.true) ∙ c.from_settings-asked.ensures.verb in
    let wanted = wanted_by c.args.settings in
    if_err c.run_by_workers.result (λ w. subst (λ v. WritesBeginning from old new v wanted) verb
    (subst (WritesBeginning from old new Run) c.from_settings-asked.ensures.wanted w)) c.run_by_workers.ensures.err

pub returns-clause-ok : goal.returns-clause-ok
returns-clause-ok g c =
    let from = g.R.Read.remaining (inner_of c.args.reader.now) in
    let old = g.W.Write.contents (inner_of c.args.writer.now) in
    let new = g.W.Write.contents (inner_of c.run_asked.new.writer) in
    let wanted = wanted_by c.args.settings in
    let asked = c.from_settings-asked in
    if_ok c.run_asked.result (λ s w. subst (λ v. WritesOutput from old new v wanted s) asked.ensures.verb
    (subst (λ k. WritesOutput from old new asked.result.verb k s) asked.ensures.wanted w)) c.run_asked.ensures.ok

pub returns-clause-err : goal.returns-clause-err
returns-clause-err g c =
    let from = g.R.Read.remaining (inner_of c.args.reader.now) in
    let old = g.W.Write.contents (inner_of c.args.writer.now) in
    let new = g.W.Write.contents (inner_of c.run_asked.new.writer) in
    let wanted = wanted_by c.args.settings in
    let asked = c.from_settings-asked in
    if_err c.run_asked.result (λ w. subst (λ v. WritesBeginning from old new v wanted) asked.ensures.verb
    (subst (WritesBeginning from old new asked.result.verb) asked.ensures.wanted w)) c.run_asked.ensures.err
