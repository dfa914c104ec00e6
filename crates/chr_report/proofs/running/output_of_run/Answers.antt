use Rattle.std.proofs.Common.{◌≡◌, [], refl, rules, subst}
use Rattle.std.specs.Prelude.{Some, string_bytes}
use Rattle.std.specs.Io.KnownBytes.{Appends}
use Rattle.chr_device.specs.Devices.{inner_of}
use Rattle.chr_device.specs.declared.words.Verb.TheVariants.{Run}
use Rattle.chr_report.specs.Outputs.{IsOutput}
use Rattle.chr_report.specs.working.Divided.{IsDivided, IsUndivided}
use Rattle.chr_report.proofs.Inputs.{divided_written}
use Rattle.chr_report.proofs.Kept.{all_consumed, undivided_decides}
use Rattle.chr_report.proofs.Outcomes.{if_ok, kept_written}
use Rattle.chr_report.proofs.running.output_of_run.Goals as goal

pub returns-in-Some-clause-ok : goal.returns-in-Some-clause-ok
returns-in-Some-clause-ok g c =
    let from = g.D.Read.remaining (inner_of c.args.reader.now) in
    let to = g.D.Read.remaining (inner_of c.read_on.new.reader) in
    let kept = c.read_on.new.held.items in
    let text = c.in-Some.text.now in
    let first = c.in-Some.first.now in
    let d : IsDivided kept text first = search rules in
    if_ok c.output_of_text.result (λ o w.
    divided_written from to kept text first c.args.wanted o.status (Appends (Some []) (Some (string_bytes o.text)))
    (all_consumed from to c.new-kept.result.items kept c.new-kept.ensures.items c.in_ok-ended.ensures.held) d w)
    c.output_of_text.ensures.ok

pub returns-clause-ok : goal.returns-clause-ok
returns-clause-ok g c =
    let from = g.D.Read.remaining (inner_of c.args.reader.now) in
    let to = g.D.Read.remaining (inner_of c.read_on.new.reader) in
    let kept = c.read_on.new.held.items in
    let read : c.deref-2.result.now ≡ kept = search rules in
    let undivided : IsUndivided kept = search rules in
    let output = c.in_ok-output_of.field-0 in
    let out = string_bytes output.text in
    kept_written from kept out Run c.args.wanted output.status (Appends (Some []) (Some out))
    (undivided_decides c.in_ok-ended.ended from to c.new-kept.result.items kept c.new-kept.ensures.items
    c.in_ok-ended.ensures.held c.in_ok-ended.ensures.end c.in_ok-ended.ensures.more undivided)
    (subst (λ i. IsOutput Run c.args.wanted i output.status out) read c.in_ok-output_of.ensures) refl
