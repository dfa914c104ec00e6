use Rattle.std.proofs.Common.{◌<◌, ◌+◌, ◌^◌, length, rules, subst}
use Rattle.std.specs.Bool.{OnFalse, OnTrue}
use Rattle.std.specs.Io.KnownBytes.{IsAtEnd}
use Rattle.chr_device.specs.Devices.{inner_of}
use Rattle.chr_read.specs.declared.reader.TheConstants.{MAX_TEXT}
use Rattle.chr_report.specs.working.Divided.{IsUndivided}
use Rattle.chr_report.proofs.Kept.{all_are_read, all_kept_decide, beginning_decides, both_decide}
use Rattle.chr_report.proofs.keeping.read_input.Goals as goal

pub returns-then-ended-clause-ok : goal.returns-then-ended-clause-ok
returns-then-ended-clause-ok g c =
    let to = g.R.Read.remaining (inner_of c.read_on.new.reader) in
    all_kept_decide (g.R.Read.remaining (inner_of c.args.reader.now)) to c.new-kept.result.items
    c.read_on.new.held.items c.new-kept.ensures.items c.in_ok-ended.ensures.held
    (subst (λ e. OnTrue e (IsAtEnd to)) c.if-ended.true c.in_ok-ended.ensures.end)

pub returns-in_default-clause-ok : goal.returns-in_default-clause-ok
returns-in_default-clause-ok g c =
    let kept = c.read_on.new.held.items in
    let long : MAX_TEXT + 4 < length kept =
    subst (λ e. OnFalse e (MAX_TEXT + 4 < length kept)) c.if-ended.false c.in_ok-ended.ensures.more in
    let undivided : IsUndivided kept = search rules in
    beginning_decides (g.R.Read.remaining (inner_of c.args.reader.now))
    (g.R.Read.remaining (inner_of c.read_on.new.reader)) c.new-kept.result.items kept
    c.new-kept.ensures.items c.in_ok-ended.ensures.held (long, undivided)

pub returns-clause-ok : goal.returns-clause-ok
returns-clause-ok g c =
    let kept = c.read_on-2.new.held.items in
    let next = g.R.Read.remaining (inner_of c.read_on-2.new.reader) in
    let small : length kept < 2 ^ 64 = search rules in
    both_decide (g.R.Read.remaining (inner_of c.args.reader.now)) (g.R.Read.remaining (inner_of c.read_on.new.reader))
    next c.new-kept.result.items c.read_on.new.held.items kept
    c.new-kept.ensures.items c.in_ok-ended.ensures.held c.in_ok-_all.ensures.held
    (all_are_read c.in_ok-_all._all next kept small c.in_ok-_all.ensures.end c.in_ok-_all.ensures.more)
