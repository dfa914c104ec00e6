use Rattle.std.proofs.Common.{◌≡◌, ◌∙◌, ◌<◌, ℕ, List, length, subst, arith}
use Rattle.std.proofs.lemmas.List.{take_at}
use Rattle.sqlite_disk.specs.Disk.{Holds}
use Rattle.chr_feeds.proofs.Gates.{read_whole}
use Rattle.chr_feeds.proofs.recovery.read_file.Goals as goal

pub returns-clause-bytes : goal.returns-clause-bytes
returns-clause-bytes g c = λ clean.
    let file = g.D.Disk.seen c.args.disk.now in
    let counted = c.in_ok-len.ensures.len (c.read_at.ensures.clean clean) in
    let kept = c.read_at.auto.buf in
    let buf = c.read_at.new.buf in
    let long : length buf ≡ length file =
    omega (arith, kept, c.deref_mut.ensures.len, c.in_ok-resize.ensures.len, counted) in
    let some : 0 < length buf → 0 < length c.deref_mut.result.now = λ h. omega (arith, kept, h) in
    let held : 0 < length buf → Holds file 0 buf =
    λ h. subst (λ (f : List ℕ). Holds f 0 buf) c.len.ensures.seen (c.in_ok-read_at.ensures.read clean (some h)) in
    take_at buf _ _ (omega (arith, long, c.in_ok-resize.ensures.len, counted)) ∙ read_whole file buf long held
