use Rattle.std.proofs.Common.{◌-◌, length, take, drop, arith, rules}
use Rattle.std.proofs.lemmas.Grind.{common_steps}
use Rattle.chr_records.proofs.Scans.{read_more}
use Rattle.chr_records.proofs.reading.split_record.Goals as goal

pub loop-i-preserved : goal.loop-i-preserved
loop-i-preserved c =
    let rest = take (length c.args.bytes.now - 1) (drop 1 c.args.bytes.now) in
    let both = read_more rest c.loop-i.i (grind (arith, common_steps)) (search rules)
    (search rules) c.loop-i.invariant.text c.loop-i.invariant.read in
    record { text = both.0; read = both.1 }
