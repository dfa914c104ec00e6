use Rattle.std.proofs.Common.{◌∷◌, [], ◌++◌, length-append, arith}
use Rattle.chr_records.proofs.Sealed.{one_more, shorter}
use Rattle.chr_records.proofs.damage.find_damage.Goals as goal

pub loop-message-preserved : goal.loop-message-preserved
loop-message-preserved c =
    let i = c.loop-message.invariant in
    let rest = c.loop-message.rest.now in
    let message = c.in-Some._message.now in
    let behind = c.in-Some.behind.now in (
      i.0 ++ message ∷ [],
      one_more c.args.bytes.now rest message behind i.0 i.1 c.in-Some.ensures,
      omega (arith, i.2, length-append i.0 (message ∷ [])),
      omega (arith, i.3, shorter rest message behind c.in-Some.ensures),
    )
