use Rattle.std.proofs.Common.{◌≡◌, true, Some, rules}
use Rattle.chr_syntax.specs.Bytes.{is_text}
use Rattle.chr_syntax.specs.Views.{clause_view}
use Rattle.chr_syntax.specs.working.Forms.{clause_of}
use Rattle.chr_syntax.proofs.Lexed.{read_is}
use Rattle.chr_syntax.proofs.reading.clause_in.Goals as goal

pub returns-in-Ok : goal.returns-in-Ok
returns-in-Ok c =
    let text : is_text c.args.bytes.now ≡ true = search rules in
    let read : clause_of c.args.bytes.now ≡ Some (clause_view c.in-Ok.clause) = c.in-Ok.ensures in
    (text, read_is c.args.bytes.now (clause_view c.in-Ok.clause) read)
