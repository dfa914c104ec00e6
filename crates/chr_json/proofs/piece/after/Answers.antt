use Rattle.std.proofs.Common.{Some}
use Rattle.std.proofs.lemmas.Bool.Decides.{Decides-eqb}
use Rattle.std.proofs.lemmas.Slice.Eq.{strip_prefix_is}
use Rattle.chr_json.proofs.piece.after.Goals as goal

pub returns-in-Some : goal.returns-in-Some
returns-in-Some c = strip_prefix_is Decides-eqb c.args.text.now c.args.front.now
    (Some c.in-Some.rest) c.in-Some.ensures.cases
