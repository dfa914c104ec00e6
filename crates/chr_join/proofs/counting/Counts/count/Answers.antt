use Rattle.std.proofs.Common.{◌∷◌, [], sym, subst}
use Rattle.std.proofs.lemmas.List.Elements.{All-append, All-cons, All-nil}
use Rattle.chr_join.specs.declared.counting.Count.{Count}
use Rattle.chr_join.specs.working.Counting.{AreCounts, IsCounted}
use Rattle.chr_join.proofs.counting.Counts.count.Goals as goal

pub returns-in_ok-push-clause-known : goal.returns-in_ok-push-clause-known
returns-in_ok-push-clause-known c =
    let is = IsCounted c.args.constants.now in
    let entry : Count = record { unified = c.args.unified; number = c.in_ok-number.number } in
    subst (AreCounts c.args.constants.now) (sym c.in_ok-push.ensures.items)
    (All-append is c.args.self.now.entries.items (entry ∷ []) c.requires.known
    (All-cons is entry [] c.in_ok-number.ensures (All-nil is)))
