use Rattle.std.proofs.Common.{sym, ap, ◌∙◌, ◌++◌, subst}
use Rattle.chr_ops.specs.working.Entries.{Rise}
use Rattle.chr_ops.proofs.Appended.{moved}
use Rattle.chr_ops.proofs.entries.move_first.Goals as goal

pub returns-in-Ok-clause-same : goal.returns-in-Ok-clause-same
returns-in-Ok-clause-same c =
    let es = c.args.bags.now.entries in
    let rest = c.pop_front.new.self.items in
    let first = c.in-Some.ensures.items in
    ap (λ xs. xs ++ rest) c.in-Ok.ensures.entries
    ∙ moved c.in-Some.id c.in-Some.bag es rest (subst (λ xs. Rise (es ++ xs)) first c.requires)
    ∙ ap (λ xs. es ++ xs) (sym first)
