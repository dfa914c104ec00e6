use Rattle.chr_rewrite.proofs.Searching.{choice_there, none_found}
use Rattle.chr_rewrite.proofs.Earliest.{least_found}
use Rattle.chr_rewrite.proofs.choose.find_instance.Goals as goal

pub returns-then-complete-clause-there : goal.returns-then-complete-clause-there
returns-then-complete-clause-there c = rw (c.atoms_at.ensures, c.deref.ensures.0)
    (choice_there c.args.items.now c.complete.new.chosen.items c.complete.ensures.choice)

pub returns-else-complete-clause-none : goal.returns-else-complete-clause-none
returns-else-complete-clause-none c = none_found c.args.rule.now c.args.items.now
    (rw c.new-chosen.ensures at c.if-complete.ensures.none)

pub returns-then-complete-clause-least : goal.returns-then-complete-clause-least
returns-then-complete-clause-least c = λ rising. rw (c.atoms_at.ensures, c.deref.ensures.0)
    (least_found c.args.rule.now c.args.items.now c.complete.new.chosen.items c.complete.ensures.choice
    (rw c.new-chosen.ensures at c.if-complete.ensures.first) rising)
