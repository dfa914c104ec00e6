use Rattle.std.proofs.Common.{sym, subst}
use Rattle.chr_worlds.specs.working.Boards.{HoldsAllOf}
use Rattle.chr_worlds.proofs.Gaining.{met_on}
use Rattle.chr_worlds.proofs.board_list.BoardList.keep_met.Goals as goal

pub invariant_of-self : goal.invariant_of-self
invariant_of-self c =
    met_on c.self.inside.news c.met.new.self c.args.giver c.args.taker c.self.inside.boards.items c.met.ensures.met
    c.met.ensures.takers c.met.ensures.others
    (subst (λ bs. HoldsAllOf bs c.args.giver c.args.taker) (sym c.self.view_is)
    (c.requires c.in-Ok.field-0 c.in-Ok.is))
    c.self.invariant
